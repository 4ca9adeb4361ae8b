-- `token::compact_token` meets its contract. Assumes nothing.
use mathlib.Core.Path.{ap, ◌∙◌}
use borrow.Author.Rules.{part_to_end}
use Rattle.std.proofs.Common.{rules}
use Rattle.form.specs.Readers.{placed}
use Rattle.token.specs.declared.Token.TheVariants as T
use Rattle.token.proofs.Payloads.{made-is}
use Rattle.token.proofs.compact_token.Goals as goal

pub returns : goal.returns
returns c =
    made-is T.F64 _ (λ x t k. search rules) _ _ c.made.ensures
    ∙ ap (placed (λ _. T.F64)) (rw (part_to_end c.args.bytes.now 0) at c.read_compact_f64.ensures)
