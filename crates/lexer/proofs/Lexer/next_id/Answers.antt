-- `lexer::Lexer::next_id` meets its contract. Assumes nothing.
use native.Mathlib.Omega.{arith}
use Rattle.laws.proofs.Inside.{num-inside}
use Rattle.std.proofs.Common.{rules}
use Rattle.lexer.proofs.Endings.{nexted-by}
use Rattle.lexer.proofs.Lexer.next_id.Goals as goal

pub returns : goal.returns
returns c =
    let h = nexted-by (λ x. x.0) _ _ _ (num-inside 2 (omega arith)) _ c.read_id.ensures c.next.ensures in
    search (rules, h)
