-- `writer::judge_lookup` meets its contract. Assumes nothing.
use mathlib.Core.Path.{sym, ◌∙◌}
use Rattle.form.specs.Writing.{outcome, unless}
use Rattle.writer.specs.Layouts.{spelled_by, misplaced_by, reason_by, write_by}
use Rattle.writer.proofs.Sizes.{number_size}
use Rattle.writer.proofs.judge_lookup.Goals as goal

pub returns-then-is_narrow : goal.returns-then-is_narrow
unfolding write_by misplaced_by reason_by spelled_by unless outcome
returns-then-is_narrow c s =
    let narrow = sym c.is_narrow.ensures ∙ c.if-is_narrow.true in
    rw narrow (c.fit.ensures _ (number_size _ 3 c.args.n))

pub returns : goal.returns
unfolding write_by misplaced_by reason_by spelled_by unless outcome
returns c s = rw (sym c.is_narrow.ensures ∙ c.if-is_narrow.false)
