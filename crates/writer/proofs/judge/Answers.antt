-- `writer::judge` meets its contract. Assumes nothing.
use mathlib.Core.Path.{ap, ◌∙◌}
use Prim.Native.Nat.{◌+◌}
use Rattle.form.specs.Writing.{outcome, unless}
use Rattle.writer.specs.Layouts.{spelled_by, misplaced_by, reason_by, write_by}
use Rattle.writer.proofs.Sizes.{number_size, end_size, colour-size}
use Rattle.writer.proofs.judge.Goals as goal

pub returns-in-Number : goal.returns-in-Number
unfolding write_by misplaced_by reason_by spelled_by unless outcome
returns-in-Number c =
    rw c.in-Number.is (c.fit.ensures _ (number_size c.in-Number.field-0.0 c.in-Number.width c.in-Number.field-2))

pub returns-in-None : goal.returns-in-None
unfolding write_by misplaced_by reason_by spelled_by unless outcome
returns-in-None c =
    rw c.in-Rgb.is (c.fit-in-None.ensures _ (colour-size c.in-Rgb.c ∙ ap (λ a. 22 + end_size a) c.in-None.is))

pub returns-in-Some : goal.returns-in-Some
unfolding write_by misplaced_by reason_by spelled_by unless outcome
returns-in-Some c =
    rw c.in-Rgb.is (c.fit-in-Some.ensures _ (colour-size c.in-Rgb.c ∙ ap (λ a. 22 + end_size a) c.in-Some.is))
