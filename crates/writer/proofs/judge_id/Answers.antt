-- `writer::judge_id` meets its contract. Assumes nothing.
use mathlib.Core.Path.{◌≡◌, sym, ap, ◌∙◌}
use mathlib.Core.Bool.{not, true, false}
use borrow.Author.Tests.{not-true, not-false}
use Rattle.form.specs.Table.{reserved}
use Rattle.form.specs.Writing.{outcome, unless}
use Rattle.laws.proofs.LittleEndian.{length-bytes}
use Rattle.writer.specs.Layouts.{spelled_by, misplaced_by, reason_by, write_by}
use Rattle.writer.proofs.judge_id.Goals as goal

pub returns-then-is_id : goal.returns-then-is_id
unfolding write_by misplaced_by reason_by spelled_by unless outcome
returns-then-is_id c s =
    let x = c.args.x in
    let plain : reserved x ≡ false =
    not-true _ (sym (ap (λ i. not (reserved i)) c.new-id.ensures) ∙ sym c.is_id.ensures ∙ c.if-is_id.true) in
    rw plain (c.judge_plain.ensures _ (length-bytes 2 x))

pub returns : goal.returns
unfolding write_by misplaced_by reason_by spelled_by unless outcome
returns c s =
    let taken : reserved c.args.x ≡ true =
    not-false _ (sym (ap (λ i. not (reserved i)) c.new-id.ensures) ∙ sym c.is_id.ensures ∙ c.if-is_id.false) in
    rw taken
