-- `writer::judge_empty` meets its contract. Assumes nothing.
use mathlib.Core.Path.{◌≡◌, sym}
use mathlib.Core.Option.{none, some}
use Rattle.form.specs.Refusals.{BadPlace}
use Rattle.form.specs.Writing.{outcome, unless}
use Rattle.laws.proofs.LittleEndian.{length-bytes}
use Rattle.writer.specs.Layouts.{spelled_by, misplaced_by, reason_by, write_by}
use Rattle.token.specs.Texts.{place_of}
use Rattle.payload.proofs.Handed.{handed}
use Rattle.writer.proofs.judge_empty.Goals as goal

pub returns-in_err-text : goal.returns-in_err-text
unfolding write_by misplaced_by reason_by spelled_by unless outcome
returns-in_err-text c =
    let q : place_of c.args.bytes.now c.args.t ≡ some (BadPlace c.in_err-text.field-0.0.0) = sym c.in_err-text.ensures in
    rw (handed _ c.from_residual.ensures, q)

pub returns : goal.returns
unfolding write_by misplaced_by reason_by spelled_by unless outcome
returns c =
    let q : place_of c.args.bytes.now c.args.t ≡ none = sym c.in_ok-text.ensures in
    rw q (c.judge_plain.ensures _ (length-bytes 2 0x0d42))
