-- `writer::judge_text` meets its contract. Assumes nothing.
use mathlib.Core.Path.{◌≡◌, sym, ap, ◌∙◌}
use Prim.Native.Nat.{◌+◌}
use mathlib.Core.Option.{none, some}
use Rattle.form.specs.Refusals.{BadPlace}
use Rattle.form.specs.Writing.{outcome, unless}
use Rattle.payload.specs.Texts.{part_of}
use Rattle.token.specs.Texts.{place_of}
use Rattle.writer.specs.Layouts.{spelled_by, misplaced_by, reason_by, write_by}
use Rattle.payload.proofs.Handed.{handed}
use Rattle.writer.proofs.Sizes.{text-size}
use Rattle.writer.proofs.LayingOut.{placed-length}
use Rattle.writer.proofs.judge_text.Goals as goal

pub returns-in_err-text : goal.returns-in_err-text
unfolding write_by misplaced_by reason_by spelled_by unless outcome
returns-in_err-text c =
    let q : place_of c.args.bytes.now c.args.t ≡ some (BadPlace c.in_err-text.field-0.0.0) = sym c.in_err-text.ensures in
    rw (handed _ c.from_residual.ensures, q)

pub returns-then-not-is_short : goal.returns-then-not-is_short
unfolding write_by misplaced_by reason_by spelled_by unless outcome
returns-then-not-is_short c =
    let q : place_of c.args.bytes.now c.args.t ≡ none = sym c.in_ok-text.ensures in
    rw (q, sym c.is_short.ensures ∙ c.if-not-is_short.true)

pub returns : goal.returns
unfolding write_by misplaced_by reason_by spelled_by unless outcome
returns c =
    let a = c.args in
    let s = a.bytes.now in
    let q : place_of s a.t ≡ none = sym c.in_ok-text.ensures in
    rw (q, sym c.is_short.ensures ∙ c.if-not-is_short.false)
    (c.fit.ensures _ (text-size a.id.0 (part_of s a.t) ∙ ap (λ n. 4 + n) (placed-length s a.t q)))
