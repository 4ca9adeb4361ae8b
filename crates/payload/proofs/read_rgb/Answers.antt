-- `payload::read_rgb` meets its contract. Assumes nothing.
use mathlib.Core.Path.{sym, ap, ◌∙◌}
use native.Mathlib.Omega.{arith}
use lib.ListN.{length, length-drop}
use Rattle.form.specs.Readers.{further}
use Rattle.form.specs.Reading.{rgb}
use Rattle.split.proofs.Enough.{rest-drop}
use Rattle.payload.proofs.Handed.{handed}
use Rattle.payload.proofs.Rests.{from-rest, colour-in}
use Rattle.payload.proofs.read_rgb.Goals as goal

pub returns-in_err-colour : goal.returns-in_err-colour
unfolding further
returns-in_err-colour c =
    let a = c.args in
    rw (handed _ c.from_residual.ensures) (from-rest rgb a.bytes.now a.at c.split_rest-rest.ensures (sym c.in_err-colour.ensures))

pub overflow_add-next : goal.overflow_add-next
overflow_add-next c =
    let a = c.args in
    let s = a.bytes.now in
    let t = c.split_rest-rest.ensures ∙ rest-drop s a.at in
    omega (arith, ap length t, length-drop a.at s, colour-in _ (sym c.in_ok-colour.ensures))

pub returns : goal.returns
unfolding further
returns c =
    let a = c.args in
    from-rest rgb a.bytes.now a.at c.split_rest-rest.ensures (sym c.in_ok-colour.ensures)
