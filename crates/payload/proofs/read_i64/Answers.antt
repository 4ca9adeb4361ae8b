-- `payload::read_i64` meets its contract. Assumes nothing.
use Rattle.std.specs.Prelude.{Err}
use mathlib.Core.Path.{◌≡◌, sym}
use Rattle.std.proofs.Common.{rules, to_z, of_z}
use Rattle.std.specs.Int.{w64}
use Rattle.form.specs.Readers.{mapped}
use Rattle.payload.proofs.Handed.{handed}
use Rattle.payload.proofs.read_i64.Goals as goal

pub returns-in_err-x : goal.returns-in_err-x
unfolding mapped
returns-in_err-x c =
    let e : c.read_width.result ≡ Err c.in_err-x.field-0.0 = search rules in
    let h = rw e at c.read_width.ensures in
    rw (handed _ c.from_residual.ensures, sym h)

pub returns : goal.returns
unfolding mapped
returns c =
    let t : to_z w64 (of_z w64 c.signed64.result) ≡ c.signed64.result = search rules in
    rw (sym c.in_ok-x.ensures, t, c.signed64.ensures)
