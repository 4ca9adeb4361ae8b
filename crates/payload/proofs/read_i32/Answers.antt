-- `payload::read_i32` meets its contract. Assumes nothing.
use Rattle.std.specs.Prelude.{Err}
use mathlib.Core.Path.{◌≡◌, sym}
use native.Mathlib.Omega.{arith}
use Rattle.std.proofs.Common.{rules, to_z, of_z}
use Rattle.std.specs.Int.{w32}
use Rattle.form.specs.Readers.{mapped}
use Rattle.laws.proofs.Places.{num-lt}
use Rattle.payload.proofs.Handed.{handed}
use Rattle.payload.proofs.read_i32.Goals as goal

pub returns-in_err-x : goal.returns-in_err-x
unfolding mapped
returns-in_err-x c =
    let e : c.read_width.result ≡ Err c.in_err-x.field-0.0 = search rules in
    let h = rw e at c.read_width.ensures in
    rw (handed _ c.from_residual.ensures, sym h)

pub signed32-requires : goal.signed32-requires
signed32-requires c = let a = c.args in omega (arith, num-lt 4 a.bytes.now a.at c.type_inv.bytes (sym c.in_ok-x.ensures))

pub returns : goal.returns
unfolding mapped
returns c =
    let t : to_z w32 (of_z w32 c.signed32.result) ≡ c.signed32.result = search rules in
    rw (sym c.in_ok-x.ensures, t, c.signed32.ensures)
