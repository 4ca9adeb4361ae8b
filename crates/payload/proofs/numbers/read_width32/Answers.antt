-- `payload::numbers::read_width32` meets its contract. Assumes nothing.
use mathlib.Core.Path.{sym}
use native.Mathlib.Omega.{arith}
use Rattle.laws.proofs.LittleEndian.{within}
use Rattle.laws.proofs.Places.{num-lt}
use Rattle.payload.proofs.numbers.read_width32.Goals as goal

pub overflow_cast-result : goal.overflow_cast-result
overflow_cast-result c =
    let a = c.args in
    omega (arith, within c.requires, num-lt a.width a.bytes.now a.at c.type_inv.bytes (sym c.in_ok-x.ensures))
