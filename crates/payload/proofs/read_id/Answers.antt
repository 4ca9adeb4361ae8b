-- `payload::read_id` meets its contract. Assumes nothing.
use mathlib.Core.Path.{sym}
use native.Mathlib.Omega.{arith}
use Rattle.laws.proofs.Places.{num-lt}
use Rattle.payload.proofs.read_id.Goals as goal

pub overflow_cast-id : goal.overflow_cast-id
overflow_cast-id c = let a = c.args in omega (arith, num-lt 2 a.bytes.now a.at c.type_inv.bytes (sym c.in_ok-id.ensures))
