-- `writer::copy` meets its contract. Assumes nothing.
use native.Mathlib.Omega.{arith}
use mathlib.Core.Path.{refl}
use Rattle.writer.proofs.Judging.{not-stored, room, stored}
use Rattle.payload.proofs.Handed.{handed}
use Rattle.writer.proofs.copy.Goals as goal

pub returns-in_err-n : goal.returns-in_err-n
returns-in_err-n c =
    let a = c.args in
    rw (handed _ c.from_residual.ensures) (not-stored a.out.now a.src.now refl _ c.in_err-n.ensures)

pub all-requires : goal.all-requires
all-requires c =
    let a = c.args in
    omega (arith, room a.out.now a.src.now refl c.in_ok-n.ensures)

pub returns : goal.returns
returns c =
    let a = c.args in
    let done = stored a.out.now a.src.now refl c.in_ok-n.ensures (omega arith) c.all.ensures.put in
    grind (arith, done)
