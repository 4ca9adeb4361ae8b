-- `writer::write_number` meets its contract. Assumes nothing.
use native.Mathlib.Omega.{arith}
use Rattle.writer.specs.Layouts.{id_number}
use Rattle.writer.proofs.Judging.{not-stored, room, stored}
use Rattle.payload.proofs.Handed.{handed}
use Rattle.writer.proofs.Sizes.{number_size}
use Rattle.writer.proofs.write_number.Goals as goal

pub returns-in_err-n : goal.returns-in_err-n
returns-in_err-n c =
    let a = c.args in
    rw (handed _ c.from_residual.ensures)
    (not-stored a.out.now (id_number a.id.0 a.width a.x) (number_size a.id.0 a.width a.x) _ c.in_err-n.ensures)

pub id_number-requires : goal.id_number-requires
id_number-requires c =
    let a = c.args in
    let e = number_size a.id.0 a.width a.x in
    omega (arith, e, room a.out.now (id_number a.id.0 a.width a.x) e c.in_ok-n.ensures)

pub returns : goal.returns
returns c =
    let a = c.args in
    let done = stored a.out.now (id_number a.id.0 a.width a.x) (number_size a.id.0 a.width a.x) c.in_ok-n.ensures (omega arith) c.id_number.ensures.put in
    grind (arith, done)
