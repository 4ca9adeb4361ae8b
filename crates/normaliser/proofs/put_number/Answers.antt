-- `normaliser::put_number` meets its contract. Assumes nothing.
use native.Mathlib.Omega.{arith}
use Rattle.writer.proofs.Sizes.{number_size}
use Rattle.normaliser.proofs.Passing.{appends}
use Rattle.normaliser.proofs.put_number.Goals as goal

pub returns : goal.returns
returns c =
    let a = c.args in
    appends (omega arith) c.place-to.ensures c.write_number.ensures.output (omega (arith, number_size a.id.0 a.width a.x))
