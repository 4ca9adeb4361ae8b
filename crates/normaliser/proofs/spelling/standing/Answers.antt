-- `normaliser::spelling::standing` meets its contract: the tokens so far stand as they are spelled. Assumes nothing.
use native.Mathlib.Omega.{arith}
use Rattle.normaliser.proofs.Spelled.{run_none, run-stands}
use Rattle.normaliser.proofs.spelling.standing.Goals as goal

pub loop-next-init : goal.loop-next-init
loop-next-init c = run_none c.args.bytes.now c.args.start (omega arith)

pub loop-next-smaller : goal.loop-next-smaller
loop-next-smaller c =
    let t = run-stands c.loop-next.invariant (rw c.in-Some-Stands.field-0-is at c.in-Some-Stands.ensures) in
    omega (arith, t.0, t.1.there)

pub loop-next-preserved : goal.loop-next-preserved
loop-next-preserved c = (run-stands c.loop-next.invariant (rw c.in-Some-Stands.field-0-is at c.in-Some-Stands.ensures)).1
