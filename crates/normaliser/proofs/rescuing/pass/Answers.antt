-- `normaliser::rescuing::pass` meets its contract. The invariant is `Saving`: what is kept so far is counted, and in the output if it fits.
-- Assumes nothing.
use native.Mathlib.Omega.{arith}
use Rattle.normaliser.proofs.Joining.{between-length}
use Rattle.normaliser.proofs.Saving.{saving-start, counted, stray-ahead, past-stray, end-ahead, saved}
use Rattle.normaliser.proofs.rescuing.pass.Goals as goal

pub loop-ending-init : goal.loop-ending-init
loop-ending-init c = saving-start _ _ _ (omega arith) c.requires.1

pub copy_run-need-requires : goal.copy_run-need-requires
copy_run-need-requires c =
    let t = stray-ahead c.loop-ending.invariant c.in-Stray.is in
    let n = counted c.loop-ending.invariant t.on (omega (arith, t.there)) c.requires.0 in
    (t.on, omega (arith, t.there), omega (arith, n.0, n.2))

pub overflow_add-strays : goal.overflow_add-strays
overflow_add-strays c =
    let t = stray-ahead c.loop-ending.invariant c.in-Stray.is in
    let n = counted c.loop-ending.invariant t.on (omega (arith, t.there)) c.requires.0 in
    omega (arith, n.1, n.2)

pub loop-ending-smaller : goal.loop-ending-smaller
loop-ending-smaller c =
    let t = stray-ahead c.loop-ending.invariant c.in-Stray.is in
    omega (arith, t.on, t.there)

pub loop-ending-preserved : goal.loop-ending-preserved
loop-ending-preserved c =
    past-stray c.loop-ending.invariant c.in-Stray.is c.copy_run-need.ensures c.stretch-ending.ensures

pub copy_run-need-requires-in-End : goal.copy_run-need-requires-in-End
copy_run-need-requires-in-End c =
    let t = end-ahead c.loop-ending.invariant c.in-End.is in
    let n = counted c.loop-ending.invariant t.on t.there c.requires.0 in
    (t.on, t.there, omega (arith, n.0, n.2))

pub put_closes-need-requires : goal.put_closes-need-requires
put_closes-need-requires c =
    let a = c.args in
    let t = end-ahead c.loop-ending.invariant c.in-End.is in
    let n = counted c.loop-ending.invariant t.on t.there c.requires.0 in
    omega (arith, n.0, n.2, t.on, t.shallow, c.copy_run-need-in-End.ensures.count, between-length a.bytes.now c.loop-ending.at _ t.there)

pub returns-in-End : goal.returns-in-End
returns-in-End c =
    saved c.loop-ending.invariant (omega arith) c.in-End.is
    c.copy_run-need-in-End.ensures c.put_closes-need.ensures
