-- `normaliser::NormalPass::pass` meets its contract. The invariant is `Going`: what the tokens so far are spelled by is counted, and in the
-- output if it fits. Assumes nothing.
use native.Mathlib.Omega.{arith}
use Rattle.payload.proofs.Handed.{handed}
use Rattle.normaliser.proofs.Passing.{going_start, going_end, going-stopped, bounded, run-there, went_on, turned}
use Rattle.normaliser.proofs.NormalPass.pass.Goals as goal

pub loop-x-init : goal.loop-x-init
loop-x-init c = going_start _ _ (omega arith)

pub copy_run-need-requires : goal.copy_run-need-requires
copy_run-need-requires c = run-there c.loop-x.invariant c.standing-run.ensures.0 c.requires

-- ---- a number

pub put_spelling-need-requires : goal.put_spelling-need-requires
put_spelling-need-requires c =
    let g = went_on c.loop-x.invariant c.standing-run.ensures.0 c.copy_run-need.ensures in
    omega (arith, bounded g c.requires)

pub loop-x-smaller-in-Some : goal.loop-x-smaller-in-Some
loop-x-smaller-in-Some c =
    let t = rw c.in-Some.is at c.standing-run.ensures.1 in
    omega (arith, c.standing-run.ensures.0.on, t.0, t.1.there)

pub loop-x-preserved-in-Some : goal.loop-x-preserved-in-Some
loop-x-preserved-in-Some c =
    let t = rw c.in-Some.is at c.standing-run.ensures.1 in
    went_on (went_on c.loop-x.invariant c.standing-run.ensures.0 c.copy_run-need.ensures) t.1 c.put_spelling-need.ensures

-- ---- or another token

pub returns-then-end-bytes : goal.returns-then-end-bytes
returns-then-end-bytes c = going_end (omega arith) (went_on c.loop-x.invariant c.standing-run.ensures.0 c.copy_run-need-in-None.ensures) (omega arith)

pub returns-in_err-next-in-None : goal.returns-in_err-next-in-None
returns-in_err-next-in-None c =
    rw (handed _ c.from_residual.ensures)
    (going-stopped (went_on c.loop-x.invariant c.standing-run.ensures.0 c.copy_run-need-in-None.ensures) c.in_err-next-in-None.ensures _)

pub overflow_add-need : goal.overflow_add-need
overflow_add-need c =
    let t = turned (went_on c.loop-x.invariant c.standing-run.ensures.0 c.copy_run-need-in-None.ensures) c.in_ok-next-in-None.ensures in
    omega (arith, bounded t.1 c.requires)

pub loop-x-smaller : goal.loop-x-smaller
loop-x-smaller c =
    let h = c.standing-run.ensures.0 in
    let t = turned (went_on c.loop-x.invariant h c.copy_run-need-in-None.ensures) c.in_ok-next-in-None.ensures in
    omega (arith, h.on, t.0, t.1.spells.there)

pub loop-x-preserved : goal.loop-x-preserved
loop-x-preserved c = (turned (went_on c.loop-x.invariant c.standing-run.ensures.0 c.copy_run-need-in-None.ensures) c.in_ok-next-in-None.ensures).1
