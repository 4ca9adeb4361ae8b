-- `source::reads::slide` meets its contract. The invariant: what is still to be moved stands in the buffer as it was, behind the place that
-- is written next, and moved there gives what the contract says. Assumes nothing.
use mathlib.Core.Path.{refl, ◌∙◌}
use native.Mathlib.Omega.{arith}
use lib.ListN.{length-set}
use Rattle.laws.proofs.Runs.{copy_done}
use Rattle.source.proofs.Stores.{slide-step}
use Rattle.source.proofs.reads.slide.Goals as goal

pub loop-left-init : goal.loop-left-init
loop-left-init c = (refl, omega arith, refl, refl)

pub bounds-buffer-j : goal.bounds-buffer-j
bounds-buffer-j c = omega arith

pub loop-left-preserved : goal.loop-left-preserved
loop-left-preserved c =
    let l = c.loop-left in (
      omega arith,
      omega arith,
      simp length-set l.invariant.2,
      slide-step l.buffer l.i l.j l.left c.loop-left-test.true (omega arith) (bounds-buffer-j c) ∙ l.invariant.3,
    )

pub returns : goal.returns
returns c =
    let l = c.loop-left in
    copy_done l.buffer _ l.i l.left c.loop-left-test.false ∙ l.invariant.3
