-- `text::Printer::put_all` meets its contract. Assumes nothing.
use native.Mathlib.Omega.{arith}
use lib.ListN.{drop_of_length-le}
use Rattle.text.proofs.Pending.{pending-all, pending_step, pending-done}
use Rattle.text.proofs.Words.{drop-one}
use Rattle.text.proofs.Printer.put_all.Goals as goal

pub loop-b-init : goal.loop-b-init
loop-b-init c = pending-all _ _ (omega arith)

pub loop-b-preserved : goal.loop-b-preserved
loop-b-preserved c = pending_step _ c.loop-b.invariant c.put.ensures (drop-one _ _ c.loop-b-test.true)

pub returns : goal.returns
returns c = pending-done c.loop-b.invariant (drop_of_length-le _ c.loop-b-test.false)
