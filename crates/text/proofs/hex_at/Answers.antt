-- `text::hex_at` meets its contract. The invariant is that of `put_all`, in hex. Assumes nothing.
use native.Mathlib.Omega.{arith}
use Rattle.text.proofs.Pending.{pending-all, pending_step, pending-done}
use Rattle.text.proofs.Words.{hex-one, hex-all}
use Rattle.text.proofs.hex_at.Goals as goal

pub loop-b-init : goal.loop-b-init
loop-b-init c = pending-all _ _ (omega arith)

pub loop-b-preserved : goal.loop-b-preserved
loop-b-preserved c = pending_step _ c.loop-b.invariant c.put_pair.ensures (hex-one _ _ c.loop-b-test.true)

pub returns : goal.returns
returns c = let all = pending-done c.loop-b.invariant (hex-all _ _ c.loop-b-test.false) in grind (arith, all)
