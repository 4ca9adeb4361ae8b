-- `text::Printer::put_le` meets its contract. The invariant is that of `put_all`, over the bytes that are left of the number. Assumes nothing.
use Prim.Native.Nat.{◌-◌, ◌+◌}
use mathlib.Core.Path.{◌≡◌}
use native.Mathlib.Omega.{arith}
use Rattle.text.proofs.Pending.{pending-all, pending_step, pending-done}
use Rattle.text.proofs.Words.{le-one, le-none}
use Rattle.text.proofs.Printer.put_le.Goals as goal

pub loop-init : goal.loop-init
loop-init c = let all : c.args.width - 0 ≡ c.args.width = omega arith in rw all (pending-all _ _ (omega arith))

pub loop-preserved : goal.loop-preserved
loop-preserved c =
    let l = c.loop in
    let left : c.args.width - (l.counter + 1) ≡ c.args.width - l.counter - 1 = omega arith in
    pending_step _ l.invariant c.put_pair.ensures (rw left (le-one (c.args.width - l.counter) l.rest (omega arith)))

pub returns : goal.returns
returns c = pending-done c.loop.invariant (le-none _ _ (omega arith))
