-- `writer::put::store_number` meets its contract. The invariant: what is still to be written, written to the output as it is, gives what the
-- contract says. Assumes nothing.
use Prim.Native.Nat.{◌+◌, ◌-◌, ◌≤◌}
use mathlib.Core.Path.{◌≡◌, ◌∙◌}
use native.Mathlib.Omega.{arith}
use lib.ListN.{length-set}
use Rattle.writer.proofs.Stores.{number_step, number-done}
use Rattle.writer.proofs.put.store_number.Goals as goal

pub loop-i-preserved : goal.loop-i-preserved
loop-i-preserved c =
    let l = c.loop-i in
    let end = c.args.at + c.args.width in
    let e : end - (l.i + 1) ≡ end - l.i - 1 = omega arith in
    record {
      same = simp length-set l.invariant.same;
      bytes = rw e (number_step l.out l.i (end - l.i) l.rest (omega arith) ∙ l.invariant.bytes);
    }

pub returns : goal.returns
returns c =
    let l = c.loop-i in
    let end = c.args.at + c.args.width in
    let done : end - l.i ≤ 0 = omega arith in
    number-done l.out l.i (end - l.i) l.rest done ∙ l.invariant.bytes
