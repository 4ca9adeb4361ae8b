-- What was written so far are bytes that were given. Each turn writes more.
use Rattle.std.proofs.Common.{length, ◌-◌, ◌≤◌}
use Rattle.stdio.proofs.write_all.Given as goal

abbrev pub invariant-loop-written : goal.invariant-loop-written
invariant-loop-written g l = l.written ≤ length l.bytes

abbrev pub decreases-loop-written : goal.decreases-loop-written
decreases-loop-written g l = length l.bytes - l.written
