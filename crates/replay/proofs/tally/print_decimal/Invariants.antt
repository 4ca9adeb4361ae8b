-- Each turn writes one more digit, or several.
use Rattle.std.proofs.Common.{◌-◌, ◌≤◌}
use Rattle.replay.proofs.tally.print_decimal.Given as goal

abbrev pub invariant-loop-written : goal.invariant-loop-written
invariant-loop-written l = l.written ≤ l.len

abbrev pub decreases-loop-written : goal.decreases-loop-written
decreases-loop-written l = l.len - l.written
