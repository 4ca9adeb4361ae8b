use Prim.Native.Nat.{◌-◌}
use lib.ListN.{length}
use Rattle.normaliser.proofs.Reached.{Reaches}
use Rattle.normaliser.proofs.rescuing.stretch.Given as goal

abbrev pub invariant-loop-token : goal.invariant-loop-token
invariant-loop-token l = Reaches l.bytes l.start l.at l.open

abbrev pub decreases-loop-token : goal.decreases-loop-token
decreases-loop-token l = length l.bytes - l.at
