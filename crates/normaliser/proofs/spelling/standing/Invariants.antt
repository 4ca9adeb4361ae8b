use Prim.Native.Nat.{◌-◌}
use lib.ListN.{length}
use Rattle.normaliser.specs.Spellings.{Stand}
use Rattle.normaliser.proofs.spelling.standing.Given as goal

abbrev pub invariant-loop-next : goal.invariant-loop-next
invariant-loop-next l = Stand l.bytes l.start l.at

abbrev pub decreases-loop-next : goal.decreases-loop-next
decreases-loop-next l = length l.bytes - l.at
