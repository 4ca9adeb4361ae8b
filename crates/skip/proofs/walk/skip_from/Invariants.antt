use Prim.Native.Nat.{◌≤◌, ◌*◌, ◌-◌}
use mathlib.Core.Path.{◌≡◌}
use lib.ListN.{length}
use Rattle.skip.specs.Walks.{walk_after}
use Rattle.skip.proofs.walk.skip_from.Given as goal

abbrev pub invariant-loop-end : goal.invariant-loop-end
invariant-loop-end l = (2 * l.depth ≤ l.at) × (walk_after l.id.0 l.depth l.bytes l.at ≡ walk_after l.initial.id.0 0 l.bytes l.start)

abbrev pub decreases-loop-end : goal.decreases-loop-end
decreases-loop-end l = length l.bytes - l.at
