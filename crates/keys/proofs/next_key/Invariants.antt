use Prim.Native.Nat.{◌-◌, ◌≤◌}
use mathlib.Core.Path.{◌≡◌}
use mathlib.Core.Bool.{false}
use lib.ListN.{length}
use Rattle.form.specs.Saves.{from}
use Rattle.laws.proofs.Seeking.{seeking}
use Rattle.keys.specs.Seeking.{wants}
use Rattle.keys.proofs.next_key.Given as goal

abbrev pub invariant-loop-at : goal.invariant-loop-at
invariant-loop-at l =
    (l.depth ≤ l.at) × (l.from ≤ l.at) × (seeking (wants l.wanted) l.equal l.depth (from l.bytes l.at) ≡ seeking (wants l.wanted) false 0 (from l.bytes l.from))

abbrev pub decreases-loop-at : goal.decreases-loop-at
decreases-loop-at l = length l.bytes - l.at
