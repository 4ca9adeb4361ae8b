use mathlib.Core.Path.{◌≡◌}
use Prim.Native.Nat.{◌+◌, ◌-◌, ◌≤◌}
use lib.ListN.{length, take, drop}
use lib.Seq.{sets}
use Rattle.writer.proofs.put.store.Given as goal

abbrev pub invariant-loop-i : goal.invariant-loop-i
invariant-loop-i l =
    (l.i ≤ length l.src) × (length l.out ≡ length l.initial.out)
    × (sets l.out (l.at + l.i) (take (length l.src - l.i) (drop l.i l.src)) ≡ sets l.initial.out l.at l.src)
