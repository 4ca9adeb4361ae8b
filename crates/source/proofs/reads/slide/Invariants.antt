use mathlib.Core.Path.{◌≡◌}
use Prim.Native.Nat.{◌+◌}
use lib.ListN.{length, take, drop}
use lib.Seq.{sets}
use Rattle.source.proofs.reads.slide.Given as goal

abbrev pub invariant-loop-left : goal.invariant-loop-left
invariant-loop-left l =
    (l.j + l.left ≡ l.start + l.len) × (l.j ≡ l.start + l.i) × (length l.buffer ≡ length l.initial.buffer)
    × (sets l.buffer l.i (take l.left (drop l.j l.buffer)) ≡ sets l.initial.buffer 0 (take l.len (drop l.start l.initial.buffer)))

abbrev pub decreases-loop-left : goal.decreases-loop-left
decreases-loop-left l = l.left
