use Prim.Native.Nat.{◌+◌, ◌-◌, ◌^◌, ◌<◌}
use mathlib.Core.Path.{◌≡◌}
use Rattle.payload.proofs.HighestFirst.{upper}
use Rattle.payload.proofs.numbers.spelled.Given as goal

abbrev pub invariant-loop-i : goal.invariant-loop-i
invariant-loop-i l = (l.x ≡ upper l.bytes (l.at + l.i) (l.at + l.width)) × (l.x < 256 ^ (l.width - l.i))
