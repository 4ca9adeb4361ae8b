use Prim.Native.Nat.{◌-◌}
use lib.ListN.{length}
use Rattle.normaliser.specs.Stretches.{short_style}
use Rattle.normaliser.proofs.Passing.{Going}
use Rattle.normaliser.proofs.shortening.ShortPass.pass.Given as goal

abbrev pub invariant-loop-at : goal.invariant-loop-at
invariant-loop-at l = Going short_style l.bytes l.initial.out l.out l.at l.need

abbrev pub decreases-loop-at : goal.decreases-loop-at
decreases-loop-at l = length l.bytes - l.at
