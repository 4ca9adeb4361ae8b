use Prim.Native.Nat.{◌-◌}
use lib.ListN.{length}
use Rattle.normaliser.specs.Stretches.{normal_style}
use Rattle.normaliser.proofs.Passing.{Going}
use Rattle.normaliser.proofs.NormalPass.pass.Given as goal

abbrev pub invariant-loop-x : goal.invariant-loop-x
invariant-loop-x l = Going normal_style l.bytes l.initial.out l.out l.at l.need

abbrev pub decreases-loop-x : goal.decreases-loop-x
decreases-loop-x l = length l.bytes - l.at
