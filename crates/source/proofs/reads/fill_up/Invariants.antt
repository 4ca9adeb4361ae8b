use Prim.Native.Nat.{◌-◌}
use lib.ListN.{length}
use Rattle.source.proofs.Filling.{Going}
use Rattle.source.proofs.reads.fill_up.Given as goal

abbrev pub invariant-loop-got : goal.invariant-loop-got
invariant-loop-got l = Going l.initial.buffer l.supply l.schedule l.buffer l.got l.used

abbrev pub decreases-loop-got : goal.decreases-loop-got
decreases-loop-got l = length l.initial.buffer - l.got
