use Prim.Native.Nat.{◌-◌}
use lib.ListN.{length}
use Rattle.normaliser.proofs.Saving.{Saving}
use Rattle.normaliser.proofs.rescuing.pass.Given as goal

abbrev pub invariant-loop-ending : goal.invariant-loop-ending
invariant-loop-ending l = Saving l.bytes l.initial.out l.out l.at l.need l.strays l.ending

abbrev pub decreases-loop-ending : goal.decreases-loop-ending
decreases-loop-ending l = length l.bytes - l.at
