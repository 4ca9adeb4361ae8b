-- With the entries that are still to come the list is whole.
use Rattle.std.proofs.Common.{◌-◌, length}
use Rattle.form.specs.Contents.{contents}
use Rattle.contents.proofs.Collected.{Coming}
use Rattle.contents.proofs.filling.collect.Given as goal

abbrev pub invariant-loop-key : goal.invariant-loop-key
invariant-loop-key g l = Coming g.T.Slot.put g.T.Slot.entries l.bytes l.initial.list l.key l.n l.list

abbrev pub decreases-loop-key : goal.decreases-loop-key
decreases-loop-key g l = length (contents l.bytes) - l.n
