-- `contents::slots::U8Slot::get` meets its contract. Assumes nothing.
use Rattle.std.proofs.Common.{arith}
use Rattle.contents.proofs.Kept.{length-entries-of, entry-at}
use Rattle.contents.proofs.slots.U8Slot.get.Goals as goal

pub entry_at-requires : goal.entry_at-requires
entry_at-requires c = omega (arith, length-entries-of c.args.file.now)

pub returns : goal.returns
returns c = rw c.entry_at.ensures (entry-at c.args.file.now c.args.i c.requires)
