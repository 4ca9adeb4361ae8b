-- `contents::slots::U32Slot::count` meets its contract. Assumes nothing.
use Rattle.std.proofs.Common.{sym}
use Rattle.contents.proofs.Kept.{length-pairs}
use Rattle.contents.proofs.slots.U32Slot.count.Goals as goal

pub returns : goal.returns
returns c = sym (length-pairs c.args.list.now)
