-- `contents::slots::U8Slot::count` meets its contract. Assumes nothing.
use Rattle.std.proofs.Common.{arith}
use Rattle.contents.proofs.Kept.{length-entries-of}
use Rattle.contents.proofs.slots.U8Slot.count.Goals as goal

pub returns : goal.returns
returns c = omega (arith, length-entries-of c.args.file.now, c.saturating_sub.ensures)
