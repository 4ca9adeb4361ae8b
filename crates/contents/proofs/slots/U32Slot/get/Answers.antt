-- `contents::slots::U32Slot::get` meets its contract. Assumes nothing.
use Rattle.std.proofs.Common.{arith}
use Rattle.contents.proofs.Kept.{length-pairs}
use Rattle.contents.proofs.slots.U32Slot.get.Goals as goal

pub pair_at-requires : goal.pair_at-requires
pair_at-requires c = omega (arith, length-pairs c.args.list.now)
