-- `contents::slots::U32Slot::put` meets its contract. Assumes nothing.
use Rattle.std.proofs.Common.{length, ap, ◌∙◌, arith}
use Rattle.contents.specs.Slots.{pairs}
use Rattle.contents.proofs.Kept.{length-pairs, length-pair-put}
use Rattle.contents.proofs.slots.U32Slot.put.Goals as goal

pub put_pair-requires : goal.put_pair-requires
put_pair-requires c = omega (arith, length-pairs c.args.list.now)

pub returns-clause-count : goal.returns-clause-count
returns-clause-count c =
    ap (λ l. length (pairs l)) c.put_pair.ensures ∙ length-pair-put c.args.list.now c.args.i c.args.e.start c.args.e.end
