-- `contents::slots::pair_at` meets its contract. Assumes nothing.
use Rattle.contents.proofs.Kept.{pair-at}
use Rattle.contents.proofs.slots.pair_at.Goals as goal

pub returns : goal.returns
returns c = pair-at c.args.list.now c.args.i c.requires
