-- `contents::slots::EntrySlot::get` meets its contract. Assumes nothing.
use Rattle.contents.proofs.Kept.{record-at}
use Rattle.contents.proofs.slots.EntrySlot.get.Goals as goal

pub returns : goal.returns
returns c = record-at _ _ _ c.requires
