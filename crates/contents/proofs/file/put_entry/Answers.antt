-- `contents::file::put_entry` meets its contract. Assumes nothing.
use Rattle.std.proofs.Common.{◌∙◌}
use Rattle.contents.specs.Slots.{entry_put}
use Rattle.contents.proofs.file.put_entry.Goals as goal

pub returns : goal.returns
unfolding entry_put
returns c = c.put_number-2.ensures ∙ rw (c.put_number.ensures, c.place.ensures, c.place-2.ensures)
