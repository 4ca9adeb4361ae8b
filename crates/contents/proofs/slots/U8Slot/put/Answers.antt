-- `contents::slots::U8Slot::put` meets its contract. Assumes nothing.
use Rattle.std.proofs.Common.{length, ap, arith}
use Rattle.contents.specs.Answers.{entry_of}
use Rattle.contents.proofs.Kept.{length-entries-of, length-entry-put}
use Rattle.contents.proofs.slots.U8Slot.put.Goals as goal

pub put_entry-requires : goal.put_entry-requires
put_entry-requires c = omega (arith, length-entries-of c.args.file.now)

pub returns-clause-count : goal.returns-clause-count
returns-clause-count c =
    let a = c.args in
    omega (arith, length-entries-of, ap length c.put_entry.ensures, length-entry-put a.file.now a.i (entry_of a.e))
