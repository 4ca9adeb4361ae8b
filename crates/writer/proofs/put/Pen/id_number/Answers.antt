-- `writer::put::Pen::id_number` meets its contract. Assumes nothing.
use Rattle.laws.proofs.LittleEndian.{length-bytes}
use Rattle.writer.proofs.Penned.{puts_then, room_after}
use Rattle.writer.proofs.put.Pen.id_number.Goals as goal

pub number-requires : goal.number-requires
number-requires c = room_after _ c.id.ensures (length-bytes 2 c.args.x.0) c.requires

pub returns : goal.returns
returns c = puts_then c.id.ensures c.number.ensures
