-- `writer::put::Pen::id_text` meets its contract. Assumes nothing.
use native.Mathlib.Omega.{arith}
use lib.ListN.{length}
use Rattle.laws.proofs.LittleEndian.{length-bytes}
use Rattle.writer.proofs.Penned.{puts_then, room_after}
use Rattle.writer.proofs.put.Pen.id_text.Goals as goal

pub number-requires : goal.number-requires
number-requires c = room_after _ c.id.ensures (length-bytes 2 c.args.x.0) (omega arith)

pub all-requires : goal.all-requires
all-requires c =
    room_after _ c.number.ensures (length-bytes 2 (length c.args.text.now)) (room_after _ c.id.ensures (length-bytes 2 c.args.x.0) (omega arith))

pub returns : goal.returns
returns c = puts_then c.id.ensures (puts_then c.number.ensures c.all.ensures)
