-- `writer::put::Pen::id_colour` meets its contract. Assumes nothing.
use Rattle.laws.proofs.LittleEndian.{length-bytes}
use Rattle.laws.proofs.Lookups.{open_is}
use Rattle.writer.proofs.Penned.{puts_then, room_first, room_then}
use Rattle.writer.proofs.put.Pen.id_colour.Goals as goal

pub id-requires : goal.id-requires
id-requires c = room_first c.args.self.now _ _ (length-bytes 2 _) c.requires

pub id-requires-2 : goal.id-requires-2
id-requires-2 c = room_first c.id.new.self _ _ (length-bytes 2 _) (room_then _ c.id.ensures c.requires)

pub channels-requires : goal.channels-requires
channels-requires c = room_then _ c.id-2.ensures (rw open_is at (room_then _ c.id.ensures c.requires))

pub returns : goal.returns
returns c = rw open_is (puts_then c.id.ensures (puts_then c.id-2.ensures c.channels.ensures))
