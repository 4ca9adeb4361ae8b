-- `writer::put::Pen::channels` meets its contract. Assumes nothing.
use Rattle.laws.proofs.ReadsBack.{channel-length}
use Rattle.writer.proofs.Penned.{puts_then, room_first, room_then}
use Rattle.writer.proofs.put.Pen.channels.Goals as goal

pub channel-requires : goal.channel-requires
channel-requires c = room_first c.args.self.now _ _ (channel-length c.args.c.r) c.requires

pub channel-requires-2 : goal.channel-requires-2
channel-requires-2 c = room_first c.channel.new.self _ _ (channel-length c.args.c.g) (room_then _ c.channel.ensures c.requires)

pub channel-requires-3 : goal.channel-requires-3
channel-requires-3 c = room_first c.channel-2.new.self _ _ (channel-length c.args.c.b) (room_then _ c.channel-2.ensures (room_then _ c.channel.ensures c.requires))

pub colour_end-requires : goal.colour_end-requires
colour_end-requires c = room_then _ c.channel-3.ensures (room_then _ c.channel-2.ensures (room_then _ c.channel.ensures c.requires))

pub returns : goal.returns
returns c = puts_then c.channel.ensures (puts_then c.channel-2.ensures (puts_then c.channel-3.ensures c.colour_end.ensures))
