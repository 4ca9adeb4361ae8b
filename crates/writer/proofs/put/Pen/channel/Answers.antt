-- `writer::put::Pen::channel` meets its contract. Assumes nothing.
use Rattle.form.specs.Spelling.{spelled_channel}
use Rattle.laws.proofs.Lookups.{channel-is}
use Rattle.writer.proofs.put.Pen.channel.Goals as goal

pub returns : goal.returns
unfolding spelled_channel
returns c = rw channel-is c.id_number.ensures
