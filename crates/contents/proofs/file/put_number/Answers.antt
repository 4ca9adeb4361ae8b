-- `contents::file::put_number` meets its contract. Assumes nothing.
use Rattle.std.proofs.Common.{◌∙◌}
use Rattle.contents.proofs.BigBytes.{put-big}
use Rattle.contents.proofs.file.put_number.Goals as goal

pub returns : goal.returns
returns c = put-big c.args.out.now c.args.at c.args.x c.requires (c.copy_from_slice.ensures.after ∙ c.to_be_bytes.ensures)
