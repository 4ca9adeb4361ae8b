-- `contents::file::number_at` meets its contract. Assumes nothing.
use Rattle.std.proofs.Common.{◌∙◌}
use Rattle.contents.proofs.BigBytes.{number_at}
use Rattle.contents.proofs.file.number_at.Goals as goal

pub returns : goal.returns
returns c = c.from_be_bytes.ensures ∙ number_at c.args.file.now c.args.at c.requires
