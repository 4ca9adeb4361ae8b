-- `text::Printer::put_word` meets its contract. Assumes nothing.
use Rattle.text.proofs.Words.{puts-spaced}
use Rattle.text.proofs.Printer.put_word.Goals as goal

pub returns : goal.returns
returns c = puts-spaced c.put.ensures c.put_all.ensures
