-- `text::Printer::put_number` meets its contract. Assumes nothing.
use Rattle.text.proofs.Words.{puts-spaced}
use Rattle.text.proofs.Printer.put_number.Goals as goal

pub returns : goal.returns
returns c = puts-spaced c.put.ensures c.put_decimal.ensures
