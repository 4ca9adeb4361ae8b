-- `text::Printer::put_field` meets its contract. Assumes nothing.
use Rattle.text.proofs.Words.{puts-words}
use Rattle.text.proofs.Printer.put_field.Goals as goal

pub returns : goal.returns
returns c = puts-words _ _ c.put_word.ensures c.put_number.ensures
