-- `text::Printer::put_pair` meets its contract. Assumes nothing.
use Rattle.text.proofs.Pending.{puts_then}
use Rattle.text.proofs.Words.{hex-pair}
use Rattle.text.proofs.Printer.put_pair.Goals as goal

pub returns : goal.returns
returns c = rw (hex-pair c.args.b c.digit.ensures c.digit-2.ensures) (puts_then c.put.ensures c.put-2.ensures)
