-- `text::Printer::put_error` meets its contract. Assumes nothing.
use Rattle.form.specs.Ascii.{line}
use Rattle.text.proofs.Pending.{puts_then}
use Rattle.text.proofs.Printer.put_error.Goals as goal

pub returns : goal.returns
unfolding line
returns c = puts_then c.put_all.ensures (puts_then c.put_field.ensures c.put.ensures)
