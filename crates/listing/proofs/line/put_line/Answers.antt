-- `listing::line::put_line` meets its contract. Assumes nothing.
use Rattle.form.specs.Ascii.{line}
use Rattle.text.proofs.Pending.{puts_then}
use Rattle.listing.specs.Words.{line_of}
use Rattle.listing.proofs.line.put_line.Goals as goal

pub returns : goal.returns
unfolding line_of line
returns c = puts_then c.put_decimal.ensures (puts_then c.put_words.ensures c.put.ensures)
