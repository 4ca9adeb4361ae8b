-- `listing::put_end` meets its contract. Assumes nothing.
use Rattle.form.specs.Ascii.{line}
use Rattle.form.specs.Listing.{end_line}
use Rattle.text.proofs.Pending.{puts_then}
use Rattle.text.proofs.Words.{puts-words}
use Rattle.listing.proofs.put_end.Goals as goal

pub returns : goal.returns
unfolding end_line line
returns c = puts_then c.put_all.ensures (puts_then (puts-words _ _ c.put_number.ensures c.put_counts.ensures) c.put.ensures)
