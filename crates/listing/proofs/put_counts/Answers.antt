-- `listing::put_counts` meets its contract. Assumes nothing.
use Rattle.form.specs.Listing.{count_words}
use Rattle.text.proofs.Words.{puts-words}
use Rattle.listing.proofs.put_counts.Goals as goal

pub returns : goal.returns
unfolding count_words
returns c = puts-words _ _ c.put_field.ensures (puts-words _ _ c.put_field-2.ensures (puts-words _ _ c.put_field-3.ensures c.put_field-4.ensures))
