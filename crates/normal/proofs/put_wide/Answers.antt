-- The line that is put is that of a wide lookup. Assumes nothing.
use Rattle.form.specs.Refusals.{refusal_value, refusal_values}
use Rattle.form.specs.Listing.{refusal_word, error_line}
use Rattle.normal.proofs.put_wide.Goals as goal

pub returns : goal.returns
unfolding error_line refusal_word refusal_value refusal_values
returns c = c.put_line.ensures
