-- The line that is put is that of the refusal. Assumes nothing.
use Rattle.form.specs.Refusals.{refusal_value, refusal_values, refusal_at}
use Rattle.form.specs.Listing.{refusal_word, error_line}
use Rattle.normal.proofs.put_refused.Goals as goal

pub returns-in-Eof : goal.returns-in-Eof
unfolding error_line refusal_word refusal_value refusal_values refusal_at
returns-in-Eof c = rw c.in-Eof.is c.put_line.ensures

pub returns-in-InvalidRgb : goal.returns-in-InvalidRgb
unfolding error_line refusal_word refusal_value refusal_values refusal_at
returns-in-InvalidRgb c = rw c.in-InvalidRgb.is c.put_line-in-InvalidRgb.ensures
