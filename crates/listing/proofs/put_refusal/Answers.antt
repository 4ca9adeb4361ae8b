-- `listing::put_refusal` meets its contract. Assumes nothing.
use Rattle.form.specs.Refusals.{refusal_values, refusal_value, refusal_at}
use Rattle.form.specs.Listing.{refusal_word, error_line}
use Rattle.listing.proofs.put_refusal.Goals as goal

pub returns-in-Eof : goal.returns-in-Eof
unfolding error_line refusal_word refusal_value refusal_values refusal_at
returns-in-Eof c = rw c.in-Eof.is c.put_error.ensures

pub returns-in-InvalidRgb : goal.returns-in-InvalidRgb
unfolding error_line refusal_word refusal_value refusal_values refusal_at
returns-in-InvalidRgb c = rw c.in-InvalidRgb.is c.put_error-in-InvalidRgb.ensures
