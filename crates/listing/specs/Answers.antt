-- What the answer of the code stands for.
use Rattle.std.specs.Prelude.{ℕ, Result}
use Rattle.form.specs.Refusals as F
use Rattle.form.specs.Writing.{Outcome}
use Rattle.payload.specs.Answers.{outcome_as}
use Rattle.listing.specs.declared.ListError.{ListError}
use Rattle.listing.specs.declared.ListError.TheVariants.{NoRoom, TooLong}

abbrev pub list_refusal : ListError → F.Refusal
list_refusal (NoRoom n) = F.NoRoom n
list_refusal (TooLong n) = F.TooLong n

abbrev pub listed_outcome : Result ℕ ListError → Outcome
listed_outcome = outcome_as list_refusal
