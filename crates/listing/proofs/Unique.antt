-- Any two results that the promise of `list` allows are equal, and so are the outputs. Assumes nothing.
use Prim.Native.Nat.{ℕ}
use mathlib.Core.Path.{◌≡◌, refl}
use mathlib.Core.List.{List, [], ◌∷◌}
use lib.ListN.{length}
use Rattle.std.specs.Prelude.{Result, Ok, Err}
use Rattle.form.specs.Refusals.{refusal_number, refusal_value, refusal_values}
use Rattle.form.specs.Writing.{Outcome, wrote, declined, Follows}
use Rattle.form.specs.Listing.{list}
use Rattle.laws.proofs.Unique.{by_number, follows-one}
use Rattle.listing.specs.Answers.{listed_outcome}
use Rattle.listing.specs.declared.ListError.{ListError}
use Rattle.listing.specs.declared.ListError.TheVariants.{NoRoom, TooLong}

-- `list` answers no other refusal
abbrev listed_back : Outcome → Result ℕ ListError
listed_back (wrote n) = Ok n
listed_back (declined r) = Err (by_number ((4, NoRoom) ∷ []) TooLong r)

listed_back_lem : (r : Result ℕ ListError) → listed_back (listed_outcome r) ≡ r
unfolding refusal_number refusal_value refusal_values
listed_back_lem (Ok n) = refl
listed_back_lem (Err (NoRoom n)) = refl
listed_back_lem (Err (TooLong n)) = refl

pub list-one : (s d : List ℕ) {r r' : Result ℕ ListError} {d' d'' : List ℕ}
    → Follows (list (length d) s) (listed_outcome r) d d' → Follows (list (length d) s) (listed_outcome r') d d'' → (r ≡ r') × (d' ≡ d'')
list-one s d = follows-one listed_outcome listed_back listed_back_lem (list (length d) s) d
