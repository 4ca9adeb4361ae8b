-- Any two results that the promise allows are equal, and so are the outputs. Assumes nothing.
use Prim.Native.Nat.{ℕ}
use Rattle.std.specs.Prelude.{Result, Ok, Err}
use mathlib.Core.Path.{◌≡◌, refl}
use mathlib.Core.List.{List, [], ◌∷◌}
use lib.ListN.{length}
use Rattle.form.specs.Refusals.{refusal_number, refusal_value, refusal_values}
use Rattle.form.specs.Writing.{Outcome, wrote, declined, Follows, fitted}
use Rattle.laws.proofs.Unique.{by_number, follows-one}
use Rattle.token.specs.declared.Token.{Token}
use Rattle.writer.specs.declared.WriteError.{WriteError}
use Rattle.writer.specs.declared.WriteError.TheVariants.{LongString, WideLookup, ReservedId, NoRoom, BadPlace}
use Rattle.writer.specs.Layouts.{id_number}
use Rattle.writer.specs.Writes.{write_token, write_shortest_token, wrote_outcome}

-- the writer answers no other refusal
abbrev wrote_back : Outcome → Result ℕ WriteError
wrote_back (wrote n) = Ok n
wrote_back (declined r) = Err (by_number ((31, LongString) ∷ (32, WideLookup) ∷ (33, ReservedId) ∷ (4, NoRoom) ∷ []) BadPlace r)

wrote-back : (r : Result ℕ WriteError) → wrote_back (wrote_outcome r) ≡ r
unfolding refusal_number refusal_value refusal_values
wrote-back (Ok n) = refl
wrote-back (Err (LongString p)) = refl
wrote-back (Err (WideLookup p)) = refl
wrote-back (Err (ReservedId p)) = refl
wrote-back (Err (NoRoom n)) = refl
wrote-back (Err (BadPlace p)) = refl

pub write-one : (s : List ℕ) (t : Token) (d : List ℕ) {r r' : Result ℕ WriteError} {d' d'' : List ℕ}
    → Follows (write_token (length d) s t) (wrote_outcome r) d d' → Follows (write_token (length d) s t) (wrote_outcome r') d d'' → (r ≡ r') × (d' ≡ d'')
write-one s t d = follows-one wrote_outcome wrote_back wrote-back (write_token (length d) s t) d

pub write-shortest-one : (s : List ℕ) (t : Token) (d : List ℕ) {r r' : Result ℕ WriteError} {d' d'' : List ℕ}
    → Follows (write_shortest_token (length d) s t) (wrote_outcome r) d d' → Follows (write_shortest_token (length d) s t) (wrote_outcome r') d d''
    → (r ≡ r') × (d' ≡ d'')
write-shortest-one s t d = follows-one wrote_outcome wrote_back wrote-back (write_shortest_token (length d) s t) d

pub copy-one : (s d : List ℕ) {r r' : Result ℕ WriteError} {d' d'' : List ℕ}
    → Follows (fitted (length d) s) (wrote_outcome r) d d' → Follows (fitted (length d) s) (wrote_outcome r') d d'' → (r ≡ r') × (d' ≡ d'')
copy-one s d = follows-one wrote_outcome wrote_back wrote-back (fitted (length d) s) d

pub write-number-one : (i w n : ℕ) (d : List ℕ) {r r' : Result ℕ WriteError} {d' d'' : List ℕ}
    → Follows (fitted (length d) (id_number i w n)) (wrote_outcome r) d d' → Follows (fitted (length d) (id_number i w n)) (wrote_outcome r') d d'' → (r ≡ r') × (d' ≡ d'')
write-number-one i w n = copy-one (id_number i w n)
