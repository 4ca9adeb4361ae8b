-- The first key that is wanted, from a place on.
use Rattle.std.specs.Prelude.{ℕ, ◌≤◌, ◌≡◌, Bool, true, List, [], ◌∷◌, Result, Ok, Err, Option, Some, None}
use Rattle.std.proofs.Math.Option.{none, some}
use Rattle.form.specs.Values.{Value}
use Rattle.form.specs.Readers.{found, at}
use Rattle.form.specs.Reading.{token}
use Rattle.form.specs.Saves.{from}
use Rattle.form.specs.Keys.{at_top, key_that, those}
use Rattle.form.specs.Finding.{is_plain, cut_by}
use Rattle.payload.specs.Answers.{refusal_of}
use Rattle.lexeme.specs.declared.LexemeId.{LexemeId}
use Rattle.payload.specs.declared.answers.LexErrorAt.{LexErrorAt}
use Rattle.keys.specs.declared.Key.{Key}

-- the token is wanted: every one is, or the plain id that is named
unfoldable pub wants : Option LexemeId → Value → Bool
wants None v = true
wants (Some i) v = is_plain i.0 v

-- the keys from place p on that are wanted
abbrev pub wanted_from : (Value → Bool) → List ℕ → ℕ → List (ℕ × Value)
wanted_from t s p = those (key_that t) at_top (from s p)

-- a key's token v stands at place q, up to place n: it is the first, and what comes after it is what a walk from there on has
pub record FirstAt (t : Value → Bool) (s : List ℕ) (p q n : ℕ) (v : Value) : Type 0 where
  pub onward : p ≤ q
  pub token : at token s q ≡ found v n
  pub keys : wanted_from t s p ≡ (q, v) ∷ wanted_from t s n
  pub ending : cut_by (from s p) ≡ cut_by (from s n)

-- there is a first, there is none and all was read, or there is none before a refusal
abbrev pub Nexts : (Value → Bool) → List ℕ → ℕ → Result (Option Key) LexErrorAt → Type 0
Nexts t s p (Ok (Some k)) = (v : Value) × FirstAt t s p k.at k.end v
Nexts t s p (Ok None) = (wanted_from t s p ≡ []) × (cut_by (from s p) ≡ none)
Nexts t s p (Err e) = (wanted_from t s p ≡ []) × (cut_by (from s p) ≡ some (refusal_of e))

pub record NextKey (t : Value → Bool) (s : List ℕ) (p : ℕ) (r : Result (Option Key) LexErrorAt) : Type 0 where
  pub is : Nexts t s p r
