-- Any two results that a promise allows are equal, and so are the outputs. Assumes nothing.
use mathlib.Core.Path.{◌≡◌, refl, sym, ◌∙◌}
use mathlib.Core.Option.{Option, none, some}
use mathlib.Core.List.{List, [], ◌∷◌}
use Prim.Native.Nat.{ℕ}
use lib.ListN.{length}
use Rattle.std.specs.Prelude.{Result, Ok, Err}
use Rattle.form.specs.Refusals.{refusal_at, refusal_number, refusal_value, refusal_values}
use Rattle.form.specs.Writing.{Outcome, wrote, declined, Follows, normalise, shorten}
use Rattle.form.specs.Rescue as F
use Rattle.laws.proofs.Unique.{eof_or_number, follows-one}
use Rattle.payload.specs.Answers.{fault_of}
use Rattle.payload.specs.declared.answers.LexError.{LexError}
use Rattle.payload.specs.declared.answers.LexError.TheVariants.{Eof, InvalidRgb}
use Rattle.normaliser.specs.declared.NormalError.{NormalError}
use Rattle.normaliser.specs.declared.NormalError.TheVariants.{Refused, WideLookup, NoRoom, TooLong}
use Rattle.normaliser.specs.declared.rescuing.Rescued.{Rescued}
use Rattle.normaliser.specs.declared.rescuing.RescueError.{RescueError}
use Rattle.normaliser.specs.declared.rescuing.RescueError.TheVariants as K
use Rattle.normaliser.specs.Answers.{normalised_outcome, rescued_outcome, rescued_report}

-- the normaliser answers no other refusal
abbrev error_back : ℕ → ℕ → NormalError
error_back p m = Refused (record { at = p; kind = Eof m })

abbrev colour_back : ℕ → NormalError
colour_back p = Refused (record { at = p; kind = InvalidRgb })

abbrev normalised_back : Outcome → Result ℕ NormalError
normalised_back (wrote n) = Ok n
normalised_back (declined r) = Err (eof_or_number error_back ((2, colour_back) ∷ (32, WideLookup) ∷ (4, NoRoom) ∷ []) TooLong r)

refused-back : (p : ℕ) (k : LexError) → normalised_back (declined (refusal_at p (fault_of k))) ≡ Err (Refused (record { at = p; kind = k }))
unfolding refusal_at refusal_number refusal_value refusal_values
refused-back p (Eof m) = refl
refused-back p InvalidRgb = refl

normalised-back : (r : Result ℕ NormalError) → normalised_back (normalised_outcome r) ≡ r
unfolding refusal_at refusal_number refusal_value refusal_values
normalised-back (Ok n) = refl
normalised-back (Err (Refused e)) = refused-back e.at e.kind
normalised-back (Err (WideLookup p)) = refl
normalised-back (Err (NoRoom n)) = refl
normalised-back (Err (TooLong n)) = refl

pub normalise-one : (s d : List ℕ) {r r' : Result ℕ NormalError} {d' d'' : List ℕ}
    → Follows (normalise (length d) s) (normalised_outcome r) d d' → Follows (normalise (length d) s) (normalised_outcome r') d d'' → (r ≡ r') × (d' ≡ d'')
normalise-one s d = follows-one normalised_outcome normalised_back normalised-back (normalise (length d) s) d

-- and so it is where a save is shortened
pub shorten-one : (s d : List ℕ) {r r' : Result ℕ NormalError} {d' d'' : List ℕ}
    → Follows (shorten (length d) s) (normalised_outcome r) d d' → Follows (shorten (length d) s) (normalised_outcome r') d d'' → (r ≡ r') × (d' ≡ d'')
shorten-one s d = follows-one normalised_outcome normalised_back normalised-back (shorten (length d) s) d

-- and of a rescue, with its report
abbrev rescued_back : Outcome → Option F.Report → Result Rescued RescueError
rescued_back (wrote n) (some r) = Ok (record { written = n; report = record { cut = r.cut_off; strays = r.strays; closes = r.added } })
rescued_back (wrote n) none = Err (K.NoRoom n)
rescued_back (declined r) o = Err (eof_or_number (λ p m. K.NoRoom m) ((4, K.NoRoom) ∷ []) K.TooLong r)

rescued-back : (r : Result Rescued RescueError) → rescued_back (rescued_outcome r) (rescued_report r) ≡ r
unfolding refusal_number refusal_value refusal_values
rescued-back (Ok r) = refl
rescued-back (Err (K.NoRoom n)) = refl
rescued-back (Err (K.TooLong n)) = refl

-- what `rescue` promises of its answer r and the output d'
abbrev Rescues : List ℕ → List ℕ → Result Rescued RescueError → List ℕ → Type 0
Rescues s d r d' = Follows (F.rescue (length d) s) (rescued_outcome r) d d' × (rescued_report r ≡ F.told (length d) s)

pub rescue-one : (s d : List ℕ) {r r' : Result Rescued RescueError} {d' d'' : List ℕ} → Rescues s d r d' → Rescues s d r' d'' → (r ≡ r') × (d' ≡ d'')
rescue-one s d {r} {r'} p q =
    let a : rescued_outcome r ≡ rescued_outcome r' = p.0.answer ∙ sym q.0.answer in
    let b : rescued_report r ≡ rescued_report r' = p.1 ∙ sym q.1 in
    (sym (rescued-back r) ∙ rw (a, b) (rescued-back r'), p.0.output ∙ sym q.0.output)
