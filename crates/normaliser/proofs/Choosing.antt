-- What the length that was measured, or the refusal, says of the output. Assumes nothing.
use Prim.Native.Nat.{ℕ, ◌≤◌, ◌<◌}
use native.Mathlib.Omega.{arith}
use mathlib.Core.Path.{◌≡◌, refl, sym, ap, ◌∙◌}
use mathlib.Core.Option.{Option, none, some}
use mathlib.Core.List.{List, [], ◌∷◌, ◌++◌}
use lib.ListN.{length}
use borrow.Author.Tests.{le-leb, lt-leb}
use Rattle.form.specs.Refusals as R
use Rattle.form.specs.Saves.{walk, LIMIT}
use Rattle.form.specs.Writing.{Output, written, unwritten, Outcome, wrote, declined, outcome, leaves, Follows, fitted, first_refusal, unless}
use Rattle.laws.proofs.Never.{never}
use Rattle.normaliser.specs.Stretches.{Style, styled, saved, unbounded, Passed}
use Rattle.normaliser.proofs.Passing.{unbounded-none}

-- an output of no bytes keeps none
none_before : (xs d : List ℕ) → length xs ≡ 0 → xs ++ d ≡ d
none_before [] d h = refl
none_before (x ∷ xs) d h = absurd (omega arith)

-- what follows from one output follows from an equal one
pub by-output : {o o' : Output} {d d' : List ℕ} → o ≡ o' → d' ≡ leaves o' d → Follows o (outcome o') d d'
by-output {d = d} e h = record { answer = ap outcome (sym e); output = h ∙ ap (λ (x : Output). leaves x d) (sym e) }

pub too_long : (y : Style) (s d : List ℕ) → LIMIT < length s → Follows (saved y (length d) s) (declined (R.TooLong (length s))) d d
unfolding outcome leaves
too_long y s d h = by-output {o' = unwritten (R.TooLong (length s))} (rw (lt-leb (length s) LIMIT h)) refl

-- a is what the first pass answers, and xs what it leaves of an output of no bytes
module _ (y : Style) (s d xs : List ℕ) {a : Outcome} (l : length s ≤ LIMIT) (z : length xs ≡ 0) (e : a ≡ outcome (unbounded y s)) where
  kept : xs ++ d ≡ d
  kept = none_before xs d z

  limited : saved y (length d) s ≡ unless (first_refusal y.why (walk s)) (fitted (length d) (styled y s))
  limited = rw (le-leb (length s) LIMIT l)

  -- a refusal other than these two does not depend on the room
  pub measured-refused : {r : R.Refusal} → a ≡ declined r → Follows (saved y (length d) s) a d (xs ++ d)
  unfolding unbounded unless outcome leaves
  measured-refused k = rw limited (go (first_refusal y.why (walk s)) e)
    where
      go : (o : Option R.Refusal) → a ≡ outcome (unless o (written (styled y s))) → Follows (unless o (fitted (length d) (styled y s))) a d (xs ++ d)
      go none e = never (cc)
      go (some why) e = record { answer = e; output = kept }

  module _ {n : ℕ} (w : a ≡ wrote n) where
    measured-whole : (first_refusal y.why (walk s) ≡ none) × (n ≡ length (styled y s))
    unfolding unbounded unless outcome
    measured-whole = go (first_refusal y.why (walk s)) (sym w ∙ e)
      where
        go : (o : Option R.Refusal) → wrote n ≡ outcome (unless o (written (styled y s))) → (o ≡ none) × (n ≡ length (styled y s))
        go none e = (refl, cc)
        go (some why) e = never (cc)

    pub no_room : length (xs ++ d) < n → Follows (saved y (length d) s) (declined (R.NoRoom n)) d (xs ++ d)
    unfolding unless fitted outcome leaves
    no_room h =
        let m = measured-whole in
        let o : saved y (length d) s ≡ unwritten (R.NoRoom n) = limited ∙ rw (m.0, lt-leb (length (styled y s)) (length d) (omega (arith, ap length kept, m.1)), m.1) in
        by-output o kept

    pub fitting : {b : Outcome} {d' : List ℕ} → n ≤ length (xs ++ d) → Passed y s (xs ++ d) d' b → Follows (saved y (length d) s) b d d'
    unfolding unless fitted
    fitting h p =
        let m = measured-whole in
        let o : saved y (length d) s ≡ written (styled y s) = limited ∙ rw (m.0, le-leb (length (styled y s)) (length d) (omega (arith, ap length kept, m.1))) in
        rw (p.answer ∙ ap outcome (unbounded-none y s m.0)) (by-output o (p.bytes m.0 (omega (arith, m.1)) ∙ ap (leaves (written (styled y s))) kept))
