-- What a walk passes after an id: the arms of the code's `match`, and the widths of compact numbers. Assumes nothing.
use Prim.Native.Nat.{ℕ, ◌-◌, ◌≤◌, ◌<◌, zero-le}
use native.Mathlib.Nat.{add-zero}
use mathlib.Core.Path.{◌≡◌, refl, sym, ap, ◌∙◌}
use mathlib.Core.Bool.{Bool, true, false, ◌||◌, or-true}
use mathlib.Core.Option.{Option, none, some}
use mathlib.Core.List.{List}
use lib.Dec.{eqb}
use borrow.Author.Tests.{eqb-true}
use Rattle.form.specs.Numbers.{le}
use Rattle.form.specs.Table.{Payload, number, text, colour, entries, after}
use Rattle.form.specs.Readers.{Answer, found, refused, mapped, placed, at}
use Rattle.form.specs.Reading.{next, num, string}
use Rattle.form.specs.Skipping.{passing}
use Rattle.laws.proofs.Lookups.{plain-after, compact-in, negated-in}
use Rattle.laws.proofs.Places.{at_next, at-giving}
use Rattle.laws.proofs.SkipSteps.{pass-number, pass-text, pass-colour}
use Rattle.laws.proofs.Elsewhere.{each_id, listed, MissedAll, elsewhere}
use Rattle.std.specs.Prelude.{Result, Ok, Err}
use Rattle.payload.specs.Answers.{text_of, read_as}
use Rattle.payload.specs.declared.answers.Eof.{Eof}
use Rattle.payload.specs.declared.answers.Text.{Text}
use Rattle.skip.specs.Walks.{span, steps_over}

-- ---- past what a walk steps over after an id

-- the bytes there, by themselves
abbrev pub stood : Option ℕ → List ℕ → ℕ → Answer (List ℕ)
stood none s p = at string s p
stood (some w) s p = at (next w) s p

crossed : Option ℕ → List ℕ → ℕ → Answer (Unit {0})
crossed o s p = mapped (λ _. tt) (stood o s p)

-- whatever is made of them
mapped-past : {A B : Type 0} (g : A → B) (x : Answer A) → mapped (λ _. tt {0}) (mapped g x) ≡ mapped (λ _. tt) x
unfolding mapped
mapped-past g (found a n) = refl
mapped-past g (refused why) = refl

placed_past : {A B : Type 0} (f : ℕ → A → B) (x : Answer A) → mapped (λ _. tt {0}) (placed f x) ≡ mapped (λ _. tt) x
unfolding placed mapped
placed_past f (found a n) = refl
placed_past f (refused why) = refl

-- of a read's own value nothing is kept
read-past : {V : Type 0} (r : Result (V × ℕ) Eof) → read_as (λ _. tt {0}) r ≡ mapped (λ _. tt) (read_as (λ x. x) r)
unfolding mapped
read-past (Ok x) = refl
read-past (Err e) = refl

module _ (i : ℕ) (s : List ℕ) (p : ℕ) where
  past-nothing : crossed (some 0) s p ≡ found tt p
  unfolding crossed mapped
  past-nothing = ap (mapped (λ _. tt)) (at_next 0 s p zero-le) ∙ ap (found tt) (add-zero p)

  crossing : passing i s p ≡ crossed (steps_over i) s p
  unfolding crossed num
  crossing = go (after i) refl
    where
      go : (q : Payload) → after i ≡ q → passing i s p ≡ crossed (span q) s p
      go (number w f) h = pass-number i s p h ∙ ap (mapped (λ _. tt)) (at-giving (next w) le s p) ∙ mapped-past le (at (next w) s p)
      go (text f) h = pass-text i s p h
      go colour h = pass-colour i s p h ∙ sym past-nothing

  -- in an arm of a `match`: by the place of the bytes
  pub passed : (o : Option ℕ) → steps_over i ≡ o → (r : Result (Text × ℕ) Eof)
      → read_as (λ x. x) r ≡ placed text_of (stood o s p) → read_as (λ _. tt) r ≡ passing i s p
  unfolding crossed
  passed o e r q =
      read-past r ∙ ap (mapped (λ _. tt)) q ∙ placed_past text_of (stood o s p) ∙ sym (crossing ∙ ap (λ x. crossed x s p) e)

  pub passed-nothing : steps_over i ≡ some 0 → found tt p ≡ passing i s p
  passed-nothing e = sym (crossing ∙ ap (λ x. crossed x s p) e ∙ past-nothing)

-- ---- the default of a `match`

abbrev is_nothing : Option ℕ → Bool
is_nothing none = false
is_nothing (some w) = eqb w 0

nothing-some : (o : Option ℕ) → is_nothing o ≡ true → o ≡ some 0
nothing-some none e = cc
nothing-some (some w) e = ap some (eqb-true w 0 e)

-- no byte follows an id that no arm has and that is none of some others, if each of the table's ids with a payload is in an arm or is
-- one of them
pub bare : (other : ℕ → Bool) (kss : List (List ℕ)) → each_id (λ k. listed k kss || (other k || is_nothing (steps_over k))) entries ≡ true
    → (x : ℕ) → MissedAll (Unit {0}) kss x → other x ≡ false → steps_over x ≡ some 0
bare other kss e x m h =
    let t = elsewhere (λ i. other i || is_nothing (steps_over i)) kss (λ i r. rw (plain-after i r) (or-true (other i))) e x m in
    nothing-some (steps_over x) (rw h at t)

-- ---- the compact numbers

pub compact-steps : (x : ℕ) → 0x0d47 ≤ x → x < 0x0d4f → steps_over x ≡ some (x - 0x0d47)
compact-steps x lo hi = ap span (compact-in x lo hi)

pub negated-steps : (x : ℕ) → 0x0d4f ≤ x → x < 0x0d56 → steps_over x ≡ some (x - 0x0d4e)
negated-steps x lo hi = ap span (negated-in x lo hi)
