-- Stretches of a save: what is left of it from a place on, and what stands before. Assumes nothing.
use Prim.Native.Nat.{ℕ, ◌+◌, ◌-◌, ◌≤◌}
use native.Mathlib.Omega.{arith}
use mathlib.Core.Path.{◌≡◌, refl, sym, ap, ◌∙◌}
use mathlib.Core.Option.{Option, none, some}
use mathlib.Core.List.{List, [], ◌++◌, append_assoc}
use lib.ListN.{length, take, drop, length-append}
use lib.Seq.{take-add, drop-drop}
use Rattle.form.specs.Values.{Value}
use Rattle.form.specs.Refusals.{Refusal}
use Rattle.form.specs.Saves.{Walk, then, walk, values, tokens, spell_all, from}
use Rattle.form.specs.Writing.{Output, written, unwritten, first_refusal, unless}
use Rattle.laws.proofs.Runs.{part_length}
use Rattle.laws.proofs.Walking.{from_end}
use Rattle.normaliser.specs.Stretches.{Style, output_of, unbounded, rest, before, between, Spells}

-- ---- what is left

module _ (y : Style) where
  pub rest_from : (s : List ℕ) (p : ℕ) → rest y s p ≡ output_of y (from s p)
  unfolding rest from
  rest_from s p = refl

  pub rest-start : (s : List ℕ) → rest y s 0 ≡ unbounded y s
  unfolding rest output_of unbounded walk tokens
  rest-start s = refl

  pub rest_end : (s : List ℕ) (p : ℕ) → length s ≤ p → rest y s p ≡ written []
  unfolding output_of first_refusal values spell_all unless
  rest_end s p h = rest_from s p ∙ ap (output_of y) (from_end s p h)

  -- a token that has a spelling stands before what is left after it
  pub output-then : (p n : ℕ) (v : Value) (w : Walk) → y.why p v ≡ none → output_of y (then p n v w) ≡ before (y.spelled v) (output_of y w)
  unfolding output_of first_refusal values spell_all unless before
  output-then p n v w h = rw h (go (first_refusal y.why w))
    where
      go : (o : Option Refusal) → unless o (written (y.spelled v ++ spell_all y.spelled (values w))) ≡ before (y.spelled v) (unless o (written (spell_all y.spelled (values w))))
      go none = refl
      go (some r) = refl

-- ---- what stands before

pub before-before : (a b : List ℕ) (o : Output) → before a (before b o) ≡ before (a ++ b) o
unfolding before
before-before a b (written cs) = ap written (sym (append_assoc a b cs))
before-before a b (unwritten r) = refl

pub before-nil : (o : Output) → before [] o ≡ o
unfolding before
before-nil (written cs) = refl
before-nil (unwritten r) = refl

pub spells-none : {y : Style} (s : List ℕ) (p : ℕ) → p ≤ length s → Spells y s p p []
spells-none {y} s p h = record { on = omega arith; there = h; short = omega arith; is = sym (before-nil (rest y s p)) }

pub spells_then : {y : Style} {s a b : List ℕ} {p q r : ℕ} → Spells y s p q a → Spells y s q r b → Spells y s p r (a ++ b)
spells_then {y} {s} {a} {b} {p} {q} {r} k l = record {
  on = omega (arith, k.on, l.on);
  there = l.there;
  short = omega (arith, k.on, l.on, k.short, l.short, length-append a b);
  is = k.is ∙ ap (before a) l.is ∙ before-before a b (rest y s r);
}

-- ---- the save's own bytes

pub between-length : (s : List ℕ) (p q : ℕ) → q ≤ length s → length (between s p q) ≡ q - p
between-length s p q h = part_length s p (q - p) (omega arith)

pub between-then : (s : List ℕ) (p q r : ℕ) → p ≤ q → q ≤ r → between s p q ++ between s q r ≡ between s p r
between-then s p q r h l =
    let e : p + (q - p) ≡ q = omega arith in
    let f : q - p + (r - q) ≡ r - p = omega arith in
    sym (ap (λ (n : ℕ). take n (drop p s)) (sym f) ∙ take-add (q - p) (r - q) (drop p s) ∙ rw (drop-drop (q - p) p s, e))

pub between_none : (s : List ℕ) (p : ℕ) → between s p p ≡ []
between_none s p = let e : p - p ≡ 0 = omega arith in rw e
