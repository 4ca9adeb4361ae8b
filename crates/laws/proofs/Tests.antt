-- The tokens that pass a test, a token at a time; and what the tests ask of where a token stands. Assumes nothing.
use Prim.Native.Nat.{ℕ, ◌+◌}
use native.Mathlib.Omega.{arith}
use mathlib.Core.Path.{◌≡◌, refl, sym, ap, ◌∙◌}
use mathlib.Core.Bool.{Bool, true, false, ◌&&◌}
use mathlib.Core.Option.{none, some}
use mathlib.Core.List.{List}
use lib.ListN.{length}
use lib.Dec.{eqb}
use Rattle.form.specs.Numbers.{pick}
use Rattle.form.specs.Values.{Value, Equal, kind}
use Rattle.form.specs.Spelling.{bit}
use Rattle.form.specs.Saves.{Walk, done, cut, then}
use Rattle.form.specs.Keys.{is_close, is_equal, Around, deeper, onward, holds, Test, any_token, is_container, is_stray, is_key, kept_if, those, count}

length-kept : {A : Type 0} (b : Bool) (x : A) (xs : List A) → length (kept_if b x xs) ≡ bit b + length xs
length-kept true x xs = omega arith
length-kept false x xs = omega arith

pub count-step : (test : Test) (a : Around) (p n : ℕ) (v : Value) (w : Walk) → count test a (then p n v w) ≡ bit (test a v w) + count test (onward v a) w
unfolding count those
count-step test a p n v w = length-kept (test a v w) (p, v) (those test (onward v a) w)

-- ---- the depth, and whether an Equal stands directly before, are all that they ask

-- directly after an Equal or not, at depth d
abbrev pub around : Bool → ℕ → Around
around e d = record { before = pick e (some Equal) none; depth = d }

pub after_equal : (e : Bool) → holds is_equal (pick e (some Equal) none) ≡ e
unfolding is_equal kind
after_equal true = refl
after_equal false = refl

-- two tokens stand alike for the tests
pub record Alike (a b : Around) : Type 0 where
  pub depth : a.depth ≡ b.depth
  pub equal : holds is_equal a.before ≡ holds is_equal b.before

abbrev pub Near : Test → Type 0
Near test = (a b : Around) → Alike a b → (v : Value) (w : Walk) → test a v w ≡ test b v w

those-alike : (test : Test) → Near test → (a b : Around) → Alike a b → (w : Walk) → those test a w ≡ those test b w
unfolding those
those-alike test t a b e done = refl
those-alike test t a b e (cut r) = refl
those-alike test t a b e (then p n v w) =
    rw (t a b e v w)
    (ap (kept_if (test b v w) (p, v)) (those-alike test t (onward v a) (onward v b) (record { depth = ap (deeper v) e.depth; equal = refl }) w))

-- those after a token
pub those-onward : (test : Test) → Near test → (e : Bool) (d : ℕ) (v : Value) (w : Walk) → those test (onward v (around e d)) w ≡ those test (around (is_equal v) (deeper v d)) w
those-onward test t e d v = those-alike test t (onward v (around e d)) (around (is_equal v) (deeper v d)) (record { depth = refl; equal = sym (after_equal (is_equal v)) })

pub any-near : Near any_token
any-near a b e v w = refl

pub container-near : Near is_container
container-near a b e v w = refl

pub stray-near : Near is_stray
stray-near a b e v w = ap (λ (d : ℕ). is_close v && eqb d 0) e.depth

pub key-near : Near is_key
unfolding is_key
key-near a b e v w = rw (e.depth, e.equal)

-- so a step leads on
pub near_step : (test : Test) → Near test → (e : Bool) (d p n : ℕ) (v : Value) (w : Walk)
    → count test (around e d) (then p n v w) ≡ bit (test (around e d) v w) + count test (around (is_equal v) (deeper v d)) w
unfolding count
near_step test t e d p n v w =
    count-step test (around e d) p n v w ∙ ap (λ (l : List (ℕ × Value)). bit (test (around e d) v w) + length l) (those-onward test t e d v w)
