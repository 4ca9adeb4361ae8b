-- Where a cursor stands: what every call goes by. Assumes nothing.
use Prim.Native.Nat.{ℕ, ◌+◌, ◌-◌, ◌≤◌, ◌<◌}
use native.Mathlib.Omega.{arith}
use mathlib.Core.Path.{◌≡◌, refl}
use mathlib.Core.Bool.{Bool, true, false}
use mathlib.Core.List.{List}
use lib.ListN.{length}
use lib.Dec.{leb}
use borrow.Author.Tests.{leb-true, leb-false, le-leb, lt-leb}
use Rattle.form.specs.Numbers.{pick, MAX}
use Rattle.form.specs.Refusals.{BadPlace}
use Rattle.form.specs.Calls.{Cursor, position_of, Call, refuses, fits, within}

-- at a place of the input, each of whose places has a position
pub record Placed (s : List ℕ) (c : Cursor) : Type 0 where
  pub fitting : position_of c (length s) ≤ MAX
  pub there : c.at ≤ length s

-- the test without a sum that may be too large
pub leb-room : (n o m : ℕ) → o ≤ m → leb n (m - o) ≡ leb (o + n) m
leb-room n o m h = go (leb (o + n) m) refl
  where
    go : (b : Bool) → leb (o + n) m ≡ b → leb n (m - o) ≡ b
    go true e = le-leb n (m - o) (omega (arith, leb-true (o + n) m e))
    go false e = lt-leb n (m - o) (omega (arith, leb-false (o + n) m e))

module _ (s : List ℕ) (c : Cursor) where
  pub fits-true : fits s c ≡ true → position_of c (length s) ≤ MAX
  unfolding fits
  fits-true h = leb-true (position_of c (length s)) MAX h

  pub le-fits : position_of c (length s) ≤ MAX → fits s c ≡ true
  unfolding fits
  le-fits h = le-leb (position_of c (length s)) MAX h

  -- what a call says, by where the cursor stands
  pub by_place : {A : Type 0} (P : Call A → Type 0) {x : Call A} → (Placed s c → P x) → (fits s c ≡ true → length s < c.at → P (refuses (BadPlace c.at) c))
      → (fits s c ≡ false → P (refuses (BadPlace c.offset) c)) → P (within s c x)
  unfolding within
  by_place P {x} inside outside unfit = go (fits s c) refl
    where
      there : fits s c ≡ true → (b : Bool) → leb c.at (length s) ≡ b → P (pick b x (refuses (BadPlace c.at) c))
      there f true h = inside (record { fitting = fits-true f; there = leb-true c.at (length s) h })
      there f false h = outside f (leb-false c.at (length s) h)

      go : (b : Bool) → fits s c ≡ b → P (pick b (pick (leb c.at (length s)) x (refuses (BadPlace c.at) c)) (refuses (BadPlace c.offset) c))
      go true f = there f (leb c.at (length s)) refl
      go false f = unfit f

  pub within_in : Placed s c → {A : Type 0} {x : Call A} → within s c x ≡ x
  unfolding within
  within_in h = rw (le-fits h.fitting, le-leb c.at (length s) h.there)

  pub within-unfit : fits s c ≡ false → {A : Type 0} (x : Call A) → within s c x ≡ refuses (BadPlace c.offset) c
  unfolding within
  within-unfit h x = rw h

  pub within-out : fits s c ≡ true → length s < c.at → {A : Type 0} (x : Call A) → within s c x ≡ refuses (BadPlace c.at) c
  unfolding within
  within-out f h x = rw (f, lt-leb c.at (length s) h)
