-- Entries as a list of numbers, two for each: there and back. Assumes nothing.
use Prim.Native.Nat.{ℕ, zero, suc, ◌+◌, ◌*◌, ◌^◌, ◌≤◌, ◌<◌}
use native.Mathlib.Omega.{arith}
use mathlib.Core.Path.{◌≡◌, refl, ap}
use mathlib.Core.Option.{Option, none, some}
use mathlib.Core.List.{List, [], ◌∷◌}
use lib.ListN.{length, get_or}
use mir.Syntax.{w32}
use mir.Val.{Fits}
use Rattle.form.specs.Contents.{Entry, span, flat, in_front, paired}

-- each number is below m
abbrev pub Below : ℕ → List ℕ → Type 0
Below m [] = Unit {0}
Below m (n ∷ l) = (n < m) × Below m l

pub below-weaken : {m k : ℕ} (l : List ℕ) → m ≤ k → Below m l → Below k l
below-weaken [] h b = tt
below-weaken (n ∷ l) h b = (omega (arith, b.0), below-weaken l h b.1)

-- what the code knows of a slice's elements
pub below_all : (l : List ℕ) → ((i : ℕ) → Fits w32 (get_or l i 0)) → Below (2 ^ 32) l
below_all [] h = tt
below_all (n ∷ l) h = ((h 0).fits, below_all l (λ i. h (suc i)))

pub length-flat : (l : List Entry) → length (flat l) ≡ 2 * length l
unfolding flat
length-flat [] = refl
length-flat (x ∷ l) = omega (arith, length-flat l)

-- by the entries' places
module _ (d : Entry) where
  pub below-entry : {m : ℕ} (l : List Entry) → Below m (flat l) → (i : ℕ) → i < length l → ((get_or l i d).start < m) × ((get_or l i d).end < m)
  unfolding flat
  below-entry [] b i h = absurd (omega arith)
  below-entry (x ∷ l) b zero h = (b.0, b.1.0)
  below-entry (x ∷ l) b (suc i) h = below-entry l b.1.1 i (omega arith)

  pub below-entries : {m : ℕ} (l : List Entry) → ((i : ℕ) → i < length l → ((get_or l i d).start < m) × ((get_or l i d).end < m)) → Below m (flat l)
  unfolding flat
  below-entries [] f = tt
  below-entries (x ∷ l) f = ((f 0 (omega arith)).0, ((f 0 (omega arith)).1, below-entries l (λ i h. f (suc i) (omega arith))))

  pub flat-at : (l : List Entry) (i : ℕ) → i < length l → (get_or (flat l) (2 * i) 0 ≡ (get_or l i d).start) × (get_or (flat l) (2 * i + 1) 0 ≡ (get_or l i d).end)
  unfolding flat
  flat-at [] i h = absurd (omega arith)
  flat-at (x ∷ l) zero h = (refl, refl)
  flat-at (x ∷ l) (suc i) h =
      let y : 2 * suc i ≡ suc (suc (2 * i)) = omega arith in
      let z : suc (suc (2 * i)) + 1 ≡ suc (suc (2 * i + 1)) = omega arith in
      rw (y, z) (flat-at l i (omega arith))

-- ---- there and back

pub paired-flat : (l : List Entry) → paired (flat l) ≡ some l
unfolding flat paired
paired-flat [] = refl
paired-flat (x ∷ l) = rw (paired-flat l)

pub flat-paired : (ns : List ℕ) (l : List Entry) → paired ns ≡ some l → flat l ≡ ns
unfolding flat paired
flat-paired [] l e = let z : l ≡ [] = cc in rw z
flat-paired (a ∷ []) l e = cc
flat-paired (a ∷ b ∷ ns) l e = go (paired ns) (flat-paired ns) e
  where
    go : (o : Option (List Entry)) → ((m : List Entry) → o ≡ some m → flat m ≡ ns) → in_front (span a b) o ≡ some l → flat l ≡ a ∷ b ∷ ns
    go none rest f = cc
    go (some m) rest f = let z : l ≡ span a b ∷ m = cc in rw z (ap (λ (t : List ℕ). a ∷ b ∷ t) (rest m refl))
