-- How many bytes hold a number: w of them hold those below 256 ^ w, so that a number of k bytes needs k. Assumes nothing.
use Prim.Native.Nat.{ℕ, zero, suc, ◌+◌, ◌-◌, ◌*◌, ◌/◌, ◌^◌, ◌≤◌, ◌<◌, zero-le}
use native.Mathlib.Nat.{le_refl, le_trans, lt_of_lt_of_le, pow-suc, pow-le-pow_right}
use native.Mathlib.Omega.{arith}
use mathlib.Core.Path.{◌≡◌, refl, sym, ap, ◌∙◌}
use mathlib.Core.Bool.{Bool, true, false}
use mathlib.Core.Option.{none, some}
use mathlib.Core.List.{◌++◌}
use lib.Dec.{ltb, lit<}
use lib.Count.{count_leading_zeros, leading_length}
use lib.Pow.{pow-add}
use borrow.Author.Tests.{ltb-true, ltb-false, le-ltb}
use Rattle.form.specs.Numbers.{pick, le_bytes}
use Rattle.form.specs.Values.{Value}
use Rattle.form.specs.Table.{Payload, number}
use Rattle.form.specs.Shortest.{Width, held_by, or_else, first_of}
use Rattle.laws.proofs.LittleEndian.{within}

-- every number has its width
pub width : (u n : ℕ) → n < 256 ^ u → (w : ℕ) × (w ≤ u) × Width n w
width zero n h = (0, le_refl 0, record { holds = h; least = λ j l. absurd (omega arith) })
width (suc u) n h = go (ltb n (256 ^ u)) refl (width u n)
  where
    go : (b : Bool) → ltb n (256 ^ u) ≡ b → (n < 256 ^ u → (w : ℕ) × (w ≤ u) × Width n w) → (w : ℕ) × (w ≤ suc u) × Width n w
    go true e f = let k = f (ltb-true n (256 ^ u) e) in (k.0, omega (arith, k.1), k.2)
    go false e f = (suc u, le_refl (suc u), record { holds = h; least = λ j l. le_trans (within (omega arith)) (ltb-false n (256 ^ u) e) })

-- THE LAW: a number that w bytes do not hold needs more
pub more_bytes : {n w u : ℕ} → 256 ^ w ≤ n → n < 256 ^ u → w < u
more_bytes {n} {w} {u} l h = go (ltb w u) refl
  where
    go : (b : Bool) → ltb w u ≡ b → w < u
    go true e = ltb-true w u e
    go false e = let k = within (ltb-false w u e) in absurd (omega arith)

-- so bytes that hold a number are at least as many as it has
pub width-needed : {n w u : ℕ} → Width n w → n < 256 ^ u → w ≤ u
width-needed {w = zero} k h = zero-le
width-needed {w = suc w} k h = more_bytes (k.least w (le_refl (suc w))) h

-- ---- the ids of a range, each with a byte more

module _ (b : ℕ) (f : ℕ → Value) where
  -- the payload of the id i
  abbrev rising : ℕ → Payload
  rising i = number (i - b) f

  -- the first of k ids whose bytes hold n is the one with as many as n has
  pub first_holds : (k i n w : ℕ) → b ≤ i → i ≤ b + w → b + w < i + k → Width n w → first_of k i rising n ≡ some (le_bytes 2 (b + w) ++ le_bytes w n)
  unfolding first_of held_by
  first_holds zero i n w l m h q = absurd (omega arith)
  first_holds (suc k) i n w l m h q = go (ltb n (256 ^ (i - b))) refl (λ j. first_holds k (i + 1) n w (omega arith) j (omega arith) q)
    where
      go : (t : Bool) → ltb n (256 ^ (i - b)) ≡ t → (i + 1 ≤ b + w → first_of k (i + 1) rising n ≡ some (le_bytes 2 (b + w) ++ le_bytes w n))
          → or_else (pick t (some (le_bytes 2 i ++ le_bytes (i - b) n)) none) (first_of k (i + 1) rising n) ≡ some (le_bytes 2 (b + w) ++ le_bytes w n)
      go true e f =
          let v : i - b ≡ w = let u = width-needed q (ltb-true n (256 ^ (i - b)) e) in omega arith in
          let z : i ≡ b + w = omega arith in
          rw (v, z)
      go false e f = f (next (ltb i (b + w)) refl)
        where
          next : (t : Bool) → ltb i (b + w) ≡ t → i + 1 ≤ b + w
          next true s = omega (arith, ltb-true i (b + w) s)
          next false s =
              let z : i - b ≡ w = omega (arith, ltb-false i (b + w) s) in
              let y : 256 ^ w ≤ n = rw z at (ltb-false n (256 ^ (i - b)) e) in
              let x = q.holds in
              absurd (omega arith)

  -- or none is
  pub first-none : (k i n : ℕ) → b ≤ i → 256 ^ (i + k - b) ≤ n → first_of (suc k) i rising n ≡ none
  unfolding first_of held_by
  first-none zero i n l h = let z : i + 0 - b ≡ i - b = omega arith in rw (le-ltb n (256 ^ (i - b)) (rw z at h))
  first-none (suc k) i n l h =
      let z : i + suc k - b ≡ i + 1 + k - b = omega arith in
      let u : 256 ^ (i - b) ≤ n = le_trans (within (omega arith)) h in
      rw (le-ltb n (256 ^ (i - b)) u) (first-none k (i + 1) n (omega arith) (rw z at h))

-- ---- by leading zeros

bits : (w : ℕ) → 256 ^ w ≡ 2 ^ (8 * w)
bits zero = refl
bits (suc w) =
    let z : 8 * suc w ≡ 8 * w + 8 = omega arith in
    pow-suc 256 w ∙ ap (λ (x : ℕ). x * 256) (bits w) ∙ sym (ap (λ (x : ℕ). 2 ^ x) z ∙ pow-add 2 (8 * w) 8)

two : {i j : ℕ} → i ≤ j → 2 ^ i ≤ 2 ^ j
two h = pow-le-pow_right (lit< tt) h

pub leading-width : (n : ℕ) → n < 2 ^ 64 → Width n ((71 - count_leading_zeros 64 n) / 8)
leading-width n h =
    let k = leading_length 64 n h in
    let m = k.0 in
    let w : ℕ = (71 - count_leading_zeros 64 n) / 8 in
    let fits : m ≤ 8 * w = omega (arith, k.1) in
    record {
      holds = rw (bits w) (lt_of_lt_of_le k.2 (two fits));
      least = λ j l. rw (bits j) (half j m (omega (arith, k.1)) k.3);
    }
  where
    half : (j m : ℕ) → 8 * j < m → 2 ^ m ≤ 2 * n + 1 → 2 ^ (8 * j) ≤ n
    half j (suc m) l q = let p = pow-suc 2 m in let r = two {i = 8 * j} {j = m} (omega arith) in omega arith
    half j zero l q = absurd (omega arith)
