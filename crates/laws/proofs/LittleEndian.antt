-- Little-endian numbers, over the width. Assumes nothing.
use Prim.Native.Nat.{ℕ, zero, suc, ◌+◌, ◌*◌, ◌%◌, ◌/◌, ◌^◌, ◌≤◌, ◌<◌, zero-le}
use native.Mathlib.Nat.{le_of_suc-le-suc, le_antisymm, zero-lt-suc, div-lt_iff_lt-mul, mod-add-div, pow-suc, one-le-pow, mod-lt, pow-le-pow_right}
use native.Mathlib.Omega.{arith}
use mathlib.Core.Path.{◌≡◌, refl, sym, ap, ◌∙◌}
use mathlib.Core.List.{List, [], ◌∷◌, ◌++◌}
use lib.ListN.{length, take, drop, get_or}
use lib.Seq.{length-take-le}
use lib.Dec.{lit<}
use mir.Syntax.{w8}
use mir.Val.{Fits}
use Rattle.form.specs.Numbers.{le, le_bytes, Bytes}

pub length-bytes : (w n : ℕ) → length (le_bytes w n) ≡ w
unfolding le_bytes
length-bytes zero n = refl
length-bytes (suc w) n = ap suc (length-bytes w (n / 256))

pub le-bytes : (w n : ℕ) → n < 256 ^ w → le (le_bytes w n) ≡ n
unfolding le le_bytes
le-bytes zero n h = le_antisymm zero-le (le_of_suc-le-suc h)
le-bytes (suc w) n h =
    rw (le-bytes w (n / 256) ((div-lt_iff_lt-mul (zero-lt-suc 255)).1 (rw pow-suc at h))) (mod-add-div n 256)

pub bytes_le : (s : List ℕ) → Bytes s → le_bytes (length s) (le s) ≡ s
unfolding le le_bytes
bytes_le [] h = refl
bytes_le (b ∷ s) h =
    let low : (b + 256 * le s) % 256 ≡ b = omega (arith, h.0) in
    let high : (b + 256 * le s) / 256 ≡ le s = omega (arith, h.0) in
    rw (low, high, bytes_le s h.1)

pub take-bytes : (n : ℕ) (s : List ℕ) → Bytes s → Bytes (take n s)
take-bytes zero s h = tt
take-bytes (suc n) [] h = tt
take-bytes (suc n) (b ∷ s) h = (h.0, take-bytes n s h.1)

-- the bytes of a number are those that spell it
pub number_same : (s : List ℕ) → Bytes s → (w : ℕ) → w ≤ length s → le_bytes w (le (take w s)) ≡ take w s
number_same s b w h = ap (λ (k : ℕ). le_bytes k (le (take w s))) (sym (length-take-le w s h)) ∙ bytes_le (take w s) (take-bytes w s b)

pub drop-bytes : (n : ℕ) (s : List ℕ) → Bytes s → Bytes (drop n s)
drop-bytes zero s h = h
drop-bytes (suc n) [] h = tt
drop-bytes (suc n) (b ∷ s) h = drop-bytes n s h.1

pub append-bytes : (a b : List ℕ) → Bytes a → Bytes b → Bytes (a ++ b)
append-bytes [] b p q = q
append-bytes (x ∷ a) b p q = (p.0, append-bytes a b p.1 q)

pub bytes-bytes : (w n : ℕ) → Bytes (le_bytes w n)
unfolding le_bytes
bytes-bytes zero n = tt
bytes-bytes (suc w) n = (mod-lt n (lit< tt), bytes-bytes w (n / 256))

pub le-take-lt : (w : ℕ) (s : List ℕ) → Bytes s → le (take w s) < 256 ^ w
unfolding le
le-take-lt zero s h = lit< tt
le-take-lt (suc w) [] h = one-le-pow (suc w) 256 (lit< tt)
le-take-lt (suc w) (b ∷ s) h = omega (arith, le-take-lt w s h.1, h.0)

-- what the code knows of a slice's elements
pub bytes-all : (s : List ℕ) → ((i : ℕ) → Fits w8 (get_or s i 0)) → Bytes s
bytes-all [] h = tt
bytes-all (b ∷ s) h = ((h 0).fits, bytes-all s (λ i. h (suc i)))

pub within : {w n : ℕ} → w ≤ n → 256 ^ w ≤ 256 ^ n
within h = pow-le-pow_right (lit< tt) h
