-- Numbers of four bytes, the highest byte first: there and back. Assumes nothing.
use Prim.Native.Nat.{ℕ, ◌*◌, ◌^◌, ◌≤◌, ◌<◌}
use native.Mathlib.Omega.{arith}
use mathlib.Core.Path.{◌≡◌, refl, sym, ap, ◌∙◌}
use mathlib.Core.List.{List, [], ◌∷◌, reverse, reverse_aux, reverse-reverse}
use lib.ListN.{length, length-append, length-reverse}
use lib.Seq.{take_all}
use Rattle.form.specs.Numbers.{le, le_bytes, Bytes}
use Rattle.form.specs.Contents.{big, big_number, big_all}
use Rattle.laws.proofs.LittleEndian.{length-bytes, le-bytes, bytes_le, bytes-bytes, le-take-lt}

reverse-bytes : (s r : List ℕ) → Bytes s → Bytes r → Bytes (reverse_aux s r)
reverse-bytes [] r h k = k
reverse-bytes (b ∷ s) r h k = reverse-bytes s (b ∷ r) h.1 (h.0, k)

pub length-big : (n : ℕ) → length (big n) ≡ 4
unfolding big
length-big n = length-reverse (le_bytes 4 n) ∙ length-bytes 4 n

pub big-bytes : (n : ℕ) → Bytes (big n)
unfolding big
big-bytes n = reverse-bytes (le_bytes 4 n) [] (bytes-bytes 4 n) tt

pub number-big : (n : ℕ) → n < 2 ^ 32 → big_number (big n) ≡ n
unfolding big big_number
number-big n h = rw reverse-reverse (le-bytes 4 n h)

module _ (t : List ℕ) (b : Bytes t) where
  pub big-number : length t ≡ 4 → big (big_number t) ≡ t
  unfolding big big_number
  big-number h =
      ap (λ (w : ℕ). reverse (le_bytes w (le (reverse t)))) (sym (length-reverse t ∙ h))
      ∙ ap reverse (bytes_le (reverse t) (reverse-bytes t [] b tt))
      ∙ reverse-reverse t

  pub number_small : length t ≤ 4 → big_number t < 2 ^ 32
  unfolding big_number
  number_small h =
      let l : length (reverse t) ≤ 4 = rw length-reverse h in
      rw (take_all 4 (reverse t) l) at (le-take-lt 4 (reverse t) (reverse-bytes t [] b tt))

-- ---- numbers in order

pub length-big-all : (ns : List ℕ) → length (big_all ns) ≡ 4 * length ns
unfolding big_all
length-big-all [] = refl
length-big-all (n ∷ ns) = omega (arith, length-append (big n) (big_all ns), length-big n, length-big-all ns)
