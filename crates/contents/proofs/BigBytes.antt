-- Numbers of four bytes, the highest byte first, at places of a list: stored there, and read from there. Assumes nothing.
use Prim.Native.Nat.{ℕ, suc, ◌+◌, ◌-◌, ◌/◌, ◌%◌, ◌≤◌}
use native.Mathlib.Numerals.{add-one, add-two, add-three}
use native.Mathlib.Omega.{arith}
use mathlib.Core.Path.{◌≡◌, sym, ◌∙◌}
use mathlib.Core.List.{List, [], ◌∷◌, append_assoc}
use lib.ListN.{length, take, drop, get_or}
use lib.Seq.{sets, sets-eq, drop-cons, drop-drop}
use borrow.Rule.Slice.PartMut.{put_mid}
use Rattle.std.specs.Int.{w32, to_be_bytes, from_be_bytes}
use Rattle.form.specs.Numbers.{le, le_bytes}
use Rattle.form.specs.Contents.{big, big_number}
use Rattle.laws.proofs.BigEndian.{length-big}

pub big-bytes : (x : ℕ) → to_be_bytes w32 x ≡ big x
unfolding big le_bytes
big-bytes x =
    let a : x / 256 / 256 / 256 % 256 ≡ x / 16777216 % 256 = omega arith in
    let b : x / 256 / 256 % 256 ≡ x / 65536 % 256 = omega arith in
    rw (a, b)

-- in the place of the four bytes from i on
pub put-big : (d : List ℕ) (i x : ℕ) → i + 4 ≤ length d → {bs : List ℕ} → bs ≡ to_be_bytes w32 x → put_mid i (i + 4 - i) d bs ≡ sets d i (big x)
put-big d i x h {bs} e =
    let four : i + 4 - i ≡ 4 = omega arith in
    let room : i + length (big x) ≤ length d = omega (arith, length-big x) in
    let n : length (big x) ≡ 4 = length-big x in
    let same : bs ≡ big x = e ∙ big-bytes x in
    rw (same, four, drop-drop 4 i d) (sym (sets-eq (big x) d i room ∙ rw n (append_assoc (take i d) (big x) (drop (i + 4) d))))

pub number_at : (s : List ℕ) (i : ℕ) → i + 4 ≤ length s
    → from_be_bytes w32 (get_or s i 0 ∷ get_or s (i + 1) 0 ∷ get_or s (i + 2) 0 ∷ get_or s (i + 3) 0 ∷ []) ≡ big_number (take 4 (drop i s))
unfolding big_number le
number_at s i h =
    rw (add-one i, add-two i, add-three i, drop-cons s i 0 (omega arith), drop-cons s (suc i) 0 (omega arith))
    (rw (drop-cons s (suc (suc i)) 0 (omega arith), drop-cons s (suc (suc (suc i))) 0 (omega arith)) (omega arith))
