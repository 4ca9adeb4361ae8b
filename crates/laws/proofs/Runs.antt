-- Runs of stores in a list, and parts of one. Assumes nothing.
use Prim.Native.Nat.{ℕ, zero, suc, ◌+◌, ◌-◌, ◌≤◌, ◌<◌}
use native.Mathlib.Nat.{not-suc-le-zero, zero-add, add-zero, add-suc, suc-add}
use native.Mathlib.Numerals.{add-one, sub-one}
use native.Mathlib.Omega.{arith}
use mathlib.Core.Path.{◌≡◌, refl, sym, ap, ◌∙◌}
use mathlib.Core.List.{List, [], ◌∷◌, ◌++◌}
use lib.ListN.{length, take, drop, get_or, set, length-drop}
use lib.Seq.{sets, sets-eq, drop-cons, length-take-le}

-- two runs, one after the other, are one run
pub sets-append : (a b l : List ℕ) (i : ℕ) → sets (sets l i a) (i + length a) b ≡ sets l i (a ++ b)
sets-append [] b l i = ap (λ (k : ℕ). sets l k b) (add-zero i)
sets-append (x ∷ a) b l i =
    ap (λ (k : ℕ). sets (sets (set l i x) (suc i) a) k b) (add-suc i (length a) ∙ sym (suc-add i (length a)))
    ∙ sets-append a b (set l i x) (suc i)

-- at the front, with room
pub sets-front : (bs d : List ℕ) → length bs ≤ length d → sets d 0 bs ≡ bs ++ drop (length bs) d
sets-front bs d h = sets-eq bs d 0 (omega arith) ∙ ap (λ (k : ℕ). bs ++ drop k d) (zero-add (length bs))

-- a part within a list has the length that is asked
pub part_length : (s : List ℕ) (start len : ℕ) → len ≤ length s - start → length (take len (drop start s)) ≡ len
part_length s start len h = length-take-le len (drop start s) (rw length-drop h)

-- a turn of a loop that copies: of so many bytes of s that are left, from j on, the first goes to place i
pub copy_step : (out s : List ℕ) (i j left : ℕ) → 0 < left → j < length s
    → sets (set out i (get_or s j 0)) (i + 1) (take (left - 1) (drop (j + 1) s)) ≡ sets out i (take left (drop j s))
copy_step out s i j zero h k = absurd (not-suc-le-zero h)
copy_step out s i j (suc l) h k = rw (drop-cons s j 0 k, add-one i, add-one j, sub-one)

-- and its end
pub copy_done : (out rest : List ℕ) (i left : ℕ) → left ≤ 0 → out ≡ sets out i (take left rest)
copy_done out rest i zero h = refl
copy_done out rest i (suc l) h = absurd (not-suc-le-zero h)
