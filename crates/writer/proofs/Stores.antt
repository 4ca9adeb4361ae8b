-- Bytes stored: a number's, one after the other (a turn of the loop, and its end), and all of a slice. Assumes nothing.
use Prim.Native.Nat.{ℕ, zero, suc, ◌+◌, ◌-◌, ◌/◌, ◌%◌, ◌≤◌, ◌<◌}
use native.Mathlib.Nat.{not-suc-le-zero}
use native.Mathlib.Numerals.{add-one, sub-one}
use mathlib.Core.Path.{◌≡◌, refl, sym, ◌∙◌}
use mathlib.Core.List.{List}
use lib.ListN.{length, take, drop, set}
use lib.Seq.{sets, sets-eq}
use borrow.Rule.Slice.PartMut.{put_mid}
use Rattle.std.proofs.lemmas.List.{drop-drop, append_assoc}
use Rattle.form.specs.Numbers.{le_bytes}

-- a turn that writes a number's lowest byte
pub number_step : (out : List ℕ) (i left v : ℕ) → 0 < left → sets (set out i (v % 256)) (i + 1) (le_bytes (left - 1) (v / 256)) ≡ sets out i (le_bytes left v)
unfolding le_bytes
number_step out i zero v h = absurd (not-suc-le-zero h)
number_step out i (suc l) v h = simp (add-one, sub-one)

pub number-done : (out : List ℕ) (i left v : ℕ) → left ≤ 0 → out ≡ sets out i (le_bytes left v)
unfolding le_bytes
number-done out i zero v h = refl
number-done out i (suc l) v h = absurd (not-suc-le-zero h)

-- a part that is overwritten by as many bytes
pub part-sets : (i k : ℕ) (d bs : List ℕ) → k ≡ length bs → i + length bs ≤ length d → put_mid i k d bs ≡ sets d i bs
part-sets i k d bs e h = rw (e, drop-drop (length bs) i d) (sym (sets-eq bs d i h ∙ append_assoc (take i d) bs (drop (i + length bs) d)))
