-- Runs of stores, `sets`: how two runs compose, a turn of a loop that moves bytes, and what a part of a list leaves in it. Assumes nothing.
use mathlib.Core.Path.{◌≡◌, refl, sym, ap, ◌∙◌}
use mathlib.Core.List.{List, [], ◌++◌, append_assoc, append-nil}
use native.Mathlib.Nat.{zero-add}
use Prim.Native.Nat.{ℕ, ◌+◌, ◌-◌, ◌≤◌, ◌<◌}
use native.Mathlib.Omega.{arith}
use lib.ListN.{length, take, drop, get_or, set, drop_of_length-le, length-drop}
use lib.Seq.{sets, sets-eq, drop-drop, drop-set-lt, length-sets, take_at}
use borrow.Rule.Slice.PartMut.{put_mid}
use Rattle.std.proofs.lemmas.List.Edits.{paste_all}
use Rattle.std.proofs.lemmas.Slice.{put_mid-paste}
use Rattle.std.proofs.Common.{take_all}
use Rattle.laws.proofs.Runs.{sets-append, copy_step}

-- two runs are one run, where the second begins at a place that is given otherwise
pub sets_then : (a b l : List ℕ) (i j : ℕ) → j ≡ i + length a → sets (sets l i a) j b ≡ sets l i (a ++ b)
sets_then a b l i j h = ap (λ (k : ℕ). sets (sets l i a) k b) h ∙ sets-append a b l i

-- what was stored at the front is there
pub take-sets : (l a : List ℕ) (n : ℕ) → length a ≡ n → n ≤ length l → take n (sets l 0 a) ≡ a
take-sets l a n e h = ap (take n) (sets-eq a l 0 (omega arith)) ∙ take_at a (drop (0 + length a) l) n e

-- a turn that moves a byte of the list itself towards the front: what is still to be moved stands behind the byte that is written
pub slide-step : (l : List ℕ) (i j left : ℕ) → 0 < left → i ≤ j → j < length l
    → sets (set l i (get_or l j 0)) (i + 1) (take (left - 1) (drop (j + 1) (set l i (get_or l j 0)))) ≡ sets l i (take left (drop j l))
slide-step l i j left h o k =
    ap (λ (r : List ℕ). sets (set l i (get_or l j 0)) (i + 1) (take (left - 1) r)) (drop-set-lt (j + 1) l i (get_or l j 0) (omega arith))
    ∙ copy_step l l i j left h k

-- what `&l[a..]` is
abbrev pub onwards : List ℕ → ℕ → List ℕ
onwards l a = take (length l - a) (drop a l)

pub onwards-is : (l : List ℕ) (a : ℕ) → onwards l a ≡ drop a l
onwards-is l a = take_all (length l - a) (drop a l) (omega (arith, length-drop a l))

-- a run of stores in what is left of a list from a place on is one in the list
pub put_tail : (l x part : List ℕ) (a : ℕ) → part ≡ sets (onwards l a) 0 x → a + length x ≤ length l → put_mid a (length l - a) l part ≡ sets l a x
put_tail l x part a q h =
    let e : part ≡ sets (drop a l) 0 x = rw (onwards-is l a) at q in
    let d = length-drop a l in
    let long : length part ≡ length l - a = ap length e ∙ length-sets (drop a l) 0 x ∙ d in
    let z : drop (a + (length l - a)) l ≡ [] = drop_of_length-le l (omega (arith, h)) in
    let p : part ≡ x ++ drop (a + length x) l = e ∙ sets-eq x (drop a l) 0 (omega (arith, d)) ∙ rw (zero-add, drop-drop (length x) a l) in
    put_mid-paste a (length l - a) l part part (length l - a) refl refl (sym long) ∙ paste_all l a part (length l - a) (sym long)
    ∙ ap (λ (m : List ℕ). take a l ++ (part ++ m)) z ∙ ap (λ (m : List ℕ). take a l ++ m) (append-nil part ∙ p)
    ∙ sym (append_assoc (take a l) x (drop (a + length x) l)) ∙ sym (sets-eq x l a h)
