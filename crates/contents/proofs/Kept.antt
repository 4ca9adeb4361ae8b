-- Entries in records, in numbers, two for each, and in the bytes of a file: how many, one of them, another in its place, and many from the
-- front on. Assumes nothing.
use Prim.Native.Nat.{ℕ, zero, suc, ◌+◌, ◌-◌, ◌*◌, ◌/◌, ◌%◌, ◌≤◌, ◌<◌}
use native.Mathlib.Nat.{not-suc-le-zero}
use native.Mathlib.Numerals.{add-one}
use native.Mathlib.Omega.{arith}
use mathlib.Core.Path.{◌≡◌, refl, sym, ap, ◌∙◌}
use mathlib.Core.Option.{none, some}
use mathlib.Core.List.{List, [], ◌∷◌, ◌++◌, map}
use lib.ListN.{length, take, drop, get_or, set, length-set, length-map}
use lib.Seq.{sets, length-sets, sets-eq, drop-drop}
use Rattle.form.specs.Writing.{over}
use Rattle.form.specs.Contents as F
use Rattle.form.specs.Contents.{span, flat, paired, big, big_number, big_all, entries_in, entries_of}
use Rattle.laws.proofs.Never.{never}
use Rattle.laws.proofs.Runs.{sets-append}
use Rattle.laws.proofs.BigEndian.{length-big}
use Rattle.laws.proofs.Pairs.{length-flat}
use Rattle.laws.proofs.FileBack.{length-entries-in}
use Rattle.contents.specs.declared.Entry.{Entry}
use Rattle.contents.specs.Answers.{entry_of}
use Rattle.contents.specs.Files.{entry_in}
use Rattle.contents.specs.Slots.{pairs, pair_put, record_put, entry_put, put_all}

-- ---- records

pub record-at : (l : List Entry) (d : Entry) (i : ℕ) → i < length (map entry_of l)
    → drop i (map entry_of l) ≡ entry_of (get_or l i d) ∷ drop (i + 1) (map entry_of l)
record-at [] d i h = absurd (not-suc-le-zero h)
record-at (e ∷ l) d zero h = refl
record-at (e ∷ l) d (suc i) h = let z : suc i + 1 ≡ suc (i + 1) = omega arith in rw z (record-at l d i (omega arith))

pub length-records : (d : List Entry) → length (map entry_of d) ≡ length d
length-records d = length-map d entry_of

map-set : {A B : Type 0} (f : A → B) (l : List A) (i : ℕ) (x : A) → map f (set l i x) ≡ set (map f l) i (f x)
map-set f [] i x = refl
map-set f (y ∷ l) zero x = refl
map-set {B = B} f (y ∷ l) (suc i) x = ap (λ (t : List B). f y ∷ t) (map-set f l i x)

records-put : (l : List F.Entry) (i : ℕ) (d : List Entry) → map entry_of (put_all record_put i l d) ≡ sets (map entry_of d) i l
unfolding put_all
records-put [] i d = refl
records-put (x ∷ l) i d =
    records-put l (i + 1) (record_put i x d)
    ∙ ap (λ (t : List F.Entry). sets t (i + 1) l) (map-set entry_of d i (record { start = x.start; end = x.end }))
    ∙ ap (λ (k : ℕ). sets (set (map entry_of d) i x) k l) (add-one i)

-- ---- numbers, two for each

pub length-pairs : (ns : List ℕ) → length (pairs ns) ≡ length ns / 2
unfolding pairs
length-pairs [] = refl
length-pairs (a ∷ []) = refl
length-pairs (a ∷ b ∷ l) = omega (arith, length-pairs l)

pub pair-at : (ns : List ℕ) (i : ℕ) → i < length ns / 2 → drop i (pairs ns) ≡ span (get_or ns (2 * i) 0) (get_or ns (2 * i + 1) 0) ∷ drop (i + 1) (pairs ns)
unfolding pairs
pair-at [] i h = absurd (omega arith)
pair-at (a ∷ []) i h = absurd (omega arith)
pair-at (a ∷ b ∷ l) zero h = refl
pair-at (a ∷ b ∷ l) (suc i) h =
    let y : 2 * suc i ≡ suc (suc (2 * i)) = omega arith in
    let z : suc (suc (2 * i)) + 1 ≡ suc (suc (2 * i + 1)) = omega arith in
    let w : suc i + 1 ≡ suc (i + 1) = omega arith in
    rw (y, z, w) (pair-at l i (omega arith))

pub length-pair-put : (d : List ℕ) (i a b : ℕ) → length (pairs (set (set d (2 * i) a) (2 * i + 1) b)) ≡ length (pairs d)
length-pair-put d i a b =
    length-pairs (set (set d (2 * i) a) (2 * i + 1) b)
    ∙ ap (λ (n : ℕ). n / 2) (length-set (set d (2 * i) a) (2 * i + 1) b ∙ length-set d (2 * i) a)
    ∙ sym (length-pairs d)

pairs-put : (l : List F.Entry) (i : ℕ) (d : List ℕ) → put_all pair_put i l d ≡ sets d (2 * i) (flat l)
unfolding put_all flat
pairs-put [] i d = refl
pairs-put (x ∷ l) i d =
    let y : 2 * (i + 1) ≡ suc (suc (2 * i)) = omega arith in
    pairs-put l (i + 1) (pair_put i x d) ∙ rw (y, add-one (2 * i))

pub even-paired : (ns : List ℕ) → length ns % 2 ≡ 0 → paired ns ≡ some (pairs ns)
unfolding paired pairs
even-paired [] h = refl
even-paired (a ∷ []) h = never (sym h)
even-paired (a ∷ b ∷ l) h = rw (even-paired l (omega arith))

pub odd-paired : (ns : List ℕ) → (length ns % 2 ≡ 0 → ⊥) → paired ns ≡ none
unfolding paired
odd-paired [] h = absurd (h refl)
odd-paired (a ∷ []) h = refl
odd-paired (a ∷ b ∷ l) h = rw (odd-paired l (λ e. h (omega arith)))

-- ---- the bytes of a file

pub length-entries-of : (s : List ℕ) → length (entries_of s) ≡ (length s - 5) / 8
unfolding entries_of
length-entries-of s = length-entries-in ((length s - 5) / 8) (drop 5 s)

bytes-at : (k : ℕ) (s : List ℕ) (i : ℕ) → i < k
    → drop i (entries_in k s) ≡ span (big_number (take 4 (drop (8 * i) s))) (big_number (take 4 (drop (4 + 8 * i) s))) ∷ drop (i + 1) (entries_in k s)
unfolding entries_in
bytes-at zero s i h = absurd (not-suc-le-zero h)
bytes-at (suc k) s zero h = refl
bytes-at (suc k) s (suc i) h =
    let y : 8 * suc i ≡ 8 + 8 * i = omega arith in
    let z : 4 + (8 + 8 * i) ≡ 8 + (4 + 8 * i) = omega arith in
    let w : suc i + 1 ≡ suc (i + 1) = omega arith in
    rw (y, z, w, ← drop-drop (8 * i) 8 s, ← drop-drop (4 + 8 * i) 8 s) (bytes-at k (drop 8 s) i (omega arith))

pub entry-at : (s : List ℕ) (i : ℕ) → i < length (entries_of s) → drop i (entries_of s) ≡ entry_of (entry_in s i) ∷ drop (i + 1) (entries_of s)
unfolding entries_of
entry-at s i h =
    let y : 9 + 8 * i ≡ 5 + (4 + 8 * i) = omega arith in
    rw (y, ← drop-drop (8 * i) 5 s, ← drop-drop (4 + 8 * i) 5 s) (bytes-at ((length s - 5) / 8) (drop 5 s) i (rw length-entries-of at h))

pub length-entry-put : (d : List ℕ) (i : ℕ) (x : F.Entry) → length (entry_put i x d) ≡ length d
unfolding entry_put
length-entry-put d i x = simp length-sets

pub bytes-put : (l : List F.Entry) (i : ℕ) (d : List ℕ) → put_all entry_put i l d ≡ sets d (5 + 8 * i) (big_all (flat l))
unfolding put_all entry_put big_all flat
bytes-put [] i d = refl
bytes-put (e ∷ l) i d =
    let a = big e.start in
    let b = big e.end in
    let r = big_all (flat l) in
    let p = 5 + 8 * i in
    let c = sets d p a in
    let x : p + 4 ≡ p + length a = omega (arith, length-big e.start) in
    let y : 5 + 8 * (i + 1) ≡ p + 4 + length b = omega (arith, length-big e.end) in
    bytes-put l (i + 1) (entry_put i e d)
    ∙ ap (λ (k : ℕ). sets (sets c (p + 4) b) k r) y
    ∙ sets-append b r c (p + 4)
    ∙ ap (λ (k : ℕ). sets c k (b ++ r)) x
    ∙ sets-append a (b ++ r) d p

-- ---- at the front, where there is room

front : {A : Type 0} (d bs : List A) → length bs ≤ length d → sets d 0 bs ≡ bs ++ drop (length bs) d
front d bs h = let e : 0 + length bs ≡ length bs = omega arith in sets-eq bs d 0 (omega arith) ∙ rw e

pub records-front : (l : List F.Entry) (d : List Entry) → length l ≤ length d → map entry_of (put_all record_put 0 l d) ≡ l ++ drop (length l) (map entry_of d)
records-front l d h = records-put l 0 d ∙ front (map entry_of d) l (omega (arith, length-map d entry_of))

pub pairs-front : (l : List F.Entry) (d : List ℕ) → length l ≤ length d / 2 → put_all pair_put 0 l d ≡ over (flat l) d
pairs-front l d h = pairs-put l 0 d ∙ front d (flat l) (omega (arith, length-flat l))

-- ---- many entries put in order, one at a time: of n from the front of xs the first i are there

module _ {A : Type 0} (put : ℕ → F.Entry → A → A) (xs : List F.Entry) (n : ℕ) where
  pub put-first : (d : A) → put_all put 0 (take (n - 0) (drop 0 xs)) d ≡ put_all put 0 (take n xs) d
  put-first d = let e : n - 0 ≡ n = omega arith in rw e

  pub put-next : (i : ℕ) (x : F.Entry) → i < n → drop i xs ≡ x ∷ drop (i + 1) xs → (d d' : A) → d' ≡ put i x d → (r : A)
      → put_all put i (take (n - i) (drop i xs)) d ≡ r → put_all put (i + 1) (take (n - (i + 1)) (drop (i + 1) xs)) d' ≡ r
  unfolding put_all
  put-next i x h e d d' p r q = let z : n - i ≡ suc (n - (i + 1)) = omega arith in rw p (rw (z, e) at q)

  pub put-last : (i : ℕ) → n ≤ i → (d r : A) → put_all put i (take (n - i) (drop i xs)) d ≡ r → d ≡ r
  unfolding put_all
  put-last i h d r q = let z : n - i ≡ 0 = omega arith in rw z at q
