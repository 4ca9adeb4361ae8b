-- The entry that holds a position: a search of a save's entries answers what a walk of the save does, and in a list in order no other entry holds it.
-- Assumes nothing.
use Prim.Native.Nat.{ℕ, zero, suc, ◌+◌, ◌≤◌, ◌<◌}
use native.Mathlib.Nat.{le_refl}
use native.Mathlib.Omega.{arith}
use mathlib.Core.Path.{◌≡◌, refl, sym, ◌∙◌}
use mathlib.Core.Bool.{Bool, true, false, ◌&&◌}
use mathlib.Core.Option.{Option, none, some}
use mathlib.Core.List.{List, [], ◌∷◌}
use lib.ListN.{length, get_or}
use lib.Dec.{leb, ltb}
use borrow.Author.Tests.{ltb-true, ltb-false, leb-true, leb-false, le-ltb, le-leb, lt-leb}
use Rattle.form.specs.Numbers.{pick}
use Rattle.form.specs.Values.{Value}
use Rattle.form.specs.Spelling.{bit}
use Rattle.form.specs.Saves.{walk}
use Rattle.form.specs.Keys.{keys_of}
use Rattle.form.specs.Contents.{Entry, first_or, entries_to, contents, in_order, holds_at, one_on, holder, keys_up_to, last_of, holder_in, filled, fill, or_nowhere, search}
use Rattle.laws.proofs.Never.{never}
use Rattle.laws.proofs.Elsewhere.{both}
use Rattle.laws.proofs.Ordered.{order-parts, ends-before}
use Rattle.laws.proofs.InOrder.{Rising, first-at, walk-rising, contents-order, filled_is}

-- ---- by the keys

either-none : (b : Bool) → pick b (last_of 0) none ≡ none
either-none true = refl
either-none false = refl

-- so many, with one more in front
last_one : (n : ℕ) → last_of (1 + n) ≡ some n
last_one n = let z : 1 + n ≡ suc n = omega arith in rw z

one_more : (n : ℕ) → 0 < n → one_on (last_of n) ≡ some n
one_more zero h = absurd (omega arith)
one_more (suc n) h = let z : n + 1 ≡ suc n = omega arith in rw z

module _ (p e : ℕ) where
  -- of keys after the position, none
  none-up-to : {q : ℕ} (l : List (ℕ × Value)) → p < q → Rising q e l → keys_up_to p l ≡ 0
  unfolding keys_up_to
  none-up-to [] h r = refl
  none-up-to {q = o} ((q, v) ∷ l) h r =
      let z : p < q + 2 = omega (arith, r.0) in
      rw (lt-leb q p (omega (arith, r.0))) (omega (arith, none-up-to {q = q + 2} l z r.2))

  none_yet_lem : (q : ℕ) (l : List (ℕ × Value)) → p < first_or e l → Rising q e l → keys_up_to p l ≡ 0
  none_yet_lem q [] h r = none-up-to [] h r
  none_yet_lem q ((x, v) ∷ l) h r = none-up-to ((x, v) ∷ l) h (le_refl x, r.1, r.2)

  some-up-to : (l : List (ℕ × Value)) → first_or e l ≤ p → p < e → 0 < keys_up_to p l
  unfolding keys_up_to
  some-up-to [] h m = absurd (omega arith)
  some-up-to ((q, v) ∷ l) h m = rw (le-leb q p h) (omega arith)

  pub rising-holder : (q : ℕ) (l : List (ℕ × Value)) → Rising q e l → holder p (entries_to e l) ≡ pick (ltb p e) (last_of (keys_up_to p l)) none
  unfolding holder holds_at entries_to keys_up_to
  rising-holder q [] r = sym (either-none (ltb p e))
  rising-holder q ((x, v) ∷ l) r = rw (rising-holder (x + 2) l r.2) (go (leb x p) refl (ltb p f) refl (ltb p e) refl)
    where
      f : ℕ
      f = first_or e l

      k : ℕ
      k = keys_up_to p l

      go : (a : Bool) → leb x p ≡ a → (b : Bool) → ltb p f ≡ b → (c : Bool) → ltb p e ≡ c
          → pick (a && b) (some 0) (one_on (pick c (last_of k) none)) ≡ pick c (last_of (bit a + k)) none
      go false h b i true j = let z : k ≡ 0 = none-up-to l (omega (arith, leb-false x p h)) r.2 in rw z
      go false h b i false j = refl
      go true h true i true j = let z : k ≡ 0 = none_yet_lem (x + 2) l (ltb-true p f i) r.2 in rw z
      go true h true i false j = absurd (omega (arith, ltb-true p f i, ltb-false p e j, (first-at e (x + 2) l r.1 r.2).1))
      go true h false i true j = one_more k (some-up-to l (ltb-false p f i) (ltb-true p e j)) ∙ sym (last_one k)
      go true h false i false j = refl

-- ---- of a save

module _ (s : List ℕ) (p : ℕ) where
  -- the entries, however they were found, answer what a walk of the save does
  pub holder-same : holder p (contents s) ≡ holder_in p s
  unfolding contents holder_in
  holder-same = rising-holder p (length s) 0 (keys_of (walk s)) (walk-rising s)

  pub search-same : search (contents s) p ≡ or_nowhere (holder_in p s)
  unfolding search
  search-same = rw (contents-order, holder-same)

  pub search-filled : (room : ℕ) {l : List Entry} → fill room s ≡ filled l → search l p ≡ or_nowhere (holder_in p s)
  search-filled room e = rw (filled_is s room e).0 search-same

  -- before the first key, and from the end on, there is none
  pub before-none : p < first_or (length s) (keys_of (walk s)) → holder_in p s ≡ none
  unfolding holder_in
  before-none h = rw (none_yet_lem p (length s) 0 (keys_of (walk s)) h (walk-rising s)) (either-none (ltb p (length s)))

  pub after_none : length s ≤ p → holder_in p s ≡ none
  unfolding holder_in
  after_none h = rw (le-ltb p (length s) h)

-- ---- of a list

module _ (p : ℕ) where
  pub held-within : (x : Entry) → holds_at p x ≡ true → (x.start ≤ p) × (p < x.end)
  unfolding holds_at
  held-within x h = let t = both (leb x.start p) (ltb p x.end) h in (leb-true x.start p t.0, ltb-true p x.end t.1)

  pub not_after : (x : Entry) → x.end ≤ p → holds_at p x ≡ false
  unfolding holds_at
  not_after x h = rw (le-ltb p x.end h) (go (leb x.start p))
    where
      go : (b : Bool) → b && false ≡ false
      go true = refl
      go false = refl

  module _ (d : Entry) where
    -- the holder holds the position
    pub holder-holds : (l : List Entry) {i : ℕ} → holder p l ≡ some i → (i < length l) × (holds_at p (get_or l i d) ≡ true)
    unfolding holder
    holder-holds [] e = never (cc)
    holder-holds (x ∷ l) {i} e = go (holds_at p x) refl (holder p l) (λ j. holder-holds l {i = j}) e
      where
        go : (b : Bool) → holds_at p x ≡ b → (o : Option ℕ) → ((j : ℕ) → o ≡ some j → (j < length l) × (holds_at p (get_or l j d) ≡ true))
            → pick b (some 0) (one_on o) ≡ some i → (i < suc (length l)) × (holds_at p (get_or (x ∷ l) i d) ≡ true)
        go true h o rest e = let z : i ≡ 0 = cc in rw z (omega arith, h)
        go false h none rest e = never (cc)
        go false h (some j) rest e =
            let y : i ≡ j + 1 = cc in
            let z : i ≡ suc j = omega arith in
            rw z (omega (arith, (rest j refl).0), (rest j refl).1)

    -- none where no entry does
    pub holder-none : (l : List Entry) → ((i : ℕ) → i < length l → holds_at p (get_or l i d) ≡ false) → holder p l ≡ none
    unfolding holder
    holder-none [] h = refl
    holder-none (x ∷ l) h = rw (h 0 (omega arith), holder-none l (λ i m. h (suc i) (omega arith)))

    -- in a list in order, an entry that holds it is the holder
    pub holder-is : (l : List Entry) → in_order l ≡ true → (i : ℕ) → i < length l → holds_at p (get_or l i d) ≡ true → holder p l ≡ some i
    unfolding holder
    holder-is [] o i m h = absurd (omega arith)
    holder-is (x ∷ l) o zero m h = rw h
    holder-is (x ∷ l) o (suc i) m h =
        let t = order-parts x l o in
        let z : i + 1 ≡ suc i = omega arith in
        let y : x.end ≤ p = omega (arith, ends-before d (x ∷ l) o 0 (suc i) (omega arith) m, (held-within (get_or l i d) h).0) in
        rw (not_after x y, holder-is l t.2 i (omega arith) h, z)

    -- so it is the only one
    pub holder-only : (l : List Entry) → in_order l ≡ true → (i j : ℕ) → i < length l → j < length l → holds_at p (get_or l i d) ≡ true
        → holds_at p (get_or l j d) ≡ true → i ≡ j
    holder-only l o i j m n h k = let x = holder-is l o i m h in let y = holder-is l o j n k in cc
