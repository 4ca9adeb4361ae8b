-- The kind of a token is told by its id. Assumes nothing.
use Prim.Native.Nat.{ℕ}
use mathlib.Core.Path.{◌≡◌, refl, ap, ◌∙◌}
use mathlib.Core.Bool.{Bool, true, false, not, ◌||◌}
use mathlib.Core.List.{List, [], ◌∷◌}
use lib.ListN.{drop}
use lib.Dec.{eqb}
use borrow.Author.Tests.{eqb-true, eqb-false}
use Rattle.form.specs.Values.{Value, Open, Close, Equal, kind}
use Rattle.form.specs.Table.{Payload, number, text, colour, table, entries, find, or_plain, after}
use Rattle.form.specs.Ids.{sample}
use Rattle.form.specs.Readers.{Answer, found, refused, further, at, ◌giving◌}
use Rattle.form.specs.Reading.{num, string, payload}
use Rattle.form.specs.Keys.{is_open, is_close, is_equal}
use Rattle.laws.proofs.Found.{All, all-mapped, num-found, string-found, rgb-found}
use Rattle.laws.proofs.Lookups.{InEach, by-table, plain-after}
use Rattle.laws.proofs.Elsewhere.{each_id, listed, elsewhere}
use Rattle.laws.proofs.Sound.{◌&◌}

-- all values that it may give have one kind
abbrev pub OneKind : Payload → Type 0
OneKind (number w f) = (n : ℕ) → kind (f n) ≡ kind (f 0)
OneKind (text f) = (t : List ℕ) → kind (f t) ≡ kind (f [])
OneKind colour = Unit {0}

entries-kind : InEach OneKind entries
unfolding entries table kind
entries-kind =
    (λ n. refl)
    & (λ n. refl)
    & (λ n. refl)
    & (λ n. refl)
    & (λ n. refl)
    & (λ n. refl)
    & (λ n. refl)
    & (λ n. refl)
    & (λ n. refl)
    & (λ n. refl)
    & (λ t. refl)
    & (λ t. refl)
    & (λ n. refl)
    & tt
    & (λ n. refl)
    & (λ n. refl)
    & (λ n. refl)
    & (λ n. refl)
    & (λ i lo hi n. refl)
    & (λ i lo hi n. refl)
    & tt

pub after-kind : (i : ℕ) → OneKind (after i)
after-kind i = by-table OneKind entries-kind i (λ e n. refl)

payload-kind : (q : Payload) → OneKind q → (s : List ℕ) → All (λ v _. kind v ≡ kind (sample q)) (payload q s)
unfolding payload sample ◌giving◌ kind
payload-kind (number w f) h s = all-mapped _ _ f (num w s) (num-found w s) (λ x n k. h x)
payload-kind (text f) h s = all-mapped _ _ f (string s) (string-found s) (λ t n k. h t)
payload-kind colour h s = rgb-found _ s (λ r g b l k. refl) (λ r g b a l k. refl)

-- the value that follows the id i
pub kind-after : (i : ℕ) (s : List ℕ) (p : ℕ) {v : Value} {n : ℕ} → at (payload (after i)) s p ≡ found v n → kind v ≡ kind (sample (after i))
unfolding at further
kind-after i s p {v} {n} e = go (payload (after i) (drop p s)) (payload-kind (after i) (after-kind i) (drop p s)) e
  where
    go : (x : Answer Value) → All (λ u _. kind u ≡ kind (sample (after i))) x → further p x ≡ found v n → kind v ≡ kind (sample (after i))
    go (found u m) h e = let z : u ≡ v = cc in rw (← z) h
    go (refused why) h e = cc

-- a value whose kind no other id has
module _ (u : Value) (j : ℕ) (own : eqb (kind (sample (after j))) (kind u) ≡ true) (named : eqb 14 (kind u) ≡ false)
    (alone : each_id (λ k. listed k ((j ∷ []) ∷ []) || not (eqb (kind (sample (after k))) (kind u))) entries ≡ true) where
  id-only : (i : ℕ) → eqb (kind (sample (after i))) (kind u) ≡ eqb i j
  unfolding kind sample
  id-only i = go (eqb i j) refl
    where
      no : (b : Bool) → not b ≡ true → b ≡ false
      no true e = cc
      no false e = refl

      go : (b : Bool) → eqb i j ≡ b → eqb (kind (sample (after i))) (kind u) ≡ b
      go true e = rw (eqb-true i j e) own
      go false e =
          no _ (elsewhere (λ k. not (eqb (kind (sample (after k))) (kind u))) ((j ∷ []) ∷ []) (λ k r. rw (plain-after k r, named)) alone i (tt, eqb-false i j e))

  of-id : (i : ℕ) (s : List ℕ) (p : ℕ) {v : Value} {n : ℕ} → at (payload (after i)) s p ≡ found v n → eqb (kind v) (kind u) ≡ eqb i j
  of-id i s p e = ap (λ (k : ℕ). eqb k (kind u)) (kind-after i s p e) ∙ id-only i

-- Open, Close and Equal have an id each of their own
pub open_after_lem : (i : ℕ) (s : List ℕ) (p : ℕ) {v : Value} {n : ℕ} → at (payload (after i)) s p ≡ found v n → is_open v ≡ eqb i 0x0003
unfolding is_open kind sample after or_plain find entries table
open_after_lem = of-id Open 0x0003 refl refl refl

pub close-after : (i : ℕ) (s : List ℕ) (p : ℕ) {v : Value} {n : ℕ} → at (payload (after i)) s p ≡ found v n → is_close v ≡ eqb i 0x0004
unfolding is_close kind sample after or_plain find entries table
close-after = of-id Close 0x0004 refl refl refl

pub equal-after : (i : ℕ) (s : List ℕ) (p : ℕ) {v : Value} {n : ℕ} → at (payload (after i)) s p ≡ found v n → is_equal v ≡ eqb i 0x0001
unfolding is_equal kind sample after or_plain find entries table
equal-after = of-id Equal 0x0001 refl refl refl
