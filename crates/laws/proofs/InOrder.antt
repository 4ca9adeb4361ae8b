-- The entries of a save are in order, within the save, and at most half as many as its bytes. Assumes nothing.
use Prim.Native.Nat.{ℕ, zero, suc, ◌+◌, ◌-◌, ◌*◌, ◌^◌, ◌≤◌}
use native.Mathlib.Nat.{le_refl}
use native.Mathlib.Omega.{arith}
use mathlib.Core.Path.{◌≡◌, refl, ap}
use mathlib.Core.Bool.{Bool, true, false}
use mathlib.Core.Option.{Option, none, some}
use mathlib.Core.List.{List, [], ◌∷◌}
use lib.ListN.{length, drop, length-drop}
use lib.Dec.{leb}
use borrow.Author.Tests.{leb-true, lt-ltb, eq-eqb}
use Rattle.form.specs.Numbers.{pick}
use Rattle.form.specs.Values.{Value}
use Rattle.form.specs.Refusals.{Refusal, ListFull, TooLong}
use Rattle.form.specs.Readers.{Answer, found, refused}
use Rattle.form.specs.Reading.{token}
use Rattle.form.specs.Saves.{Walk, step, walk_f, walk, LIMIT, from}
use Rattle.form.specs.Keys.{Around, at_top, onward, Test, is_key, kept_if, those, keys_of}
use Rattle.form.specs.Finding.{cut_by}
use Rattle.form.specs.Contents.{Entry, first_or, entries_to, contents, goes_on_at, in_order, flat, filled, unfilled, room_for, unless_cut, fill}
use Rattle.laws.proofs.Never.{never}
use Rattle.laws.proofs.Found.{All, Within, token-in}
use Rattle.laws.proofs.Walking.{from_start}
use Rattle.laws.proofs.Pairs.{Below, below-weaken}

-- ---- where the tokens that pass a test stand

-- at p or after it, each two bytes or more after the one before it, and as many before e
abbrev pub Rising : ℕ → ℕ → List (ℕ × Value) → Type 0
Rising p e [] = Unit {0}
Rising p e ((q, v) ∷ l) = (p ≤ q) × (q + 2 ≤ e) × Rising (q + 2) e l

pub rising-weaken : {p q : ℕ} (e : ℕ) (l : List (ℕ × Value)) → p ≤ q → Rising q e l → Rising p e l
rising-weaken e [] h r = tt
rising-weaken e ((x, v) ∷ l) h r = (omega (arith, r.0), r.1, r.2)

-- a token of n bytes, kept if the test holds
kept-rising : (b : Bool) (p n e : ℕ) (v : Value) (l : List (ℕ × Value)) → 2 ≤ n → p + n ≤ e → Rising (p + n) e l → Rising p e (kept_if b (p, v) l)
kept-rising true p n e v l h m r = let z : p + 2 ≤ p + n = omega arith in (le_refl p, omega arith, rising-weaken e l z r)
kept-rising false p n e v l h m r = let z : p ≤ p + n = omega arith in rising-weaken e l z r

fuel-rising : (test : Test) (a : Around) (e k p : ℕ) (t : List ℕ) → length t ≤ e - p → Rising p e (those test a (walk_f k p t))
unfolding walk_f step those
fuel-rising test a e zero p t h = tt
fuel-rising test a e (suc k) p [] h = tt
fuel-rising test a e (suc k) p (b ∷ t) h = go (token (b ∷ t)) (token-in (b ∷ t)) (λ v n. fuel-rising test (onward v a) e k (p + n) (drop n (b ∷ t)))
  where
    after : ℕ → Walk
    after n = walk_f k (p + n) (drop n (b ∷ t))

    go : (x : Answer Value) → All (λ _ n. Within (b ∷ t) n) x
        → ((v : Value) (n : ℕ) → length (drop n (b ∷ t)) ≤ e - (p + n) → Rising (p + n) e (those test (onward v a) (after n)))
        → Rising p e (those test a (step p x after))
    go (found v n) w rest =
        kept-rising (test a v (after n)) p n e v (those test (onward v a) (after n)) w.some (omega (arith, w.some, w.there))
        (rest v n (rw length-drop (omega arith)))
    go (refused why) w rest = tt

pub those-rising : (test : Test) (a : Around) (s : List ℕ) (p : ℕ) → Rising p (length s) (those test a (from s p))
unfolding from
those-rising test a s p = fuel-rising test a (length s) (length s) p (drop p s) (rw length-drop (le_refl _))

-- ---- the entries of such keys

module _ (e : ℕ) where
  -- the first stands at p or after it, and not past the end
  pub first-at : (p : ℕ) (l : List (ℕ × Value)) → p ≤ e → Rising p e l → (p ≤ first_or e l) × (first_or e l ≤ e)
  first-at p [] h r = (h, le_refl e)
  first-at p ((q, v) ∷ l) h r = (r.0, omega (arith, r.1))

  goes_on : (l : List (ℕ × Value)) → goes_on_at (first_or e l) (entries_to e l) ≡ true
  unfolding entries_to
  goes_on [] = refl
  goes_on ((q, v) ∷ l) = eq-eqb q q refl

  pub rising-order : (p : ℕ) (l : List (ℕ × Value)) → Rising p e l → in_order (entries_to e l) ≡ true
  unfolding in_order entries_to
  rising-order p [] r = refl
  rising-order p ((q, v) ∷ l) r =
      let f = first-at (q + 2) l r.1 r.2 in
      rw (lt-ltb q (first_or e l) (omega (arith, f.0)), goes_on l) (rising-order (q + 2) l r.2)

  pub rising-below : (p : ℕ) (l : List (ℕ × Value)) → Rising p e l → Below (e + 1) (flat (entries_to e l))
  unfolding flat entries_to
  rising-below p [] r = tt
  rising-below p ((q, v) ∷ l) r =
      let f = first-at (q + 2) l r.1 r.2 in
      (omega (arith, r.1), (omega (arith, f.1), rising-below (q + 2) l r.2))

  pub length-entries : (l : List (ℕ × Value)) → length (entries_to e l) ≡ length l
  unfolding entries_to
  length-entries [] = refl
  length-entries ((q, v) ∷ l) = ap suc (length-entries l)

  pub rising-length : (p : ℕ) (l : List (ℕ × Value)) → Rising p e l → 2 * length l ≤ e - p
  rising-length p [] r = omega arith
  rising-length p ((q, v) ∷ l) r = omega (arith, r.0, r.1, rising-length (q + 2) l r.2)

-- ---- from a place on

module _ (s : List ℕ) (p : ℕ) where
  pub keys-rising : Rising p (length s) (keys_of (from s p))
  unfolding keys_of
  keys-rising = those-rising is_key at_top s p

  pub from-order : in_order (entries_to (length s) (keys_of (from s p))) ≡ true
  from-order = rising-order (length s) p (keys_of (from s p)) keys-rising

  pub from-below : Below (length s + 1) (flat (entries_to (length s) (keys_of (from s p))))
  from-below = rising-below (length s) p (keys_of (from s p)) keys-rising

  pub from-length : 2 * length (entries_to (length s) (keys_of (from s p))) ≤ length s - p
  from-length = rw length-entries (rising-length (length s) p (keys_of (from s p)) keys-rising)

-- ---- of a save

module _ (s : List ℕ) where
  pub walk-rising : Rising 0 (length s) (keys_of (walk s))
  walk-rising = rw from_start at (keys-rising s 0)

  pub contents-from : contents s ≡ entries_to (length s) (keys_of (from s 0))
  unfolding contents
  contents-from = rw from_start

  pub contents-order : in_order (contents s) ≡ true
  contents-order = rw contents-from (from-order s 0)

  pub contents-below : Below (length s + 1) (flat (contents s))
  contents-below = rw contents-from (from-below s 0)

  pub contents-length : 2 * length (contents s) ≤ length s
  contents-length = rw contents-from (omega (arith, from-length s 0))

  -- a save that is not too long: numbers of 32 bits
  pub contents-small : length s ≤ LIMIT → Below (2 ^ 32) (flat (contents s))
  contents-small h = below-weaken (flat (contents s)) (omega arith) contents-below

  -- what a list was filled with
  pub filled_is : (room : ℕ) {l : List Entry} → fill room s ≡ filled l → (l ≡ contents s) × (length l ≤ room) × (length s ≤ LIMIT)
  unfolding fill unless_cut room_for
  filled_is room {l} e = go (leb (length s) LIMIT) refl (cut_by (walk s)) (leb (length (contents s)) room) refl e
    where
      go : (a : Bool) → leb (length s) LIMIT ≡ a → (o : Option Refusal) (b : Bool) → leb (length (contents s)) room ≡ b
          → pick a (unless_cut o (pick b (filled (contents s)) (unfilled (ListFull (length (contents s)))))) (unfilled (TooLong (length s))) ≡ filled l
          → (l ≡ contents s) × (length l ≤ room) × (length s ≤ LIMIT)
      go true h none true i e = let z : l ≡ contents s = cc in (z, rw z (leb-true (length (contents s)) room i), leb-true (length s) LIMIT h)
      go true h none false i e = never (cc)
      go true h (some r) b i e = never (cc)
      go false h o b i e = never (cc)
