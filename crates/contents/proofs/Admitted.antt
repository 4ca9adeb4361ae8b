-- The bytes that are to be read: what is said of them, and their entries. Assumes nothing.
use Prim.Native.Nat.{ℕ, ◌-◌, ◌/◌, ◌%◌, ◌≤◌, ◌<◌}
use native.Mathlib.Omega.{arith}
use mathlib.Core.Path.{◌≡◌, refl, ap, ◌∙◌}
use mathlib.Core.Bool.{Bool, true, false, ◌&&◌}
use mathlib.Core.List.{List, map}
use lib.ListN.{length, take, drop, get_or}
use lib.Dec.{leb, eqb}
use lib.Seq.{take_all}
use borrow.Author.Tests.{leb-true, le-leb, lt-leb, eq-eqb}
use Rattle.form.specs.Numbers.{pick}
use Rattle.form.specs.Refusals as R
use Rattle.form.specs.Refusals.{Refusal}
use Rattle.form.specs.Writing.{Outcome, wrote, declined}
use Rattle.form.specs.Contents as F
use Rattle.form.specs.Contents.{in_order, Filling, filled, unfilled, filling_outcome, numbers_left, entries_left, room_for, big_number, VERSION, entries_of, is_file, read_file}
use Rattle.laws.proofs.Never.{never}
use Rattle.contents.specs.declared.Entry.{Entry}
use Rattle.contents.specs.Answers.{entry_of, Fills, FillsEntries}
use Rattle.contents.specs.Files.{is_headed}
use Rattle.contents.specs.Slots.{pairs, pair_put, record_put, put_all, left_in, Gets}
use Rattle.contents.proofs.Kept.{length-pairs, pairs-front, records-front, length-records}

-- ---- a file

module _ (s : List ℕ) where
  -- of five bytes and more, and of the version
  pub headed-by : 5 ≤ length s → get_or s 0 0 ≡ VERSION
      → is_headed s ≡ (eqb (big_number (take 4 (drop 1 s))) (length s - 5) && eqb ((length s - 5) % 8) 0)
  unfolding is_headed
  headed-by h v = rw (le-leb 5 (length s) h, eq-eqb (get_or s 0 0) VERSION v)

  module _ (room : ℕ) where
    pub not-headed : is_headed s ≡ false → declined R.BadIndex ≡ filling_outcome (read_file room s)
    unfolding is_headed is_file read_file filling_outcome
    not-headed h = rw h

    module _ (h : is_headed s ≡ true) where
      pub not-ordered : in_order (entries_of s) ≡ false → declined R.BadIndex ≡ filling_outcome (read_file room s)
      unfolding is_headed is_file read_file filling_outcome
      not-ordered o = rw (h, o)

      module _ (o : in_order (entries_of s) ≡ true) {n : ℕ} (counted : n ≡ length (entries_of s)) where
        pub too_many : room < n → declined (R.ListFull n) ≡ filling_outcome (read_file room s)
        unfolding is_headed is_file read_file room_for filling_outcome
        too_many m = rw (h, o, lt-leb (length (entries_of s)) room (omega arith), counted)

        pub all_listed : n ≤ room → wrote n ≡ filling_outcome (read_file room s)
        unfolding is_headed is_file read_file room_for filling_outcome
        all_listed m = rw (h, o, le-leb (length (entries_of s)) room (omega arith), counted)

  -- what is read is entries for which there is room
  pub read-within : (room : ℕ) (l : List F.Entry) → read_file room s ≡ filled l → (l ≡ entries_of s) × (length l ≤ room)
  unfolding read_file room_for
  read-within room l h = go (is_file s) (leb (length (entries_of s)) room) refl h
    where
      go : (x y : Bool) → leb (length (entries_of s)) room ≡ y
          → pick x (pick y (filled (entries_of s)) (unfilled (R.ListFull (length (entries_of s))))) (unfilled R.BadIndex) ≡ filled l
          → (l ≡ entries_of s) × (length l ≤ room)
      go true true k h = let z : l ≡ entries_of s = cc in (z, omega (arith, leb-true (length (entries_of s)) room k, ap length z))
      go true false k h = never (cc)
      go false y k h = never (cc)

-- ---- what is said, and what a list holds then

module _ {x : Filling} where
  -- so many entries are counted
  pub filled-with : {n : ℕ} → wrote n ≡ filling_outcome x → (l : List F.Entry) × (x ≡ filled l) × (n ≡ length l)
  unfolding filling_outcome
  filled-with {n} h = go x refl h
    where
      go : (y : Filling) → x ≡ y → wrote n ≡ filling_outcome y → (l : List F.Entry) × (x ≡ filled l) × (n ≡ length l)
      go (filled l) z h = (l, z, cc)
      go (unfilled r) z h = never (cc)

  module _ {A : Type 0} (put : ℕ → F.Entry → A → A) {d : A} where
    pub stays : {why : Refusal} → declined why ≡ filling_outcome x → Gets put x (declined why) d d
    unfolding filling_outcome left_in
    stays {why} h = go x refl
      where
        go : (y : Filling) → x ≡ y → Gets put x (declined why) d d
        go (filled l) z = never (cc (h ∙ ap filling_outcome z))
        go (unfilled r) z = record { answer = h; list = rw z }

    module _ {l : List F.Entry} (z : x ≡ filled l) {n : ℕ} (k : n ≡ length l) {d' : A} where
      pub comes : d' ≡ put_all put 0 l d → Gets put x (wrote n) d d'
      unfolding filling_outcome left_in
      comes e = rw z (record { answer = ap wrote k; list = e })

      pub copied : d' ≡ put_all put 0 (take n l) d → Gets put x (wrote n) d d'
      copied e = let all : take n l ≡ l = take_all n l (omega arith) in comes (e ∙ rw all)

-- into a list with room
module _ (f : ℕ → Filling) (within : (room : ℕ) (l : List F.Entry) → f room ≡ filled l → length l ≤ room) {a : Outcome} where
  pub as-numbers : (d : List ℕ) {d' : List ℕ} → Gets pair_put (f (length (pairs d))) a d d' → Fills (f (length d / 2)) a d d'
  unfolding left_in numbers_left
  as-numbers d {d'} g = go (rw length-pairs at g)
    where
      go : Gets pair_put (f (length d / 2)) a d d' → Fills (f (length d / 2)) a d d'
      go g = record { answer = g.answer; list = g.list ∙ to (f (length d / 2)) refl }
        where
          to : (y : Filling) → f (length d / 2) ≡ y → left_in pair_put y d ≡ numbers_left y d
          to (filled l) z = pairs-front l d (within (length d / 2) l z)
          to (unfilled r) z = refl

  pub as-records : (d : List Entry) {d' : List Entry} → Gets record_put (f (length (map entry_of d))) a d d' → FillsEntries (f (length d)) a d d'
  unfolding left_in entries_left
  as-records d {d'} g = go (rw length-records at g)
    where
      go : Gets record_put (f (length d)) a d d' → FillsEntries (f (length d)) a d d'
      go g = record { answer = g.answer; list = ap (map entry_of) g.list ∙ to (f (length d)) refl }
        where
          to : (y : Filling) → f (length d) ≡ y → map entry_of (left_in record_put y d) ≡ entries_left y (map entry_of d)
          to (filled l) z = records-front l d (within (length d) l z)
          to (unfilled r) z = refl
