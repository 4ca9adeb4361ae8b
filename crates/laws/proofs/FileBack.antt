-- The file of a table of contents: what is written reads back, and what reads is what is written. Assumes nothing.
use Prim.Native.Nat.{ℕ, zero, suc, ◌+◌, ◌-◌, ◌*◌, ◌/◌, ◌%◌, ◌^◌, ◌≤◌, ◌<◌}
use native.Mathlib.Omega.{arith}
use mathlib.Core.Path.{◌≡◌, refl, sym, ap, ◌∙◌}
use mathlib.Core.Bool.{Bool, true, false}
use mathlib.Core.List.{List, [], ◌∷◌, ◌++◌}
use lib.ListN.{length, take, drop, get_or, length-append, length-take, length-drop, take-append-drop}
use lib.Seq.{take_at, drop_at, drop-cons, drop-drop, length-take-le}
use lib.Dec.{leb}
use borrow.Author.Tests.{leb-true, leb-false, eqb-true, le-leb, lt-leb, eq-eqb}
use Rattle.form.specs.Numbers.{pick, Bytes}
use Rattle.form.specs.Refusals.{ListFull, BadIndex, NoRoom, TooLong}
use Rattle.form.specs.Writing.{written, unwritten, fitted}
use Rattle.form.specs.Contents.{Entry, in_order, flat, filled, unfilled, room_for, big, big_number, VERSION, big_all, file, MANY, write_file, entries_in, entries_of, is_file, read_file}
use Rattle.laws.proofs.Never.{never}
use Rattle.laws.proofs.Elsewhere.{both}
use Rattle.laws.proofs.LittleEndian.{take-bytes, drop-bytes}
use Rattle.laws.proofs.BigEndian.{length-big, number-big, big-number, number_small, length-big-all}
use Rattle.laws.proofs.Pairs.{Below, length-flat}

-- ---- what is written

module _ (l : List Entry) where
  pub length-file : length (file l) ≡ 5 + 8 * length l
  unfolding file
  length-file = omega (arith, length-append (big (8 * length l)) (big_all (flat l)), length-big (8 * length l), length-big-all (flat l), length-flat l)

entries-back : (l : List Entry) → Below (2 ^ 32) (flat l) → entries_in (length l) (big_all (flat l)) ≡ l
unfolding flat big_all entries_in
entries-back [] b = refl
entries-back (x ∷ l) b =
    let a = big x.start in
    let c = big x.end in
    let r = big_all (flat l) in
    let d : drop 4 (a ++ (c ++ r)) ≡ c ++ r = drop_at a (c ++ r) 4 (length-big x.start) in
    let e : drop 8 (a ++ (c ++ r)) ≡ r = sym (drop-drop 4 4 (a ++ (c ++ r))) ∙ ap (drop 4) d ∙ drop_at c r 4 (length-big x.end) in
    rw (d, e, take_at a (c ++ r) 4 (length-big x.start), take_at c r 4 (length-big x.end))
    (rw (number-big x.start b.0, number-big x.end b.1.0, entries-back l b.1.1))

-- ---- what a file is

-- what its test asks
pub record IsFile (s : List ℕ) : Type 0 where
  pub long : 5 ≤ length s
  pub version : get_or s 0 0 ≡ VERSION
  pub count : big_number (take 4 (drop 1 s)) ≡ length s - 5
  pub eights : (length s - 5) % 8 ≡ 0
  pub ordered : in_order (entries_of s) ≡ true

module _ (s : List ℕ) where
  pub file-test : IsFile s → is_file s ≡ true
  unfolding is_file
  file-test f =
      rw (le-leb 5 (length s) f.long, eq-eqb (get_or s 0 0) VERSION f.version, eq-eqb (big_number (take 4 (drop 1 s))) (length s - 5) f.count)
      (rw (eq-eqb ((length s - 5) % 8) 0 f.eights) f.ordered)

  pub file-is : is_file s ≡ true → IsFile s
  unfolding is_file
  file-is h =
      let x = both _ _ h in
      let y = both _ _ x.0 in
      let z = both _ _ y.0 in
      let w = both _ _ z.0 in
      record {
        long = leb-true 5 (length s) w.0;
        version = eqb-true (get_or s 0 0) VERSION w.1;
        count = eqb-true (big_number (take 4 (drop 1 s))) (length s - 5) z.1;
        eights = eqb-true ((length s - 5) % 8) 0 y.1;
        ordered = x.1;
      }

-- ---- writing, then reading

module _ (l : List Entry) (b : Below (2 ^ 32) (flat l)) where
  pub entries-of-file : entries_of (file l) ≡ l
  unfolding entries_of file
  entries-of-file =
      let n : (length (file l) - 5) / 8 ≡ length l = omega (arith, length-file l) in
      rw (n, drop_at (big (8 * length l)) (big_all (flat l)) 4 (length-big (8 * length l))) (entries-back l b)

  module _ (o : in_order l ≡ true) (m : length l < MANY) where
    pub written-is-file : is_file (file l) ≡ true
    unfolding file
    written-is-file =
        file-test (file l)
        (record {
          long = omega (arith, length-file l);
          version = refl;
          count =
              rw (take_at (big (8 * length l)) (big_all (flat l)) 4 (length-big (8 * length l)), number-big (8 * length l) (omega arith))
              (omega (arith, length-file l));
          eights = omega (arith, length-file l);
          ordered = rw entries-of-file o;
        })

    pub reads-back : (room : ℕ) → read_file room (file l) ≡ room_for room l
    unfolding read_file
    reads-back room = rw (written-is-file, entries-of-file)

  -- whatever is written reads back
  pub written_back_lem : (room : ℕ) {bs : List ℕ} → write_file room l ≡ written bs → (r : ℕ) → read_file r bs ≡ room_for r l
  unfolding write_file fitted
  written_back_lem room {bs} e r = go (in_order l) refl (leb MANY (length l)) refl (leb (length (file l)) room) e
    where
      go : (x : Bool) → in_order l ≡ x → (y : Bool) → leb MANY (length l) ≡ y → (z : Bool)
          → pick x (pick y (unwritten (TooLong (length l))) (pick z (written (file l)) (unwritten (NoRoom (length (file l)))))) (unwritten BadIndex) ≡ written bs
          → read_file r bs ≡ room_for r l
      go true o false m true e = let z : bs ≡ file l = cc in rw z (reads-back o (leb-false MANY (length l) m) r)
      go true o false m false e = never (cc)
      go true o true m z e = never (cc)
      go false o y m z e = never (cc)

-- ---- reading, then writing

pub length-entries-in : (n : ℕ) (s : List ℕ) → length (entries_in n s) ≡ n
unfolding entries_in
length-entries-in zero s = refl
length-entries-in (suc n) s = ap suc (length-entries-in n (drop 8 s))

-- a number of a list of bytes
taken-small : (s : List ℕ) → Bytes s → big_number (take 4 s) < 2 ^ 32
taken-small s b = number_small (take 4 s) (take-bytes 4 s b) (rw length-take (omega arith))

taken_back : (s : List ℕ) → Bytes s → 4 ≤ length s → big (big_number (take 4 s)) ≡ take 4 s
taken_back s b h = big-number (take 4 s) (take-bytes 4 s b) (length-take-le 4 s h)

in-back : (n : ℕ) (s : List ℕ) → Bytes s → length s ≡ 8 * n → big_all (flat (entries_in n s)) ≡ s
unfolding flat big_all entries_in
in-back zero [] b h = refl
in-back zero (x ∷ s) b h = absurd (omega arith)
in-back (suc n) s b h =
    let rest = in-back n (drop 8 s) (drop-bytes 8 s b) (rw length-drop (omega arith)) in
    rw (taken_back s b (omega arith), taken_back (drop 4 s) (drop-bytes 4 s b) (rw length-drop (omega arith)), rest)
    (rw (← drop-drop 4 4 s, take-append-drop 4 (drop 4 s), take-append-drop 4 s))

module _ (s : List ℕ) (b : Bytes s) where
  module _ (h : is_file s ≡ true) where
    pub length-entries-of : 5 + 8 * length (entries_of s) ≡ length s
    unfolding entries_of
    length-entries-of = let f = file-is s h in rw length-entries-in (omega (arith, f.long, f.eights))

    pub entries-of-few : length (entries_of s) < MANY
    entries-of-few = omega (arith, length-entries-of, (file-is s h).count, taken-small (drop 1 s) (drop-bytes 1 s b))

    pub only-written : file (entries_of s) ≡ s
    unfolding file entries_of
    only-written =
        let f = file-is s h in
        let t = drop 1 s in
        let c : Bytes t = drop-bytes 1 s b in
        let n : 8 * length (entries_of s) ≡ big_number (take 4 t) = omega (arith, length-entries-of, f.count) in
        let r : big_all (flat (entries_of s)) ≡ drop 4 t =
        in-back ((length s - 5) / 8) (drop 5 s) (drop-bytes 5 s b) (rw length-drop (omega (arith, f.eights))) ∙ sym (drop-drop 4 1 s)
        in
        ap (λ (v : ℕ). v ∷ (big (8 * length (entries_of s)) ++ big_all (flat (entries_of s)))) (sym f.version)
        ∙ rw (n, r, taken_back t c (rw length-drop (omega (arith, f.long))), take-append-drop 4 t) (sym (drop-cons s 0 0 (omega (arith, f.long))))

  -- whatever is read is written so
  pub read_back : (room : ℕ) {l : List Entry} → read_file room s ≡ filled l → (r : ℕ) → write_file r l ≡ fitted r s
  unfolding read_file room_for write_file
  read_back room {l} e r = go (is_file s) refl (leb (length (entries_of s)) room) e
    where
      go : (x : Bool) → is_file s ≡ x → (y : Bool)
          → pick x (pick y (filled (entries_of s)) (unfilled (ListFull (length (entries_of s))))) (unfilled BadIndex) ≡ filled l
          → write_file r l ≡ fitted r s
      go true h true e =
          let z : l ≡ entries_of s = cc in
          rw (z, (file-is s h).ordered, lt-leb MANY (length (entries_of s)) (entries-of-few h), only-written h)
      go true h false e = never (cc)
      go false h y e = never (cc)
