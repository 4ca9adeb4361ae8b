-- The entries that are to be written: what is said of them, and their file. Assumes nothing.
use Prim.Native.Nat.{ℕ, ◌+◌, ◌*◌, ◌≤◌, ◌<◌}
use native.Mathlib.Omega.{arith}
use mathlib.Core.Path.{◌≡◌, refl, sym, ap, ◌∙◌}
use mathlib.Core.Bool.{Bool, true, false}
use mathlib.Core.Option.{Option, none, some}
use mathlib.Core.List.{List, ◌∷◌}
use lib.ListN.{length, take}
use lib.Dec.{leb}
use lib.Seq.{sets, take_all}
use borrow.Author.Tests.{leb-true, leb-false}
use Rattle.std.specs.Prelude.{Result, Ok, Err, Option as MayBe, Some, None}
use Rattle.form.specs.Numbers.{pick}
use Rattle.form.specs.Refusals as R
use Rattle.form.specs.Refusals.{Refusal}
use Rattle.form.specs.Writing.{over, Output, written, unwritten, wrote, declined, outcome, leaves, Follows, fitted}
use Rattle.form.specs.Contents as F
use Rattle.form.specs.Contents.{in_order, flat, paired, or_nowhere, unsearched, holder, search, search_numbers, big, VERSION, big_all, file, MANY, write_file, write_numbers}
use Rattle.laws.proofs.Never.{never}
use Rattle.laws.proofs.Runs.{sets-append, sets-front}
use Rattle.laws.proofs.BigEndian.{length-big}
use Rattle.laws.proofs.FileBack.{length-file}
use Rattle.contents.specs.declared.file.WriteError.{WriteError}
use Rattle.contents.specs.declared.file.WriteError.TheVariants.{TooLong, NoRoom}
use Rattle.contents.specs.Answers.{searched_answer, written_outcome}
use Rattle.contents.specs.Files.{judged}
use Rattle.contents.specs.Slots.{pairs, entry_put, put_all}
use Rattle.contents.proofs.Kept.{bytes-put}

-- what a search says of the order
module _ (l : List F.Entry) (p : ℕ) where
  pub out-of-order : unsearched R.BadIndex ≡ search l p → in_order l ≡ false
  unfolding search
  out-of-order h = go (in_order l) (holder p l) h
    where
      go : (b : Bool) (o : Option ℕ) → unsearched R.BadIndex ≡ pick b (or_nowhere o) (unsearched R.BadIndex) → b ≡ false
      go true none h = never (cc)
      go true (some i) h = never (cc)
      go false o h = refl

  pub in-order : (found : MayBe ℕ) → searched_answer (Ok found) ≡ search l p → in_order l ≡ true
  unfolding search
  in-order found h = go (in_order l) found h
    where
      go : (b : Bool) (found : MayBe ℕ) → searched_answer (Ok found) ≡ pick b (or_nowhere (holder p l)) (unsearched R.BadIndex) → b ≡ true
      go true found h = refl
      go false None h = never (cc)
      go false (Some i) h = never (cc)

-- the file of entries, by its head and the entries after it
laid : (l : List F.Entry) (d : List ℕ) → length (file l) ≤ length d → put_all entry_put 0 l (sets d 0 (VERSION ∷ big (8 * length l))) ≡ over (file l) d
unfolding file
laid l d h =
    let a = VERSION ∷ big (8 * length l) in
    let e : 5 ≡ 0 + length a = omega (arith, length-big (8 * length l)) in
    bytes-put l 0 (sets d 0 a)
    ∙ ap (λ (k : ℕ). sets (sets d 0 a) k (big_all (flat l))) e
    ∙ sets-append a (big_all (flat l)) d 0
    ∙ sets-front (file l) d h

-- by its head and the entries that are put, in order
pub laid-out : (l : List F.Entry) (d : List ℕ) → length (file l) ≤ length d → {n : ℕ} → n ≡ length l → {d₁ d₂ : List ℕ}
    → d₁ ≡ sets d 0 (VERSION ∷ big (8 * n)) → d₂ ≡ put_all entry_put 0 (take n l) d₁ → d₂ ≡ over (file l) d
laid-out l d h {n} counted u v = let all : take n l ≡ l = take_all n l (omega arith) in v ∙ rw (u, all, counted) (laid l d h)

module _ (l : List F.Entry) (room : ℕ) where
  pub disorder : in_order l ≡ false → declined R.BadIndex ≡ outcome (write_file room l)
  unfolding write_file outcome
  disorder o = rw o

  pub measured : in_order l ≡ true → {n : ℕ} → n ≡ length l → {r : Result ℕ WriteError} → r ≡ judged n room → written_outcome r ≡ outcome (write_file room l)
  unfolding write_file fitted outcome
  measured o {n} counted {r} e = rw (e, o, counted, length-file l) (go (leb MANY (length l)) (leb (5 + 8 * length l) room))
    where
      go : (x y : Bool) → written_outcome (pick x (Err (TooLong (length l))) (pick y (Ok (5 + 8 * length l)) (Err (NoRoom (5 + 8 * length l)))))
          ≡ outcome (pick x (unwritten (R.TooLong (length l))) (pick y (written (file l)) (unwritten (R.NoRoom (5 + 8 * length l)))))
      go true y = refl
      go false true = ap wrote (sym (length-file l))
      go false false = refl

  -- what is written, by the three tests
  abbrev by_tests : Bool → Bool → Bool → Output
  by_tests b x y =
      pick b (pick x (unwritten (R.TooLong (length l))) (pick y (written (file l)) (unwritten (R.NoRoom (length (file l)))))) (unwritten R.BadIndex)

  -- it is written: there is room for it
  pub record Fits : Type 0 where
    pub few : length l < MANY
    pub within : length (file l) ≤ room
    pub written : write_file room l ≡ written (file l)

  pub fits : {need : ℕ} → wrote need ≡ outcome (write_file room l) → Fits
  unfolding write_file fitted outcome
  fits {need} h = go (in_order l) (leb MANY (length l)) refl (leb (length (file l)) room) refl h refl
    where
      go : (b x : Bool) → leb MANY (length l) ≡ x → (y : Bool) → leb (length (file l)) room ≡ y
          → wrote need ≡ outcome (by_tests b x y) → write_file room l ≡ by_tests b x y → Fits
      go true true m y k h w = never (cc h)
      go true false m true k h w = record { few = leb-false MANY (length l) m; within = leb-true (length (file l)) room k; written = w }
      go true false m false k h w = never (cc h)
      go false x m y k h w = never (cc h)

-- a refusal leaves the output as it is, and what is written comes to its front
module _ {o : Output} {d : List ℕ} where
  pub refused-so : {why : Refusal} → declined why ≡ outcome o → Follows o (declined why) d d
  unfolding outcome leaves
  refused-so {why} h = go o refl
    where
      go : (x : Output) → o ≡ x → Follows o (declined why) d d
      go (written bs) z = never (cc (h ∙ ap outcome z))
      go (unwritten r) z = record { answer = h; output = rw z }

  pub written-so : {bs : List ℕ} → o ≡ written bs → {n : ℕ} → wrote n ≡ outcome o → {d' : List ℕ} → d' ≡ over bs d → Follows o (wrote n) d d'
  unfolding leaves
  written-so z h e = record { answer = h; output = e ∙ rw z }

-- the same, of an output that is as it was when what is written was judged
pub refused-left : (l : List F.Entry) {d d' : List ℕ} {why : Refusal} → d' ≡ d → declined why ≡ outcome (write_file (length d') l) → Follows (write_file (length d) l) (declined why) d d'
refused-left l e h = rw e (refused-so (rw e at h))

-- numbers, two for each entry
module _ (ns : List ℕ) where
  pub search-odd : (p : ℕ) → paired ns ≡ none → unsearched R.BadIndex ≡ search_numbers ns p
  unfolding search_numbers
  search-odd p h = rw h

  pub search-even : (p : ℕ) → paired ns ≡ some (pairs ns) → search (pairs ns) p ≡ search_numbers ns p
  unfolding search_numbers
  search-even p h = rw h

  pub write-odd : (room : ℕ) → paired ns ≡ none → declined R.BadIndex ≡ outcome (write_numbers room ns)
  unfolding write_numbers outcome
  write-odd room h = rw h

  pub write-even : (room : ℕ) → paired ns ≡ some (pairs ns) → write_numbers room ns ≡ write_file room (pairs ns)
  unfolding write_numbers
  write-even room h = rw h
