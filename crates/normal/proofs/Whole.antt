-- There is room for every normal form, and for the line of every refusal: all of it is written. Assumes nothing.
use Prim.Native.Nat.{ℕ, ◌≤◌}
use native.Mathlib.Omega.{arith}
use mathlib.Core.Path.{◌≡◌, refl, ap, ◌∙◌}
use mathlib.Core.Option.{Option, none, some}
use mathlib.Core.List.{List}
use lib.ListN.{length}
use Rattle.form.specs.Numbers.{Bytes, MAX}
use Rattle.form.specs.Refusals.{Refusal, Eof, InvalidRgb, LongString, WideLookup, ReservedId, NoRoom, BufferTooSmall, ReadFailed, BadPlace, TooLong, ListFull, BadIndex, refusal_value, refusal_values}
use Rattle.form.specs.Spelling.{reason}
use Rattle.form.specs.Saves.{walk, normal}
use Rattle.form.specs.Writing.{Output, written, unwritten, wrote, declined, outcome, leaves, first_refusal, unless, normalise}
use Rattle.form.specs.Listing.{error_line}
use Rattle.laws.proofs.Never.{never}
use Rattle.laws.proofs.Runs.{sets-front}
use Rattle.laws.proofs.Refusing.{OfSave, save-refusal}
use Rattle.laws.proofs.Rooms.{normalise-fits, error-length}
use Rattle.form.specs.Put.{Put}
use Rattle.normaliser.specs.Stretches.{normal_style, unbounded}
use Rattle.normal.specs.Lines.{or_line, shown}

-- the line of a refusal of so short a save
line-short : (n : ℕ) → n ≤ 8192 → (r : Refusal) → OfSave n r → length (error_line r) ≤ 17
unfolding refusal_value refusal_values
line-short n h (Eof p m) o = error-length 4 (Eof p m) (omega arith)
line-short n h (InvalidRgb p) o = error-length 4 (InvalidRgb p) (omega arith)
line-short n h (LongString p) o = absurd o
line-short n h (WideLookup p) o = error-length 4 (WideLookup p) (omega arith)
line-short n h (ReservedId p) o = absurd o
line-short n h (NoRoom m) o = absurd o
line-short n h (BufferTooSmall p) o = absurd o
line-short n h (ReadFailed p) o = absurd o
line-short n h (BadPlace p) o = absurd o
line-short n h (TooLong m) o = absurd o
line-short n h (ListFull m) o = absurd o
line-short n h BadIndex o = absurd o

module _ (s d : List ℕ) (b : Bytes s) (h : (length s ≤ 8192) × (40960 ≤ length d)) where
  whole : normalise (length d) s ≡ unbounded normal_style s
  unfolding unbounded normal
  whole = normalise-fits (length d) s b (omega arith) (omega arith)

  abbrev Shown : ℕ → List ℕ → Type 0
  Shown n d' = (n ≡ length (shown s)) × (d' ≡ leaves (written (shown s)) d)

  pub normalised : {n : ℕ} {d' : List ℕ} → wrote n ≡ outcome (normalise (length d) s) → d' ≡ leaves (normalise (length d) s) d → Shown n d'
  unfolding shown outcome
  normalised {n} {d'} e q = go (unbounded normal_style s) (e ∙ ap outcome whole) (q ∙ ap (λ (o : Output). leaves o d) whole)
    where
      go : (o : Output) → wrote n ≡ outcome o → d' ≡ leaves o d → (n ≡ length (or_line o)) × (d' ≡ leaves (written (or_line o)) d)
      go (written bs) e q = (cc, q)
      go (unwritten r) e q = never (cc)

  -- the save is refused for what it holds
  pub why : (r : Refusal) → declined r ≡ outcome (normalise (length d) s) → (unbounded normal_style s ≡ unwritten r) × OfSave (length s) r
  unfolding unbounded unless outcome normal
  why r e = go (first_refusal reason (walk s)) refl (e ∙ ap outcome whole)
    where
      go : (o : Option Refusal) → first_refusal reason (walk s) ≡ o → declined r ≡ outcome (unless o (written (normal s)))
          → (unless (first_refusal reason (walk s)) (written (normal s)) ≡ unwritten r) × OfSave (length s) r
      go none k q = never (cc)
      go (some x) k q =
          let y : some x ≡ some r = cc in
          (rw (k ∙ y), save-refusal s r b (k ∙ y))

  -- and its line is put
  pub lined : {d₁ d' : List ℕ} {n : ℕ} (r : Refusal) → declined r ≡ outcome (normalise (length d) s) → d₁ ≡ leaves (normalise (length d) s) d
      → length d ≤ MAX → Put d₁ 0 (error_line r) d' n → Shown n d'
  unfolding shown leaves
  lined {d₁} {d'} {n} r e q t p =
      let w = why r e in
      let l = line-short (length s) h.0 r w.1 in
      let is : d₁ ≡ d = q ∙ ap (λ (o : Output). leaves o d) (whole ∙ w.0) in
      rw w.0 (omega (arith, p.next), (rw is at p.bytes) t ∙ sets-front (error_line r) d (omega arith))
