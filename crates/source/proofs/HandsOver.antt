-- What is handed over is what was to come: the bytes taken, and the numbers read. Assumes nothing.
use mathlib.Core.Path.{◌≡◌, refl, sym, ap, ◌∙◌, subst}
use mathlib.Core.List.{List}
use Prim.Native.Nat.{ℕ, ◌≤◌}
use native.Mathlib.Omega.{arith}
use lib.ListN.{take, drop}
use lib.Seq.{take-append-le, take-take}
use Rattle.form.specs.Numbers.{le}
use Rattle.laws.proofs.Runs.{part_length}
use Rattle.payload.specs.declared.answers.Text.{Text}
use Rattle.payload.proofs.Texts.{within}
use Rattle.source.specs.declared.ParserSource.{ParserSource}
use Rattle.source.specs.Window.{unread, read_past, Drawn, drawn, halted, drawn_then, ◌then◌, text_at, held_in, text_in, window, ensured, taken}
use Rattle.source.specs.Binary.{spelled_at, number}
use Rattle.source.specs.Runs.{ahead}
use Rattle.source.proofs.Cases.{held, ensured-by, ready}
use Rattle.source.proofs.Kept.{Sound, Keeps, ensured-keeps, drop-none}

module _ (supply schedule : List ℕ) where
  -- the bytes at the start of a window that has n of them
  pub front : (n : ℕ) (t : ParserSource) (b : List ℕ) → Sound supply schedule t b → n ≤ unread t → take n (drop t.start (held_in supply t b)) ≡ take n (ahead supply t b)
  front n t b g h =
      let l = part_length (held_in supply t b) t.start (unread t) (omega (arith, g)) in
      sym (take-take n (unread t) (drop t.start (held_in supply t b)) h)
      ∙ sym (take-append-le n (window supply t b) (drop t.supply supply) (omega (arith, l)))

module _ (supply schedule : List ℕ) (s : ParserSource) (buffer : List ℕ) (n : ℕ) where
  -- `ensure_bytes` gives in a state that fits alone, and reads nothing
  record Stayed (t : ParserSource) : Type 0 where
    fits : Sound supply schedule s buffer
    there : t.position ≡ s.position

  abbrev IfStayed : Drawn (Unit {0}) → Type 0
  IfStayed (drawn a t b) = Stayed t
  IfStayed (halted r t b) = Unit {0}

  stayed : {t : ParserSource} {b : List ℕ} → ensured supply schedule n s buffer ≡ drawn tt t b → Stayed t
  stayed e =
      subst IfStayed e (ensured-by supply schedule s buffer n IfStayed (λ p. tt)
      (λ f h. record { fits = held supply schedule s buffer f; there = refl })
      (λ f x. tt)
      (λ f t x. tt)
      (λ f t h. record { fits = held supply schedule s buffer f; there = refl }))

  pub ensured-position : {t : ParserSource} {b : List ℕ} → ensured supply schedule n s buffer ≡ drawn tt t b → t.position ≡ s.position
  ensured-position e = (stayed e).there

  -- so the bytes to come stay
  pub ensured-ahead : {t : ParserSource} {b : List ℕ} → ensured supply schedule n s buffer ≡ drawn tt t b → ahead supply t b ≡ ahead supply s buffer
  ensured-ahead {t} {b} e =
      let w = stayed e in
      let k : Keeps supply schedule s buffer (drawn (tt {0}) t b) = rw e at (ensured-keeps supply schedule n s buffer w.fits) in
      sym k.same ∙ rw w.there (drop-none (ahead supply s buffer) s.position)

  -- the bytes at the start of the window are the first to come
  pub ensured-front : {t : ParserSource} {b : List ℕ} → ensured supply schedule n s buffer ≡ drawn tt t b → take n (drop t.start (held_in supply t b)) ≡ take n (ahead supply s buffer)
  ensured-front {t} {b} e = let w = ready supply schedule s buffer n e in front supply schedule n t b w.good w.there ∙ ap (take n) (ensured-ahead e)

  -- what `take` hands over
  pub taken-bytes : {t : Text} {u : ParserSource} {b : List ℕ} → taken supply schedule n s buffer ≡ drawn t u b → text_in supply t u b ≡ take n (ahead supply s buffer)
  unfolding taken ◌then◌ drawn_then
  taken-bytes {t} {u} {b} e = by (ensured supply schedule n s buffer) refl e
    where
      by : (x : Drawn (Unit {0})) → ensured supply schedule n s buffer ≡ x → drawn_then x (λ _ v m. drawn (text_at v.start n) (read_past n v) m) ≡ drawn t u b
          → text_in supply t u b ≡ take n (ahead supply s buffer)
      by (drawn a v m) q h =
          let z : text_at v.start n ≡ t = cc in
          let y : read_past n v ≡ u = cc in
          let x : m ≡ b = cc in
          let w = ready supply schedule s buffer n q in
          rw (← z, ← y, ← x, within (held_in supply v m) (text_at v.start n) (omega (arith, w.good, w.there))) (ensured-front q)
      by (halted r v m) q h = cc

  -- and the number that is read
  pub number-bytes : {i : ℕ} {u : ParserSource} {b : List ℕ} → number supply schedule n s buffer ≡ drawn i u b → i ≡ le (take n (ahead supply s buffer))
  unfolding number taken ◌then◌ drawn_then
  number-bytes {i} {u} {b} e = by (ensured supply schedule n s buffer) refl e
    where
      by : (x : Drawn (Unit {0})) → ensured supply schedule n s buffer ≡ x
          → drawn_then (drawn_then x (λ _ v m. drawn (text_at v.start n) (read_past n v) m)) (λ t v m. drawn (spelled_at supply n v t.start m) v m) ≡ drawn i u b
          → i ≡ le (take n (ahead supply s buffer))
      by (drawn a v m) q h =
          let z : spelled_at supply n (read_past n v) v.start m ≡ i = cc in
          sym z ∙ ap le (ensured-front q)
      by (halted r v m) q h = cc
