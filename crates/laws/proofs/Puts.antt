-- The laws of bytes put at a place. Assumes nothing.
use mathlib.Core.Path.{◌≡◌, refl, sym, ap, ◌∙◌}
use mathlib.Core.Bool.{Bool, true, false}
use mathlib.Core.List.{List, [], ◌∷◌, ◌++◌, append-nil}
use Prim.Native.Nat.{ℕ, suc, ◌+◌, ◌≤◌, min}
use native.Mathlib.Omega.{arith}
use lib.Dec.{leb}
use lib.ListN.{length, set, length-append}
use lib.Seq.{sets, set_out, length-sets}
use borrow.Author.Tests.{leb-true, leb-false}
use Rattle.form.specs.Numbers.{MAX}
use Rattle.form.specs.Put.{Put}
use Rattle.form.specs.Writing.{over}
use Rattle.laws.proofs.Runs.{sets-append, sets-front}

-- past the end nothing is stored
sets-past : (bs d : List ℕ) (i : ℕ) → length d ≤ i → sets d i bs ≡ d
sets-past [] d i h = refl
sets-past (b ∷ bs) d i h = let e : set d i b ≡ d = set_out d i b h in rw e (sets-past bs d (suc i) (omega arith))

-- a place counts on from the largest
sum : (i a b : ℕ) → min (min (i + a) MAX + b) MAX ≡ min (i + (a + b)) MAX
sum i a b = omega arith

-- a run goes on from the place after another, or both are past the end
on : (d : List ℕ) (i : ℕ) (a b : List ℕ) → length d ≤ MAX → sets (sets d i a) (min (i + length a) MAX) b ≡ sets d i (a ++ b)
on d i a b h = go (leb (i + length a) MAX) refl
  where
    go : (t : Bool) → leb (i + length a) MAX ≡ t → sets (sets d i a) (min (i + length a) MAX) b ≡ sets d i (a ++ b)
    go true e =
        let m : min (i + length a) MAX ≡ i + length a = omega (arith, leb-true (i + length a) MAX e) in
        ap (λ (k : ℕ). sets (sets d i a) k b) m ∙ sets-append a b d i
    go false e =
        let l : length (sets d i a) ≤ min (i + length a) MAX = omega (arith, leb-false (i + length a) MAX e, length-sets d i a) in
        let m : length (sets d i a) ≤ i + length a = omega (arith, leb-false (i + length a) MAX e, length-sets d i a) in
        sets-past b (sets d i a) (min (i + length a) MAX) l ∙ sym (sets-past b (sets d i a) (i + length a) m) ∙ sets-append a b d i

-- two writes, one after the other, are one
pub put_then : {d d₁ d₂ : List ℕ} {i r₁ r₂ : ℕ} {a b : List ℕ} → Put d i a d₁ r₁ → Put d₁ r₁ b d₂ r₂ → Put d i (a ++ b) d₂ r₂
put_then {d} {d₁} {d₂} {i} {r₁} {r₂} {a} {b} p q = record {
  next = q.next ∙ ap (λ (k : ℕ). min (k + length b) MAX) p.next ∙ sum i (length a) (length b) ∙ ap (λ (k : ℕ). min (i + k) MAX) (sym (length-append a b));
  same = q.same ∙ p.same;
  bytes = λ h. q.bytes (omega (arith, p.same)) ∙ (λ k. sets (p.bytes h k) (p.next k) b) ∙ on d i a b h;
}

-- nothing is written
pub put-none : (d : List ℕ) (i : ℕ) → i ≤ MAX → Put d i [] d i
put-none d i h = record { next = omega arith; same = refl; bytes = λ _. refl }

-- at the front, with room
pub put_front : {d d' bs : List ℕ} {r : ℕ} → length d ≤ MAX → length bs ≤ length d → Put d 0 bs d' r → d' ≡ over bs d
put_front {d} {d'} {bs} m h p = p.bytes m ∙ sets-front bs d h

-- what a loop that writes still has to do: bs at i of d, as it is, gives what bs₀ at i₀ of d₀, as it was, gives
pub record Left (d : List ℕ) (i : ℕ) (bs d₀ : List ℕ) (i₀ : ℕ) (bs₀ : List ℕ) : Type 0 where
  pub fits : i ≤ MAX
  pub place : min (i + length bs) MAX ≡ min (i₀ + length bs₀) MAX
  pub same : length d ≡ length d₀
  pub bytes : length d₀ ≤ MAX → sets d i bs ≡ sets d₀ i₀ bs₀

pub left-all : (d : List ℕ) (i : ℕ) (bs : List ℕ) → i ≤ MAX → Left d i bs d i bs
left-all d i bs h = record { fits = h; place = refl; same = refl; bytes = λ _. refl }

-- a turn that writes the first of what is left
pub left_step : {d d₁ d₀ : List ℕ} {i r i₀ : ℕ} {bs a bs₀ : List ℕ} (b : List ℕ) → Left d i bs d₀ i₀ bs₀ → Put d i a d₁ r → bs ≡ a ++ b → Left d₁ r b d₀ i₀ bs₀
left_step {d} {d₁} {d₀} {i} {r} {i₀} {bs} {a} {bs₀} b l p e = record {
  fits = omega (arith, p.next);
  place = ap (λ (k : ℕ). min (k + length b) MAX) p.next ∙ sum i (length a) (length b) ∙ ap (λ (k : ℕ). min (i + k) MAX) (sym (ap length e ∙ length-append a b)) ∙ l.place;
  same = p.same ∙ l.same;
  bytes = λ h. let h₁ : length d ≤ MAX = omega (arith, l.same) in (λ k. sets (p.bytes h₁ k) (p.next k) b) ∙ on d i a b h₁ ∙ ap (sets d i) (sym e) ∙ l.bytes h;
}

pub left-done : {d d₀ : List ℕ} {i i₀ : ℕ} {bs bs₀ : List ℕ} → Left d i bs d₀ i₀ bs₀ → bs ≡ [] → Put d₀ i₀ bs₀ d i
left-done {d} {d₀} {i} {i₀} {bs} {bs₀} l e = record {
  next = omega (arith, l.fits, l.place, ap length e);
  same = l.same;
  bytes = λ h. sym (ap (sets d i) e) ∙ l.bytes h;
}

-- the last write of a loop
pub left-last : {d d₁ d₀ : List ℕ} {i r i₀ : ℕ} {bs a bs₀ : List ℕ} → Left d i bs d₀ i₀ bs₀ → Put d i a d₁ r → bs ≡ a → Put d₀ i₀ bs₀ d₁ r
left-last {d} {d₁} {d₀} {i} {r} {i₀} {bs} {a} l p e = left-done (left_step [] l p (e ∙ sym (append-nil a))) refl
