-- A read that refuses no bytes at all finds nothing at the end of the bytes, nor past it. Assumes nothing.
use Prim.Native.Nat.{ℕ, ◌<◌}
use native.Mathlib.Omega.{arith}
use mathlib.Core.Path.{◌≡◌, refl, ap}
use mathlib.Core.Bool.{Bool, true, false}
use mathlib.Core.List.{List, []}
use lib.ListN.{length, drop, drop_of_length-le}
use lib.Dec.{ltb}
use borrow.Author.Tests.{ltb-true, ltb-false, lt-leb}
use Rattle.form.specs.Refusals.{Fault, too_short}
use Rattle.form.specs.Readers.{Answer, found, refused, Reader, ByPlace, further, and_then, mapped, placed, ◌followed-by◌, ◌giving◌, at}
use Rattle.form.specs.Reading.{next, piece, num, string, rgb, token}
use Rattle.laws.proofs.Never.{never}

-- whatever is found begins inside the bytes
abbrev pub Inside : {A : Type 0} → ByPlace A → Type 0
Inside {A} f = (s : List ℕ) (p : ℕ) (a : A) (n : ℕ) → f s p ≡ found a n → p < length s

-- no bytes are too few, by m
abbrev pub Starved : {A : Type 0} → ℕ → Reader A → Type 0
Starved m f = f [] ≡ refused (too_short m)

pub inside : {A : Type 0} (m : ℕ) (f : Reader A) → Starved m f → Inside (at f)
unfolding at further
inside m f h s p a n e = go (ltb p (length s)) refl
  where
    go : (b : Bool) → ltb p (length s) ≡ b → p < length s
    go true t = ltb-true p (length s) t
    go false t =
        let d : drop p s ≡ [] = drop_of_length-le s (ltb-false p (length s) t) in
        let q : refused (too_short m) ≡ found a n = rw (d, h) at e in
        never (cc)

-- what hands faults on finds no more
inside-through : {A B : Type 0} (f : ByPlace A) (t : Answer A → Answer B) → ((why : Fault) → t (refused why) ≡ refused why) → Inside f → Inside (λ s p. t (f s p))
inside-through f t k h s p b n e = go (f s p) refl e
  where
    go : (x : Answer _) → f s p ≡ x → t x ≡ found b n → p < length s
    go (found a m) q e = h s p a m q
    go (refused why) q e = never (cc (k why))

pub inside-mapped : {A B : Type 0} (f : ByPlace A) (g : A → B) → Inside f → Inside (λ s p. mapped g (f s p))
unfolding mapped
inside-mapped f g = inside-through f (mapped g) (λ why. refl)

pub inside-placed : {A B : Type 0} (f : ByPlace A) (g : ℕ → A → B) → Inside f → Inside (λ s p. placed g (f s p))
unfolding placed
inside-placed f g = inside-through f (placed g) (λ why. refl)

-- ---- the readings

starved-then : {A B : Type 0} {m : ℕ} (f : Reader A) (g : A → Reader B) → Starved m f → Starved m (f followed-by g)
unfolding ◌followed-by◌ and_then
starved-then f g h = rw h

num-starved : (w : ℕ) → 0 < w → Starved w (num w)
unfolding num next ◌giving◌ mapped
num-starved w h = rw (lt-leb w 0 h) (ap (λ (m : ℕ). refused (too_short m)) (omega arith))

pub num-inside : (w : ℕ) → 0 < w → Inside (at (num w))
num-inside w h = inside w (num w) (num-starved w h)

id-starved : Starved 2 (num 2)
id-starved = num-starved 2 (omega arith)

pub string-inside : Inside (at string)
unfolding string
string-inside = inside 2 string (starved-then (num 2) next id-starved)

pub rgb-inside : Inside (at rgb)
unfolding rgb piece next and_then
rgb-inside = inside 22 rgb refl

pub token-inside : Inside (at token)
unfolding token
token-inside = inside 2 token (starved-then (num 2) _ id-starved)
