-- What the next bytes say of the number that they spell. Assumes nothing.
use Prim.Native.Nat.{ℕ}
use mathlib.Core.Path.{◌≡◌, ap, ◌∙◌}
use mathlib.Core.List.{List}
use Rattle.form.specs.Numbers.{le}
use Rattle.form.specs.Refusals.{Fault}
use Rattle.form.specs.Readers.{found, refused, mapped, placed, at}
use Rattle.form.specs.Reading.{next, num}
use Rattle.laws.proofs.Places.{at-giving}
use Rattle.payload.proofs.Handed.{placed-found, placed-refused}

module _ {B : Type 0} (f : ℕ → List ℕ → B) (n : ℕ) (s : List ℕ) (p : ℕ) where
  -- there are so many, and it is read
  pub spells : {b : B} {e : ℕ} → placed f (at (next n) s p) ≡ found b e → (x : ℕ) × (at (num n) s p ≡ found x e)
  unfolding num mapped
  spells q = let g = placed-found f (at (next n) s p) q in (le g.0, at-giving (next n) le s p ∙ ap (mapped le) g.1)

  -- there are too few, and it is refused alike
  pub spells-not : {why : Fault} → placed f (at (next n) s p) ≡ refused why → at (num n) s p ≡ refused why
  unfolding num mapped
  spells-not q = at-giving (next n) le s p ∙ ap (mapped le) (placed-refused f (at (next n) s p) q)
