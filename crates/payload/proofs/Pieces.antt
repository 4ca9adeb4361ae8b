-- What is asked for at once, by the read of its bytes. Assumes nothing.
use Prim.Native.Nat.{ℕ}
use mathlib.Core.Path.{◌≡◌, ◌∙◌}
use mathlib.Core.List.{List}
use Rattle.form.specs.Refusals.{Fault}
use Rattle.form.specs.Readers.{found, refused, Reader, and_then, placed, at}
use Rattle.form.specs.Reading.{next, piece}
use Rattle.laws.proofs.Places.{piece_then}
use Rattle.payload.proofs.Handed.{placed-found, placed-refused}

module _ {A B : Type 0} (g : ℕ → List ℕ → B) (n : ℕ) (f : Reader A) (s : List ℕ) (p : ℕ) where
  pub piece-not : {why : Fault} → placed g (at (next n) s p) ≡ refused why → at (piece n f) s p ≡ refused why
  unfolding and_then
  piece-not e = piece_then n f s p ∙ rw (placed-refused g (at (next n) s p) e)

  pub piece-there : {b : B} {k : ℕ} → placed g (at (next n) s p) ≡ found b k → at (piece n f) s p ≡ at f s p
  unfolding and_then
  piece-there e = piece_then n f s p ∙ rw (placed-found g (at (next n) s p) e).1
