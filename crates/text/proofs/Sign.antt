-- The text of a signed number. Assumes nothing.
use mathlib.Core.Path.{◌≡◌}
use mathlib.Core.Bool.{true, false}
use mathlib.Core.List.{◌++◌}
use Prim.Native.Nat.{ℕ}
use lib.IntN.{ℤ, pos, nat_abs}
use lib.Signed.{lt_z}
use mir.Syntax.{w64}
use mir.Val.{SFits, of_z, to_z}
use mir.ValLaws.{to_z-of_z}
use Rattle.form.specs.Ascii.{ascii, decimal, signed}

-- a signed number, by the code's test of its sign
module _ (x : ℤ) (s : SFits w64 x) where
  pub signed-minus : (m : ℕ) → lt_z (to_z w64 (of_z w64 x)) (pos 0) ≡ true → m ≡ nat_abs (to_z w64 (of_z w64 x)) → signed x ≡ ascii "-" ++ decimal m
  unfolding signed
  signed-minus m h e = let t : lt_z x (pos 0) ≡ true = rw (to_z-of_z w64 x s) at h in rw (t, e, to_z-of_z w64 x s)

  pub signed-plain : (m : ℕ) → lt_z (to_z w64 (of_z w64 x)) (pos 0) ≡ false → m ≡ nat_abs (to_z w64 (of_z w64 x)) → signed x ≡ decimal m
  unfolding signed
  signed-plain m h e = let t : lt_z x (pos 0) ≡ false = rw (to_z-of_z w64 x s) at h in rw (t, e, to_z-of_z w64 x s)
