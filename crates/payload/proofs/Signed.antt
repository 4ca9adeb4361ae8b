-- The negation of a number of the lower half is in range, and its bits are the number negated. Assumes nothing.
use mathlib.Core.Path.{◌≡◌, refl, ap, ◌∙◌}
use Prim.Native.Nat.{ℕ, zero, suc, ◌-◌, ◌^◌, ◌≤◌, ◌<◌}
use native.Mathlib.Omega.{arith}
use borrow.Author.Tests.{lt-ltb}
use lib.Signed.{mag}
use lib.IntN.{pos, negsuc, neg_ℤ, ◌-ℤ◌}
use mir.Syntax.{Width, w64}
use mir.Val.{SFits, to_z, of_z, hbits}
use mir.ValLaws.{to_z_pos, to_z-of_z}
use Rattle.form.specs.Numbers.{negated}

mag-neg : (n : ℕ) → mag (neg_ℤ (pos n)) ≤ n
mag-neg zero = omega arith
mag-neg (suc n) = omega arith

minus-all : (k : ℕ) → pos 0 -ℤ pos k ≡ neg_ℤ (pos k)
minus-all zero = refl
minus-all (suc k) = let e : suc k - 1 ≡ k = omega arith in rw (lt-ltb 0 (suc k) (omega arith)) (ap negsuc e)

negation : (w : Width) (k : ℕ) → k < 2 ^ hbits w → pos 0 -ℤ to_z w k ≡ neg_ℤ (pos k)
negation w k h = rw (to_z_pos w k h) (minus-all k)

pub negation-fits : (w : Width) (k : ℕ) → k < 2 ^ hbits w → SFits w (pos 0 -ℤ to_z w k)
negation-fits w k h = rw (negation w k h) (record { sfits = omega (arith, mag-neg k) })

bits-negated : (k : ℕ) → k < 2 ^ 63 → of_z w64 (neg_ℤ (pos k)) ≡ negated k
bits-negated zero h = refl
bits-negated (suc k) h = omega arith

pub negation-bits : (k : ℕ) → k < 2 ^ 63 → of_z w64 (to_z w64 (of_z w64 (pos 0 -ℤ to_z w64 k))) ≡ negated k
negation-bits k h = ap (of_z w64) (to_z-of_z w64 (pos 0 -ℤ to_z w64 k) (negation-fits w64 k h) ∙ negation w64 k h) ∙ bits-negated k h
