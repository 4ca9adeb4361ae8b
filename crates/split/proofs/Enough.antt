-- The rest after a count, where there are too few bytes too, and tests for so many bytes. Assumes nothing.
use Prim.Native.Nat.{ℕ, zero, suc, ◌≤◌, ◌<◌}
use mathlib.Core.Path.{◌≡◌, refl, sym, ◌∙◌}
use mathlib.Core.Bool.{Bool, true, false, not}
use mathlib.Core.List.{List, []}
use native.Mathlib.Omega.{arith}
use lib.ListN.{length, drop, drop_of_length-le}
use lib.Dec.{eqb, leb}
use borrow.Author.Tests.{leb-true, leb-false, not-true, not-false, lt-leb, ne_eqb}
use Rattle.form.specs.Numbers.{pick}
use Rattle.split.specs.Splits.{splits, rest_of}

pub rest-drop : (s : List ℕ) (n : ℕ) → rest_of s n ≡ drop n s
rest-drop s n = go (splits s n) refl
  where
    go : (b : Bool) → splits s n ≡ b → pick b (drop n s) [] ≡ drop n s
    go true e = refl
    go false e = let h : length s ≤ n = omega (arith, leb-false n (length s) e) in sym (drop_of_length-le s h)

-- where there are no bytes, there are so many only if that is none
pub of_none : (n : ℕ) → eqb n 0 ≡ leb n 0
of_none zero = refl
of_none (suc n) = ne_eqb (suc n) 0 (λ h. omega arith) ∙ sym (lt-leb (suc n) 0 (omega arith))

-- what a test `!has(..)` says where it fails, n bytes of m, and where it holds
pub there : {n m : ℕ} {r : Bool} → r ≡ leb n m → not r ≡ false → n ≤ m
there {n} {m} e h = leb-true n m (sym e ∙ not-false _ h)

pub short : {n m : ℕ} {r : Bool} → r ≡ leb n m → not r ≡ true → m < n
short {n} {m} e h = leb-false n m (sym e ∙ not-true _ h)
