-- A compact number has few bytes. Assumes nothing.
use Prim.Native.Nat.{ℕ, ◌^◌, ◌≤◌, ◌<◌}
use native.Mathlib.Nat.{lt_of_lt_of_le}
use native.Mathlib.Omega.{arith}
use mathlib.Core.Path.{◌≡◌, refl}
use mathlib.Core.Bool.{Bool, true, false}
use mathlib.Core.List.{List}
use lib.Dec.{leb}
use lib.ListN.{get_or}
use borrow.Author.Tests.{leb-true}
use mir.Syntax.{w8}
use mir.Val.{Fits}
use Rattle.form.specs.Numbers.{pick}
use Rattle.form.specs.Readers.{found, at}
use Rattle.form.specs.Reading.{num}
use Rattle.laws.proofs.LittleEndian.{within}
use Rattle.laws.proofs.Places.{num-lt}
use Rattle.payload.specs.Compact.{at_most7}

pub at-most-7 : (w : ℕ) → at_most7 w ≤ 7
at-most-7 w = go (leb w 7) refl
  where
    go : (b : Bool) → leb w 7 ≡ b → pick b w 7 ≤ 7
    go true e = leb-true w 7 e
    go false e = omega arith

-- a number of so few bytes is below 2^56
pub few-below : (w : ℕ) (s : List ℕ) (p : ℕ) → ((i : ℕ) → Fits w8 (get_or s i 0)) → w ≤ 7 → {x n : ℕ} → at (num w) s p ≡ found x n → x < 2 ^ 56
few-below w s p b h e = lt_of_lt_of_le (num-lt w s p b e) (within {w = w} {n = 7} h)
