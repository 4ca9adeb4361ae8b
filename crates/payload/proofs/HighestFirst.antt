-- What a loop asks that builds a number: one byte more, the highest first. Assumes nothing.
use Prim.Native.Nat.{ℕ, suc, ◌+◌, ◌-◌, ◌*◌, ◌≤◌, ◌<◌}
use native.Mathlib.Omega.{arith}
use mathlib.Core.Path.{◌≡◌}
use mathlib.Core.List.{List}
use lib.ListN.{length, take, drop, get_or}
use lib.Seq.{drop-cons}
use Rattle.form.specs.Numbers.{le}

-- the number of the bytes from place i up to place e
pub upper : List ℕ → ℕ → ℕ → ℕ
upper s i e = le (take (e - i) (drop i s))

pub upper-end : (s : List ℕ) (e : ℕ) → upper s e e ≡ 0
unfolding upper le
upper-end s e = let d : e - e ≡ 0 = omega arith in rw d

pub upper-more : (s : List ℕ) (i j e : ℕ) → suc i ≡ j → j ≤ e → e ≤ length s → upper s j e * 256 + get_or s i 0 ≡ upper s i e
unfolding upper le
upper-more s i j e d h l =
    let n : e - i ≡ suc (e - j) = omega arith in
    let p : i < length s = omega arith in
    rw (n, ← d, drop-cons s i 0 p) (omega arith)

pub upper-all : (s : List ℕ) (i e at w : ℕ) → i ≡ at → e - i ≡ w → upper s i e ≡ le (take w (drop at s))
unfolding upper
upper-all s i e at w p n = rw (n, p)
