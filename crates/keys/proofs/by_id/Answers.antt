-- `keys::by_id` meets its contract. Assumes nothing.
use Prim.Native.Nat.{ℕ}
use native.Mathlib.Omega.{arith}
use mathlib.Core.Path.{refl}
use mathlib.Core.Option.{none, some}
use mathlib.Core.List.{List, [], ◌∷◌}
use lib.Dec.{leb}
use borrow.Author.Tests.{lt-leb}
use Rattle.form.specs.Values.{kind}
use Rattle.form.specs.Table.{table, entries, find, or_plain, after, reserved}
use Rattle.laws.proofs.Lookups.{arm}
use Rattle.keys.proofs.Passing.{spans_at, by_span, by-open, by-close, by_equal, by-colour, by-compact, by-negated, elsewhere-plain}
use Rattle.keys.proofs.by_id.Goals as goal

-- the ids of each arm
abbrev strings : List ℕ
strings = 0x000f ∷ 0x0017 ∷ 0x0d5e ∷ []

abbrev ones : List ℕ
ones = 0x000e ∷ 0x0d40 ∷ 0x0d43 ∷ 0x0d5a ∷ []

abbrev twos : List ℕ
twos = 0x0d3e ∷ 0x0d44 ∷ 0x0d5b ∷ []

abbrev threes : List ℕ
threes = 0x0d41 ∷ 0x0d45 ∷ 0x0d5c ∷ []

abbrev fours : List ℕ
fours = 0x000c ∷ 0x0014 ∷ 0x0d3f ∷ 0x0d46 ∷ 0x0d5d ∷ []

abbrev floats : List ℕ
floats = 0x000d ∷ []

abbrev eights : List ℕ
eights = 0x0167 ∷ 0x029c ∷ 0x0317 ∷ []

abbrev arms : List (List ℕ)
arms = (0x0003 ∷ []) ∷ (0x0004 ∷ []) ∷ (0x0001 ∷ []) ∷ (0x0d42 ∷ []) ∷ (0x0243 ∷ []) ∷ strings ∷ ones ∷ twos ∷ threes ∷ fours ∷ floats ∷ eights ∷ []

pub returns-then-n-lt-FIXED5_ZERO : goal.returns-then-n-lt-FIXED5_ZERO
unfolding reserved find entries table
returns-then-n-lt-FIXED5_ZERO c = elsewhere-plain (leb 0x0d47) arms refl _ c.in_default.in_default-own.rest (lt-leb 0x0d47 _ c.if-n-lt-FIXED5_ZERO.true) _ _

pub overflow_cast-n : goal.overflow_cast-n
overflow_cast-n c = omega (arith, c.if-n-le-FIXED5_U56.true)

pub returns-then-n-le-FIXED5_U56 : goal.returns-then-n-le-FIXED5_U56
returns-then-n-le-FIXED5_U56 c = by-compact _ _ _ c.if-n-lt-FIXED5_ZERO.false c.if-n-le-FIXED5_U56.true c.fixed-then-n-le-FIXED5_U56.ensures

pub overflow_cast-n-then-n-le-FIXED5_I56 : goal.overflow_cast-n-then-n-le-FIXED5_I56
overflow_cast-n-then-n-le-FIXED5_I56 c = omega (arith, c.if-n-le-FIXED5_I56.true)

pub returns-then-n-le-FIXED5_I56 : goal.returns-then-n-le-FIXED5_I56
returns-then-n-le-FIXED5_I56 c = by-negated _ _ _ c.if-n-le-FIXED5_U56.false c.if-n-le-FIXED5_I56.true c.fixed-then-n-le-FIXED5_I56.ensures

pub returns-in-3 : goal.returns-in-3
returns-in-3 c = by-open _ _ _ c.in-3.is

pub returns-in-4 : goal.returns-in-4
returns-in-4 c = by-close _ _ _ c.in-4.is

pub returns-in-1 : goal.returns-in-1
returns-in-1 c = by_equal _ _ _ c.in-1.is

pub returns-in-3394 : goal.returns-in-3394
unfolding after or_plain find entries table kind
returns-in-3394 c = by_span _ _ _ (some 0) (arm spans_at (0x0d42 ∷ []) (refl, tt) c.in-3394.is) c.fixed.ensures

pub returns-in-579 : goal.returns-in-579
returns-in-579 c = by-colour _ _ _ c.in-579.is c.colour.ensures

pub returns-in-15 : goal.returns-in-15
unfolding after or_plain find entries table kind
returns-in-15 c = by_span _ _ _ none (arm spans_at strings (refl, (refl, (refl, tt))) c.in-15.is) c.string.ensures

pub returns-in-14 : goal.returns-in-14
unfolding after or_plain find entries table kind
returns-in-14 c = by_span _ _ _ (some 1) (arm spans_at ones (refl, (refl, (refl, (refl, tt)))) c.in-14.is) c.fixed-in-14.ensures

pub returns-in-3390 : goal.returns-in-3390
unfolding after or_plain find entries table kind
returns-in-3390 c = by_span _ _ _ (some 2) (arm spans_at twos (refl, (refl, (refl, tt))) c.in-3390.is) c.fixed-in-3390.ensures

pub returns-in-3393 : goal.returns-in-3393
unfolding after or_plain find entries table kind
returns-in-3393 c = by_span _ _ _ (some 3) (arm spans_at threes (refl, (refl, (refl, tt))) c.in-3393.is) c.fixed-in-3393.ensures

pub returns-in-20 : goal.returns-in-20
unfolding after or_plain find entries table kind
returns-in-20 c = by_span _ _ _ (some 4) (arm spans_at fours (refl, (refl, (refl, (refl, (refl, tt))))) c.in-20.is) c.fixed-in-20.ensures

pub returns-in-13 : goal.returns-in-13
unfolding after or_plain find entries table kind
returns-in-13 c = by_span _ _ _ (some 4) (arm spans_at floats (refl, tt) c.in-13.is) c.fixed-in-13.ensures

pub returns-in-668 : goal.returns-in-668
unfolding after or_plain find entries table kind
returns-in-668 c = by_span _ _ _ (some 8) (arm spans_at eights (refl, (refl, (refl, tt))) c.in-668.is) c.fixed-in-668.ensures

pub returns-else-n-le-FIXED5_I56 : goal.returns-else-n-le-FIXED5_I56
unfolding reserved find entries table
returns-else-n-le-FIXED5_I56 c = elsewhere-plain (λ i. leb i 0x0d55) arms refl _ c.in_default.in_default-own.rest (lt-leb _ 0x0d55 c.if-n-le-FIXED5_I56.false) _ _
