-- `skip::walk::skip_payload` meets its contract. Assumes nothing.
use Prim.Native.Nat.{ℕ}
use mathlib.Core.Path.{refl}
use mathlib.Core.Option.{none, some}
use mathlib.Core.List.{List, [], ◌∷◌}
use lib.Dec.{leb}
use borrow.Author.Tests.{lt-leb}
use Rattle.form.specs.Table.{table, entries, find, or_plain, after}
use Rattle.laws.proofs.Lookups.{arm}
use Rattle.skip.specs.Walks.{steps_over}
use Rattle.skip.proofs.Passing.{passed, bare}
use Rattle.skip.proofs.walk.skip_payload.Goals as goal

-- the ids of each arm
abbrev strings : List ℕ
strings = 0x000f ∷ 0x0017 ∷ 0x0d5e ∷ []

abbrev ones : List ℕ
ones = 0x000e ∷ 0x0d40 ∷ 0x0d43 ∷ 0x0d5a ∷ []

abbrev twos : List ℕ
twos = 0x0d3e ∷ 0x0d44 ∷ 0x0d5b ∷ []

abbrev threes : List ℕ
threes = 0x0d41 ∷ 0x0d45 ∷ 0x0d5c ∷ []

abbrev fours : List ℕ
fours = 0x000c ∷ 0x0014 ∷ 0x0d3f ∷ 0x0d46 ∷ 0x0d5d ∷ []

abbrev floats : List ℕ
floats = 0x000d ∷ []

abbrev eights : List ℕ
eights = 0x0167 ∷ 0x029c ∷ 0x0317 ∷ []

abbrev arms : List (List ℕ)
arms = strings ∷ ones ∷ twos ∷ threes ∷ fours ∷ floats ∷ eights ∷ []

pub returns-then-n-lt-FIXED5_ZERO : goal.returns-then-n-lt-FIXED5_ZERO
unfolding after or_plain find entries table
returns-then-n-lt-FIXED5_ZERO c =
    passed _ _ _ (some 0) (bare (leb 0x0d47) arms refl _ c.in_default.in_default-own.rest (lt-leb 0x0d47 _ c.if-n-lt-FIXED5_ZERO.true)) _ c.read_bytes-then-n-lt-FIXED5_ZERO.ensures

pub returns-then-n-gt-FIXED5_I56 : goal.returns-then-n-gt-FIXED5_I56
unfolding after or_plain find entries table
returns-then-n-gt-FIXED5_I56 c =
    passed _ _ _ (some 0) (bare (λ i. leb i 0x0d55) arms refl _ c.in_default.in_default-own.rest (lt-leb _ 0x0d55 c.if-n-gt-FIXED5_I56.true)) _ c.read_bytes-then-n-gt-FIXED5_I56.ensures

pub compact_width-requires : goal.compact_width-requires
compact_width-requires c = (c.if-n-lt-FIXED5_ZERO.false, c.if-n-gt-FIXED5_I56.false)

pub returns-in-15 : goal.returns-in-15
unfolding after or_plain find entries table
returns-in-15 c = passed _ _ _ none (arm steps_over strings (refl, (refl, (refl, tt))) c.in-15.is) _ c.read_string.ensures

pub returns-in-14 : goal.returns-in-14
unfolding after or_plain find entries table
returns-in-14 c = passed _ _ _ (some 1) (arm steps_over ones (refl, (refl, (refl, (refl, tt)))) c.in-14.is) _ c.read_bytes.ensures

pub returns-in-3390 : goal.returns-in-3390
unfolding after or_plain find entries table
returns-in-3390 c = passed _ _ _ (some 2) (arm steps_over twos (refl, (refl, (refl, tt))) c.in-3390.is) _ c.read_bytes-in-3390.ensures

pub returns-in-3393 : goal.returns-in-3393
unfolding after or_plain find entries table
returns-in-3393 c = passed _ _ _ (some 3) (arm steps_over threes (refl, (refl, (refl, tt))) c.in-3393.is) _ c.read_bytes-in-3393.ensures

pub returns-in-20 : goal.returns-in-20
unfolding after or_plain find entries table
returns-in-20 c = passed _ _ _ (some 4) (arm steps_over fours (refl, (refl, (refl, (refl, (refl, tt))))) c.in-20.is) _ c.read_bytes-in-20.ensures

pub returns-in-13 : goal.returns-in-13
unfolding after or_plain find entries table
returns-in-13 c = passed _ _ _ (some 4) (arm steps_over floats (refl, tt) c.in-13.is) _ c.read_bytes-in-13.ensures

pub returns-in-668 : goal.returns-in-668
unfolding after or_plain find entries table
returns-in-668 c = passed _ _ _ (some 8) (arm steps_over eights (refl, (refl, (refl, tt))) c.in-668.is) _ c.read_bytes-in-668.ensures

pub returns-else-n-gt-FIXED5_I56 : goal.returns-else-n-gt-FIXED5_I56
returns-else-n-gt-FIXED5_I56 c = passed _ _ _ (some _) c.compact_width.ensures _ c.read_bytes-in_default.ensures
