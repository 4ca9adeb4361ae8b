-- `normaliser::telling::span` meets its contract. Assumes nothing.
use mathlib.Core.Path.{refl, sym}
use mathlib.Core.List.{List, [], ◌∷◌}
use Prim.Native.Nat.{ℕ}
use lib.Dec.{leb}
use borrow.Author.Tests.{lt-leb}
use Rattle.form.specs.Table.{table, entries, find, or_plain, after}
use Rattle.laws.proofs.Lookups.{arm}
use Rattle.normaliser.proofs.Spans.{span_at, elsewhere-none, compact-span, negated-span}
use Rattle.normaliser.proofs.telling.span.Goals as goal

-- the ids of each arm
abbrev colours : List ℕ
colours = 0x0243 ∷ []

abbrev strings : List ℕ
strings = 0x000f ∷ 0x0017 ∷ 0x0d5e ∷ []

abbrev ones : List ℕ
ones = 0x000e ∷ 0x0d40 ∷ 0x0d43 ∷ 0x0d5a ∷ []

abbrev twos : List ℕ
twos = 0x0d3e ∷ 0x0d44 ∷ 0x0d5b ∷ []

abbrev threes : List ℕ
threes = 0x0d41 ∷ 0x0d45 ∷ 0x0d5c ∷ []

abbrev fours : List ℕ
fours = 0x000c ∷ 0x0014 ∷ 0x0d3f ∷ 0x0d46 ∷ 0x0d5d ∷ []

abbrev floats : List ℕ
floats = 0x000d ∷ []

abbrev eights : List ℕ
eights = 0x0167 ∷ 0x029c ∷ 0x0317 ∷ []

abbrev arms : List (List ℕ)
arms = colours ∷ strings ∷ ones ∷ twos ∷ threes ∷ fours ∷ floats ∷ eights ∷ []

pub returns-then-n-lt-FIXED5_ZERO : goal.returns-then-n-lt-FIXED5_ZERO
unfolding after or_plain find entries table
returns-then-n-lt-FIXED5_ZERO c = elsewhere-none (leb 0x0d47) arms refl _ c.in_default.in_default-own.rest (lt-leb 0x0d47 _ c.if-n-lt-FIXED5_ZERO.true)

pub returns-then-n-le-FIXED5_U56 : goal.returns-then-n-le-FIXED5_U56
returns-then-n-le-FIXED5_U56 c = compact-span _ c.if-n-lt-FIXED5_ZERO.false c.if-n-le-FIXED5_U56.true

pub returns-then-n-le-FIXED5_I56 : goal.returns-then-n-le-FIXED5_I56
returns-then-n-le-FIXED5_I56 c = negated-span _ c.if-n-le-FIXED5_U56.false c.if-n-le-FIXED5_I56.true

pub returns-in-579 : goal.returns-in-579
unfolding after or_plain find entries table
returns-in-579 c = sym (arm span_at colours (refl, tt) c.in-579.is)

pub returns-in-15 : goal.returns-in-15
unfolding after or_plain find entries table
returns-in-15 c = sym (arm span_at strings (refl, (refl, (refl, tt))) c.in-15.is)

pub returns-in-14 : goal.returns-in-14
unfolding after or_plain find entries table
returns-in-14 c = sym (arm span_at ones (refl, (refl, (refl, (refl, tt)))) c.in-14.is)

pub returns-in-3390 : goal.returns-in-3390
unfolding after or_plain find entries table
returns-in-3390 c = sym (arm span_at twos (refl, (refl, (refl, tt))) c.in-3390.is)

pub returns-in-3393 : goal.returns-in-3393
unfolding after or_plain find entries table
returns-in-3393 c = sym (arm span_at threes (refl, (refl, (refl, tt))) c.in-3393.is)

pub returns-in-20 : goal.returns-in-20
unfolding after or_plain find entries table
returns-in-20 c = sym (arm span_at fours (refl, (refl, (refl, (refl, (refl, tt))))) c.in-20.is)

pub returns-in-13 : goal.returns-in-13
unfolding after or_plain find entries table
returns-in-13 c = sym (arm span_at floats (refl, tt) c.in-13.is)

pub returns-in-668 : goal.returns-in-668
unfolding after or_plain find entries table
returns-in-668 c = sym (arm span_at eights (refl, (refl, (refl, tt))) c.in-668.is)

pub returns-else-n-le-FIXED5_I56 : goal.returns-else-n-le-FIXED5_I56
unfolding after or_plain find entries table
returns-else-n-le-FIXED5_I56 c = elsewhere-none (λ i. leb i 0x0d55) arms refl _ c.in_default.in_default-own.rest (lt-leb _ 0x0d55 c.if-n-le-FIXED5_I56.false)
