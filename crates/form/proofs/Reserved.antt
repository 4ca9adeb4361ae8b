-- The reserved ids, counted: 42, each in one row only. Assumes nothing.
use Prim.Native.Nat.{ℕ}
use mathlib.Core.Path.{◌≡◌, refl}
use mathlib.Core.Bool.{Bool, true, not, ◌&&◌}
use mathlib.Core.List.{List, [], ◌∷◌}
use lib.ListN.{length}
use Rattle.form.specs.Table.{table, entries, among, reserved_ids}

abbrev pub distinct : List ℕ → Bool
distinct [] = true
distinct (k ∷ ks) = not (among k ks) && distinct ks

pub reserved-count : length reserved_ids ≡ 42
unfolding reserved_ids entries table
reserved-count = refl

pub reserved-once : distinct reserved_ids ≡ true
unfolding reserved_ids entries table
reserved-once = refl
