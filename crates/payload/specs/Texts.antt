-- The part of the bytes that a text stands for.
use Rattle.std.specs.Prelude.{ℕ, ◌+◌, Bool, List, [], length, take, drop, leb}
use Rattle.form.specs.Numbers.{pick}
use Rattle.payload.specs.declared.answers.Text.{Text}

-- whether a text lies within the bytes
abbrev pub lies : List ℕ → Text → Bool
lies s t = leb (t.start + t.len) (length s)

-- the part of the bytes that holds a text; none where it does not lie within them
abbrev pub part_of : List ℕ → Text → List ℕ
part_of s t = pick (lies s t) (take t.len (drop t.start s)) []
