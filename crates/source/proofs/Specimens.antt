-- FORMAT.md's specimen: a buffer of 8 bytes, a supply of 5, a schedule of 3 and then a failure. Assumes nothing.
use mathlib.Core.Path.{◌≡◌, refl}
use mathlib.Core.Bool.{true}
use mathlib.Core.List.{List, [], ◌∷◌}
use Prim.Native.Nat.{ℕ}
use Rattle.form.specs.Refusals.{ReadFailed}
use Rattle.source.specs.declared.ParserSource.{ParserSource}
use Rattle.source.specs.Reads.{FAILS, one, fill}
use Rattle.source.specs.Window.{new_stream, checked, drawn, halted, if_fine, fitting, topped_by, topped, ensured}

abbrev supply : List ℕ
supply = 1 ∷ 2 ∷ 3 ∷ 4 ∷ 5 ∷ []

abbrev schedule : List ℕ
schedule = 3 ∷ FAILS ∷ []

-- three bytes in the window, and both entries used
abbrev later : ParserSource
later = record { start = 0; end = 3; supply = 3; schedule = 2; position = 0; streaming = true }

abbrev filled : List ℕ
filled = 1 ∷ 2 ∷ 3 ∷ 9 ∷ 9 ∷ 9 ∷ 9 ∷ 9 ∷ []

-- the first call fails with three bytes in the window; the second is accepted, and changes nothing
pub specimen : (ensured supply schedule 2 new_stream (9 ∷ 9 ∷ 9 ∷ 9 ∷ 9 ∷ 9 ∷ 9 ∷ 9 ∷ []) ≡ halted (ReadFailed 0) later filled)
    × (ensured supply schedule 2 later filled ≡ drawn tt later filled)
unfolding ensured fitting if_fine checked topped topped_by fill one
specimen = (refl, refl)
