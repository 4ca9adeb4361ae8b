-- No public promise goes through this file. What the program writes of a save: its normal form, or the line of its first refusal.
use Rattle.std.specs.Prelude.{ℕ, List}
use Rattle.form.specs.Writing.{Output, written, unwritten}
use Rattle.form.specs.Listing.{error_line}
use Rattle.normaliser.specs.Stretches.{normal_style, unbounded}

-- the bytes of an output, or the line of its refusal
abbrev pub or_line : Output → List ℕ
or_line (written bs) = bs
or_line (unwritten r) = error_line r

unfoldable pub shown : List ℕ → List ℕ
shown s = or_line (unbounded normal_style s)
