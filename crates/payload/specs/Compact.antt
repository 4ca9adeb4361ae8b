-- Compact numbers: few bytes, and a sign.
use Rattle.std.specs.Prelude.{ℕ, Bool, leb}
use Rattle.form.specs.Numbers.{pick, negated}
use Rattle.form.specs.Readers.{ByPlace, at, mapped}
use Rattle.form.specs.Reading.{num}

-- at most seven bytes
abbrev pub at_most7 : ℕ → ℕ
at_most7 w = pick (leb w 7) w 7

-- negated once, where the flag says so
abbrev pub signed_by : Bool → ℕ → ℕ
signed_by negative n = pick negative (negated n) n

-- the compact number of w bytes at a place
abbrev pub compact : ℕ → Bool → ByPlace ℕ
compact w negative s p = mapped (signed_by negative) (at (num (at_most7 w)) s p)
