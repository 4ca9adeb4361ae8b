-- Bytes split after a count: the head and the rest, or nothing.
use Rattle.std.specs.Prelude.{ℕ, Bool, List, [], length, take, drop, leb, Option, Some, None}
use Rattle.form.specs.Numbers.{pick}

-- there are n bytes
abbrev pub splits : List ℕ → ℕ → Bool
splits s n = leb n (length s)

abbrev pub split_at : List ℕ → ℕ → Option ℕ
split_at s n = pick (splits s n) (Some n) None

abbrev pub head_of : List ℕ → ℕ → List ℕ
head_of s n = pick (splits s n) (take n s) []

abbrev pub rest_of : List ℕ → ℕ → List ℕ
rest_of s n = pick (splits s n) (drop n s) []
