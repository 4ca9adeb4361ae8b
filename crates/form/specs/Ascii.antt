-- Words, numbers and bytes as text.
use Rattle.std.specs.Prelude.{ℕ, zero, suc, ◌+◌, ◌-◌, ◌/◌, ◌%◌, Bool, List, [], ◌∷◌, ◌++◌, ltb, ℤ, pos, nat_abs}
use Prim.Native.Char.{code}
use Prim.Native.String.{String, [] as nil, ◌∷◌ as ◌then◌}
use Rattle.std.specs.Int.Signed.{lt_z}
use Rattle.form.specs.Numbers.{pick}

-- the bytes of a word
abbrev pub ascii : String → List ℕ
ascii nil = []
ascii (c then w) = code c ∷ ascii w

-- a digit below 16
abbrev pub digit : ℕ → ℕ
digit d = pick (ltb d 10) (code "0" + d) (code "a" + (d - 10))

-- what stands before the last digit of n: what `go` gives for a tenth of it
abbrev pub before_last : ℕ → (ℕ → List ℕ) → List ℕ
before_last n go = pick (ltb n 10) [] (go (n / 10))

-- by a count that is large enough: the number plus one is
unfoldable pub decimal_f : ℕ → ℕ → List ℕ
decimal_f zero n = []
decimal_f (suc k) n = before_last n (λ m. decimal_f k m) ++ (digit (n % 10) ∷ [])

-- the decimal digits of n
unfoldable pub decimal : ℕ → List ℕ
decimal n = decimal_f (suc n) n

-- with `-` in front where it is negative
unfoldable pub signed : ℤ → List ℕ
signed z = pick (lt_z z (pos 0)) (ascii "-" ++ decimal (nat_abs z)) (decimal (nat_abs z))

-- two digits for each byte
unfoldable pub hex : List ℕ → List ℕ
hex [] = []
hex (b ∷ bs) = digit (b / 16) ∷ digit (b % 16) ∷ hex bs

-- the same, and `-` for no bytes
unfoldable pub hex_or_dash : List ℕ → List ℕ
hex_or_dash [] = ascii "-"
hex_or_dash (b ∷ bs) = hex (b ∷ bs)

unfoldable pub truth : Bool → List ℕ
truth b = pick b (ascii "true") (ascii "false")

-- ---- lines

-- words, each with a space in front
unfoldable pub spaced : List (List ℕ) → List ℕ
spaced [] = []
spaced (w ∷ ws) = ascii " " ++ (w ++ spaced ws)

-- words with single spaces between them, and a newline: the first word and the others
unfoldable pub line : List ℕ → List (List ℕ) → List ℕ
line w ws = w ++ (spaced ws ++ ascii "\n")
