-- No public promise goes through this file. A token's line as the code has it: its kind's name, and the words that show its value.
use Rattle.std.specs.Prelude.{ℕ, List, [], ◌∷◌}
use Rattle.form.specs.Numbers.{le_bytes}
use Rattle.form.specs.Ascii.{ascii, decimal, signed, hex, hex_or_dash, truth, line}
use Rattle.form.specs.Listing.{name, alpha_words}
use Rattle.payload.specs.Answers.{alpha_of}
use Rattle.payload.specs.declared.answers.Rgb.{Rgb}
use Rattle.payload.specs.Texts.{part_of}
use Rattle.token.specs.Tokens.{value_of}
use Rattle.token.specs.declared.Token.{Token}
use Rattle.token.specs.declared.Token.TheVariants as T

-- a kind has one name, whatever the value and the bytes that its text stands in
unfoldable pub name_of : Token → List ℕ
name_of t = ascii (name (value_of [] t))

abbrev pub colour_words : Rgb → List (List ℕ)
colour_words c = decimal c.r ∷ decimal c.g ∷ decimal c.b ∷ alpha_words (alpha_of c.a)

-- the words that show a value, with the bytes that a text stands in
unfoldable pub value_words : List ℕ → Token → List (List ℕ)
value_words s T.Open = []
value_words s T.Close = []
value_words s T.Equal = []
value_words s (T.U32 n) = decimal n ∷ []
value_words s (T.U64 n) = decimal n ∷ []
value_words s (T.I32 z) = signed z ∷ []
value_words s (T.Bool b) = truth b ∷ []
value_words s (T.Quoted t) = hex_or_dash (part_of s t) ∷ []
value_words s (T.Unquoted t) = hex_or_dash (part_of s t) ∷ []
value_words s (T.F32 n) = hex (le_bytes 4 n) ∷ []
value_words s (T.F64 n) = hex (le_bytes 8 n) ∷ []
value_words s (T.Rgb c) = colour_words c
value_words s (T.I64 z) = signed z ∷ []
value_words s (T.Lookup n) = decimal n ∷ []
value_words s (T.Id i) = decimal i ∷ []

-- the line of a token at a position
unfoldable pub line_of : List ℕ → ℕ → Token → List ℕ
line_of s p t = line (decimal p) (name_of t ∷ value_words s t)
