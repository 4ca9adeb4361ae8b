-- A value's words.
use Rattle.std.specs.Prelude.{ℕ, Bool, List, [], ◌∷◌, ℤ, Option, Some, None}
use Rattle.std.specs.Int.{w64}
use Rattle.std.proofs.Common.{of_z}
use Rattle.form.specs.Spelling.{bit}
use Rattle.form.specs.Values.{Value, kind}
use Rattle.normaliser.specs.declared.rescuing.Report.{Report}
use Rattle.payload.specs.declared.answers.Rgb.{Rgb}
use Rattle.payload.specs.declared.answers.Text.{Text}
use Rattle.token.specs.Tokens.{token_of, value_of}
use Rattle.token.specs.declared.Token.{Token}
use Rattle.token.specs.declared.Token.TheVariants as T

abbrev pub no_words : Unit {0} → List ℕ
no_words x = []

abbrev pub number_words : ℕ → List ℕ
number_words n = n ∷ []

abbrev pub bool_words : Bool → List ℕ
bool_words b = bit b ∷ []

-- two's complement in 64 bits, whatever the number's own width
abbrev pub signed_words : ℤ → List ℕ
signed_words z = of_z w64 z ∷ []

-- a part of the bytes: where it begins, and its length
abbrev pub text_words : Text → List ℕ
text_words t = t.start ∷ t.len ∷ []

-- whether there is one, and its value
abbrev pub alpha_words : Option ℕ → List ℕ
alpha_words None = 0 ∷ 0 ∷ []
alpha_words (Some a) = 1 ∷ a ∷ []

abbrev pub rgb_words : Rgb → List ℕ
rgb_words x = x.r ∷ x.g ∷ x.b ∷ alpha_words x.a

-- of a rescue: the bytes cut, the strays, the Closes
abbrev pub report_words : Report → List ℕ
report_words r = r.cut ∷ r.strays ∷ r.closes ∷ []

-- what a token holds
abbrev pub held_words : Token → List ℕ
held_words T.Open = []
held_words T.Close = []
held_words T.Equal = []
held_words (T.U32 n) = number_words n
held_words (T.U64 n) = number_words n
held_words (T.I32 z) = signed_words z
held_words (T.Bool b) = bool_words b
held_words (T.Quoted t) = text_words t
held_words (T.Unquoted t) = text_words t
held_words (T.F32 n) = number_words n
held_words (T.F64 n) = number_words n
held_words (T.Rgb x) = rgb_words x
held_words (T.I64 z) = signed_words z
held_words (T.Lookup n) = number_words n
held_words (T.Id i) = number_words i

-- the number of its kind, which does not go by a text's bytes, and what it holds
abbrev pub token_words : Token → List ℕ
token_words t = kind (value_of [] t) ∷ held_words t

-- a colour has no text, so the place does not matter
abbrev pub colour_words : Value → List ℕ
colour_words v = held_words (token_of 0 v)
