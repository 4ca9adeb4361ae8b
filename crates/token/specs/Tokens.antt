-- The code's token for a value of the definition, and what stands at a place.
use Rattle.std.specs.Prelude.{◌≡◌, ℕ, List, take, drop, Result, Ok, Err, Option as MayBe, Some, None}
use Rattle.std.proofs.Math.Option.{Option, none, some}
use Rattle.form.specs.Values as F
use Rattle.form.specs.Readers.{Answer, ByPlace, at, placed}
use Rattle.form.specs.Reading.{token}
use Rattle.payload.specs.Answers.{text_of, colour_of, lexed_as}
use Rattle.payload.specs.declared.answers.Eof.{Eof}
use Rattle.payload.specs.declared.answers.LexError.{LexError}
use Rattle.payload.specs.declared.answers.LexError.TheVariants.{Eof as Lacks}
use Rattle.token.specs.declared.Token.{Token}
use Rattle.token.specs.declared.Token.TheVariants as T

abbrev pub alpha_for : Option ℕ → MayBe ℕ
alpha_for none = None
alpha_for (some a) = Some a

-- a value whose bytes end at place e, as a token: a text is the last part of its token
unfoldable pub token_of : ℕ → F.Value → Token
token_of e F.Open = T.Open
token_of e F.Close = T.Close
token_of e F.Equal = T.Equal
token_of e (F.U32 n) = T.U32 n
token_of e (F.U64 n) = T.U64 n
token_of e (F.F32 n) = T.F32 n
token_of e (F.F64 n) = T.F64 n
token_of e (F.Lookup n) = T.Lookup n
token_of e (F.Id i) = T.Id i
token_of e (F.I32 z) = T.I32 z
token_of e (F.I64 z) = T.I64 z
token_of e (F.Truth b) = T.Bool b
token_of e (F.Quoted t) = T.Quoted (text_of e t)
token_of e (F.Unquoted t) = T.Unquoted (text_of e t)
token_of e (F.Rgb r g b a) = T.Rgb (record { r = r; g = g; b = b; a = alpha_for a })

-- a token as a value, with the bytes that its text stands in
unfoldable pub value_of : List ℕ → Token → F.Value
value_of s T.Open = F.Open
value_of s T.Close = F.Close
value_of s T.Equal = F.Equal
value_of s (T.U32 n) = F.U32 n
value_of s (T.U64 n) = F.U64 n
value_of s (T.I32 z) = F.I32 z
value_of s (T.Bool b) = F.Truth b
value_of s (T.Quoted t) = F.Quoted (take t.len (drop t.start s))
value_of s (T.Unquoted t) = F.Unquoted (take t.len (drop t.start s))
value_of s (T.F32 n) = F.F32 n
value_of s (T.F64 n) = F.F64 n
value_of s (T.Rgb c) = colour_of c
value_of s (T.I64 z) = F.I64 z
value_of s (T.Lookup n) = F.Lookup n
value_of s (T.Id i) = F.Id i

-- the token at a place, and the place after it
unfoldable pub token_at : ByPlace Token
token_at s at' = placed token_of (at token s at')

abbrev pub token_answer : Result (Token × ℕ) LexError → Answer Token
token_answer = lexed_as (λ t. t)

-- what a payload's read answers, as a token: the value that it reads makes it, and its refusal stays
abbrev pub Makes : {V : Type 0} → (V → Token → Type 0) → Result (V × ℕ) Eof → Result (Token × ℕ) LexError → Type 0
Makes made (Ok x) r = (t : Token) × made x.0 t × (r ≡ Ok (t, x.1))
Makes made (Err e) r = r ≡ Err (Lacks e.0)
