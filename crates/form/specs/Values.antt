-- What a token says.
use Rattle.std.specs.Prelude.{ℕ, Bool, not, List, eqb, ℤ}
use Rattle.std.proofs.Math.Option.{Option}
use Rattle.std.specs.Int.{w32, w64}
use Rattle.std.proofs.Common.{to_z}
use Rattle.form.specs.Numbers.{negated}

-- F32 and F64 are the numbers that their bytes spell; a text is its bytes; a colour is red, green, blue and, where there is one, alpha
pub data Value : Type 0 where
  Open Close Equal : Value
  U32 U64 F32 F64 Lookup Id : ℕ → Value
  I32 I64 : ℤ → Value
  Truth : Bool → Value
  Quoted Unquoted : List ℕ → Value
  Rgb : ℕ → ℕ → ℕ → Option ℕ → Value

-- the value of a number read: in two's complement, as a truth, and negated
abbrev pub signed32 : ℕ → Value
signed32 n = I32 (to_z w32 n)

abbrev pub signed64 : ℕ → Value
signed64 n = I64 (to_z w64 n)

abbrev pub nonzero : ℕ → Value
nonzero n = Truth (not (eqb n 0))

abbrev pub negative : ℕ → Value
negative n = F64 (negated n)

-- the number of a value's kind: its place in the original's TokenKind
unfoldable pub kind : Value → ℕ
kind Open = 0
kind Close = 1
kind Equal = 2
kind (U32 n) = 3
kind (U64 n) = 4
kind (I32 z) = 5
kind (Truth b) = 6
kind (Quoted t) = 7
kind (Unquoted t) = 8
kind (F32 n) = 9
kind (F64 n) = 10
kind (Rgb r g b a) = 11
kind (I64 z) = 12
kind (Lookup n) = 13
kind (Id i) = 14
