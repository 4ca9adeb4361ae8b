-- The numbers of the kinds.
use Rattle.std.specs.Prelude.{ℕ}
use Rattle.form.specs.Values.{kind}
use Rattle.form.specs.Table.{Payload, after}
use Rattle.form.specs.Ids.{sample}
use Rattle.lexeme.specs.declared.TokenKind.{TokenKind}
use Rattle.lexeme.specs.declared.TokenKind.TheVariants.{Open, Close, Equal, U32, U64, I32, Bool as BoolKind, Quoted, Unquoted, F32, F64, Rgb, I64, Lookup, Id}

-- the number of the kind of any value that may follow an id
abbrev pub kind_by : Payload → ℕ
kind_by p = kind (sample p)

abbrev pub kind_at : ℕ → ℕ
kind_at i = kind_by (after i)

-- of the code's kinds: a kind's place in the original's TokenKind
abbrev pub kind_number : TokenKind → ℕ
kind_number Open = 0
kind_number Close = 1
kind_number Equal = 2
kind_number U32 = 3
kind_number U64 = 4
kind_number I32 = 5
kind_number BoolKind = 6
kind_number Quoted = 7
kind_number Unquoted = 8
kind_number F32 = 9
kind_number F64 = 10
kind_number Rgb = 11
kind_number I64 = 12
kind_number Lookup = 13
kind_number Id = 14
