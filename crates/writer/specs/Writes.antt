-- Writing a token: the text of a string must lie within the bytes handed with it.
use Rattle.std.specs.Prelude.{ℕ, ◌≡◌, List, length, Result}
use Rattle.std.proofs.Math.Option.{Option, none}
use Rattle.form.specs.Refusals as R
use Rattle.form.specs.Writing.{Output, Outcome, outcome, fitted, unless, write, write_shortest}
use Rattle.payload.specs.Answers.{outcome_as}
use Rattle.token.specs.declared.Token.{Token}
use Rattle.token.specs.declared.Token.TheVariants.{Open, Close, Equal, U32, U64, I32, Bool, Quoted, Unquoted, F32, F64, Rgb, I64, Lookup, Id}
use Rattle.token.specs.Tokens.{value_of}
use Rattle.token.specs.Texts.{place_of}
use Rattle.writer.specs.declared.WriteError.{WriteError}
use Rattle.writer.specs.declared.WriteError.TheVariants.{LongString, WideLookup, ReservedId, NoRoom, BadPlace}

-- the refusal of a string whose text does not lie within the bytes
unfoldable pub misplaced : List ℕ → Token → Option R.Refusal
misplaced s Open = none
misplaced s Close = none
misplaced s Equal = none
misplaced s (U32 n) = none
misplaced s (U64 n) = none
misplaced s (I32 z) = none
misplaced s (Bool b) = none
misplaced s (Quoted t) = place_of s t
misplaced s (Unquoted t) = place_of s t
misplaced s (F32 n) = none
misplaced s (F64 n) = none
misplaced s (Rgb c) = none
misplaced s (I64 z) = none
misplaced s (Lookup n) = none
misplaced s (Id i) = none

-- a token into an output with so much room
unfoldable pub write_token : ℕ → List ℕ → Token → Output
write_token room s t = unless (misplaced s t) (write room (value_of s t))

-- a token in its shortest spelling
unfoldable pub write_shortest_token : ℕ → List ℕ → Token → Output
write_shortest_token room s t = unless (misplaced s t) (write_shortest room (value_of s t))

abbrev pub write_refusal : WriteError → R.Refusal
write_refusal (LongString p) = R.LongString p
write_refusal (WideLookup p) = R.WideLookup p
write_refusal (ReservedId p) = R.ReservedId p
write_refusal (NoRoom n) = R.NoRoom n
write_refusal (BadPlace p) = R.BadPlace p

abbrev pub wrote_outcome : Result ℕ WriteError → Outcome
wrote_outcome = outcome_as write_refusal

-- what is answered of any bytes of this number
abbrev pub Fitted : ℕ → ℕ → Result ℕ WriteError → Type 0
Fitted need room r = (bs : List ℕ) → length bs ≡ need → wrote_outcome r ≡ outcome (fitted room bs)
