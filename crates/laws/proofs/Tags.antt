-- The ids that the definition names outside the table are ids of the table, with the payload that goes with them. Assumes nothing.
use mathlib.Core.Path.{◌≡◌, refl}
use mathlib.Core.Bool.{Bool, true, false, not}
use mathlib.Core.Option.{none, some}
use lib.Dec.{T}
use Rattle.form.specs.Numbers.{pick}
use Rattle.form.specs.Values.{Value, Open, Close, Equal, U32, U64, F32, F64, Lookup, Id, I32, I64, Truth, Quoted, Unquoted, Rgb, signed32, signed64, nonzero}
use Rattle.form.specs.Table.{Payload, number, text, colour, nothing, table, entries, find, or_plain, after, is_some, reserved}
use Rattle.form.specs.Ids.{OPEN, CLOSE, CHANNEL}
use Rattle.form.specs.Refusals.{Refusal}
use Rattle.form.specs.Spelling.{tag, reason, writable}
use Rattle.laws.proofs.Lookups.{plain-after}

-- the payload that a value is written with
abbrev pub written_with : Value → Payload
written_with Open = nothing Open
written_with Close = nothing Close
written_with Equal = nothing Equal
written_with (U32 n) = number 4 U32
written_with (U64 n) = number 8 U64
written_with (F32 n) = number 4 F32
written_with (F64 n) = number 8 F64
written_with (Lookup n) = number 3 Lookup
written_with (Id i) = nothing (Id i)
written_with (I32 z) = number 4 signed32
written_with (I64 z) = number 8 signed64
written_with (Truth b) = number 1 nonzero
written_with (Quoted t) = text Quoted
written_with (Unquoted t) = text Unquoted
written_with (Rgb r g b a) = colour

pub unreserved : (b : Bool) (r : Refusal) → T (not (is_some (pick b (some r) none))) → b ≡ false
unreserved true r t = absurd t
unreserved false r t = refl

-- so the table says of the id that Token::write gives
pub tag-in-table : (v : Value) → T (writable v) → after (tag v) ≡ written_with v
unfolding tag reason writable after find entries table or_plain
tag-in-table Open w = refl
tag-in-table Close w = refl
tag-in-table Equal w = refl
tag-in-table (U32 n) w = refl
tag-in-table (U64 n) w = refl
tag-in-table (F32 n) w = refl
tag-in-table (F64 n) w = refl
tag-in-table (Lookup n) w = refl
tag-in-table (Id i) w = plain-after i (unreserved (reserved i) _ w)
tag-in-table (I32 z) w = refl
tag-in-table (I64 z) w = refl
tag-in-table (Truth b) w = refl
tag-in-table (Quoted t) w = refl
tag-in-table (Unquoted t) w = refl
tag-in-table (Rgb r g b a) w = refl

-- and of those that a container and a colour are told by
pub marks-in-table : (after OPEN ≡ nothing Open) × (after CLOSE ≡ nothing Close) × (after CHANNEL ≡ number 4 U32)
unfolding OPEN CLOSE CHANNEL after find entries table or_plain
marks-in-table = (refl, refl, refl)
