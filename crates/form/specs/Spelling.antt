-- Spelling: the bytes that Token::write gives a value, and which values can be written.
use Rattle.std.specs.Prelude.{ℕ, ◌^◌, ◌<◌, Bool, true, false, not, ◌&&◌, List, [], ◌++◌, length, ltb, eqb}
use Rattle.std.proofs.Math.Option.{Option, none, some}
use Rattle.std.specs.Int.{w32, w64}
use Rattle.std.proofs.Common.{of_z, SFits}
use Rattle.form.specs.Numbers.{pick, le_bytes, Bytes}
use Rattle.form.specs.Values.{Value, Open, Close, Equal, U32, U64, F32, F64, Lookup, Id, I32, I64, Truth, Quoted, Unquoted, Rgb, kind}
use Rattle.form.specs.Table.{is_some, reserved}
use Rattle.form.specs.Ids.{OPEN, CLOSE, CHANNEL}
use Rattle.form.specs.Refusals.{Refusal, LongString, WideLookup, ReservedId}

-- the id that Token::write gives. Where several ids have one payload, this is where one of them is chosen
unfoldable pub tag : Value → ℕ
tag Open = 0x0003
tag Close = 0x0004
tag Equal = 0x0001
tag (U32 n) = 0x0014
tag (U64 n) = 0x029c
tag (F32 n) = 0x000d
tag (F64 n) = 0x0167
tag (Lookup n) = 0x0d41
tag (Id i) = i
tag (I32 z) = 0x000c
tag (I64 z) = 0x0317
tag (Truth b) = 0x000e
tag (Quoted t) = 0x000f
tag (Unquoted t) = 0x0017
tag (Rgb r g b a) = 0x0243

-- a colour's channel
unfoldable pub spelled_channel : ℕ → List ℕ
spelled_channel n = le_bytes 2 CHANNEL ++ le_bytes 4 n

unfoldable pub spelled_alpha : Option ℕ → List ℕ
spelled_alpha none = []
spelled_alpha (some a) = spelled_channel a

abbrev pub bit : Bool → ℕ
bit false = 0
bit true = 1

-- what follows the id
unfoldable pub body : Value → List ℕ
body Open = []
body Close = []
body Equal = []
body (U32 n) = le_bytes 4 n
body (U64 n) = le_bytes 8 n
body (F32 n) = le_bytes 4 n
body (F64 n) = le_bytes 8 n
body (Lookup n) = le_bytes 3 n
body (Id i) = []
body (I32 z) = le_bytes 4 (of_z w32 z)
body (I64 z) = le_bytes 8 (of_z w64 z)
body (Truth b) = le_bytes 1 (bit b)
body (Quoted t) = le_bytes 2 (length t) ++ t
body (Unquoted t) = le_bytes 2 (length t) ++ t
body (Rgb r g b a) = le_bytes 2 OPEN ++ (spelled_channel r ++ (spelled_channel g ++ (spelled_channel b ++ (spelled_alpha a ++ le_bytes 2 CLOSE))))

unfoldable pub spell : Value → List ℕ
spell v = le_bytes 2 (tag v) ++ body v

-- ---- what can be written

-- why a value cannot be written, as the refusal of the token at position p: a string over 65,535 bytes, a lookup of 2 ^ 24 or more, a
-- reserved id in Id
unfoldable pub reason : ℕ → Value → Option Refusal
reason p Open = none
reason p Close = none
reason p Equal = none
reason p (U32 n) = none
reason p (U64 n) = none
reason p (F32 n) = none
reason p (F64 n) = none
reason p (Lookup n) = pick (ltb n (2 ^ 24)) none (some (WideLookup p))
reason p (Id i) = pick (reserved i) (some (ReservedId p)) none
reason p (I32 z) = none
reason p (I64 z) = none
reason p (Truth b) = none
reason p (Quoted t) = pick (ltb (length t) 65536) none (some (LongString p))
reason p (Unquoted t) = pick (ltb (length t) 65536) none (some (LongString p))
reason p (Rgb r g b a) = none

-- there is no reason why not
unfoldable pub writable : Value → Bool
writable v = not (is_some (reason 0 v))

-- a lookup that cannot be written
unfoldable pub wide : Value → Bool
wide v = eqb (kind v) (kind (Lookup 0)) && not (writable v)

-- ---- what the types of the code say of a token's numbers and text

abbrev pub InTypeAlpha : Option ℕ → Type 0
InTypeAlpha none = Unit {0}
InTypeAlpha (some a) = a < 2 ^ 32

abbrev pub InType : Value → Type 0
InType Open = Unit {0}
InType Close = Unit {0}
InType Equal = Unit {0}
InType (U32 n) = n < 2 ^ 32
InType (U64 n) = n < 2 ^ 64
InType (F32 n) = n < 2 ^ 32
InType (F64 n) = n < 2 ^ 64
InType (Lookup n) = n < 2 ^ 32
InType (Id i) = i < 2 ^ 16
InType (I32 z) = SFits w32 z
InType (I64 z) = SFits w64 z
InType (Truth b) = Unit {0}
InType (Quoted t) = Bytes t
InType (Unquoted t) = Bytes t
InType (Rgb r g b a) = (r < 2 ^ 32) × (g < 2 ^ 32) × (b < 2 ^ 32) × InTypeAlpha a
