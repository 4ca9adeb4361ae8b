-- The dump's text: a line for each token, and a last line with the counts or the refusal.
use Rattle.std.specs.Prelude.{ℕ, List, [], ◌∷◌, ◌++◌, length, leb}
use Prim.Native.String.{String}
use Rattle.std.proofs.Math.Option.{Option, none, some}
use Rattle.form.specs.Numbers.{pick, le_bytes}
use Rattle.form.specs.Values.{Value, Open, Close, Equal, U32, U64, F32, F64, Lookup, Id, I32, I64, Truth, Quoted, Unquoted, Rgb}
use Rattle.form.specs.Refusals.{Refusal, Eof, InvalidRgb, LongString, WideLookup, ReservedId, NoRoom, BufferTooSmall, ReadFailed, BadPlace, TooLong, ListFull, BadIndex, refusal_value}
use Rattle.form.specs.Saves.{Walk, done, cut, then, walk, LIMIT}
use Rattle.form.specs.Writing.{Output, unwritten, fitted}
use Rattle.form.specs.Keys.{Counts, counts}
use Rattle.form.specs.Ascii.{ascii, decimal, signed, hex, hex_or_dash, truth, line}

-- TokenKind's name, in lower case
unfoldable pub name : Value → String
name Open = "open"
name Close = "close"
name Equal = "equal"
name (U32 n) = "u32"
name (U64 n) = "u64"
name (F32 n) = "f32"
name (F64 n) = "f64"
name (Lookup n) = "lookup"
name (Id i) = "id"
name (I32 z) = "i32"
name (I64 z) = "i64"
name (Truth b) = "bool"
name (Quoted t) = "quoted"
name (Unquoted t) = "unquoted"
name (Rgb r g b a) = "rgb"

unfoldable pub alpha_words : Option ℕ → List (List ℕ)
alpha_words none = []
alpha_words (some a) = decimal a ∷ []

-- the words that show a value
unfoldable pub shown : Value → List (List ℕ)
shown Open = []
shown Close = []
shown Equal = []
shown (U32 n) = decimal n ∷ []
shown (U64 n) = decimal n ∷ []
shown (F32 n) = hex (le_bytes 4 n) ∷ []
shown (F64 n) = hex (le_bytes 8 n) ∷ []
shown (Lookup n) = decimal n ∷ []
shown (Id i) = decimal i ∷ []
shown (I32 z) = signed z ∷ []
shown (I64 z) = signed z ∷ []
shown (Truth b) = truth b ∷ []
shown (Quoted t) = hex_or_dash t ∷ []
shown (Unquoted t) = hex_or_dash t ∷ []
shown (Rgb r g b a) = decimal r ∷ decimal g ∷ decimal b ∷ alpha_words a

-- the line of a token at a position
unfoldable pub token_line : ℕ → Value → List ℕ
token_line p v = line (decimal p) (ascii (name v) ∷ shown v)

-- the counts, each with its word in front
unfoldable pub count_words : Counts → List (List ℕ)
count_words c =
    ascii "tokens" ∷ decimal c.tokens
    ∷ ascii "containers" ∷ decimal c.containers
    ∷ ascii "keys" ∷ decimal c.keys
    ∷ ascii "stray" ∷ decimal c.strays
    ∷ []

-- the last line of a save of n bytes that is read to its end
unfoldable pub end_line : ℕ → Counts → List ℕ
end_line n c = line (ascii "end") (decimal n ∷ count_words c)

-- the word for a refusal. No other is shown, and the others have none
unfoldable pub refusal_word : Refusal → String
refusal_word (Eof p m) = "eof"
refusal_word (InvalidRgb p) = "rgb"
refusal_word (LongString p) = ""
refusal_word (WideLookup p) = "wide"
refusal_word (ReservedId p) = ""
refusal_word (NoRoom n) = ""
refusal_word (BufferTooSmall p) = ""
refusal_word (ReadFailed p) = ""
refusal_word (BadPlace p) = ""
refusal_word (TooLong n) = ""
refusal_word (ListFull n) = ""
refusal_word BadIndex = ""

unfoldable pub error_line : Refusal → List ℕ
error_line r = line (ascii "error") (ascii (refusal_word r) ∷ decimal (refusal_value r) ∷ [])

-- the lines of a walk, with the last line of one that is read to its end
unfoldable pub lines_of : List ℕ → Walk → List ℕ
lines_of last done = last
lines_of last (cut r) = error_line r
lines_of last (then p n v w) = token_line p v ++ lines_of last w

unfoldable pub listing : List ℕ → List ℕ
listing s = lines_of (end_line (length s) (counts (walk s))) (walk s)

-- the dump of a save into an output with so much room
unfoldable pub list : ℕ → List ℕ → Output
list room s = pick (leb (length s) LIMIT) (fitted room (listing s)) (unwritten (TooLong (length s)))
