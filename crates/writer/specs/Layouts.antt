-- No public promise goes through this file. The layout of a token, what it spells, and what writing it gives: the code's way to `write_token`.
use Rattle.std.specs.Prelude.{ℕ, ◌^◌, ◌≡◌, List, ◌++◌, length, ltb, Result, Option as MayBe}
use Rattle.std.proofs.Math.Option.{Option, none, some}
use Rattle.form.specs.Numbers.{pick, le_bytes, negated}
use Rattle.form.specs.Table.{reserved}
use Rattle.form.specs.Ids.{OPEN, CLOSE}
use Rattle.form.specs.Refusals.{Refusal, LongString, WideLookup, ReservedId}
use Rattle.form.specs.Spelling.{spelled_channel, spelled_alpha}
use Rattle.form.specs.Writing.{Output, outcome, fitted, unless}
use Rattle.payload.specs.declared.answers.Rgb.{Rgb as Colour}
use Rattle.payload.specs.Answers.{alpha_of}
use Rattle.token.specs.declared.Token.{Token}
use Rattle.payload.specs.Texts.{part_of}
use Rattle.token.specs.Texts.{place_of}
use Rattle.writer.specs.declared.WriteError.{WriteError}
use Rattle.writer.specs.Writes.{write_token, write_shortest_token, wrote_outcome}
use Rattle.writer.specs.declared.layout.Layout.{Layout}
use Rattle.writer.specs.declared.layout.Layout.TheVariants.{Number, Text, Empty, Lookup, Rgb, Id}

-- an id and a number of w bytes
abbrev pub id_number : ℕ → ℕ → ℕ → List ℕ
id_number i w n = le_bytes 2 i ++ le_bytes w n

-- an id, and a text after its length
abbrev pub id_text : ℕ → List ℕ → List ℕ
id_text i t = le_bytes 2 i ++ (le_bytes 2 (length t) ++ t)

-- a colour's end; its channels and its end; and all of it
abbrev pub colour_end : MayBe ℕ → List ℕ
colour_end a = spelled_alpha (alpha_of a) ++ le_bytes 2 CLOSE

abbrev pub channels : Colour → List ℕ
channels c = spelled_channel c.r ++ (spelled_channel c.g ++ (spelled_channel c.b ++ colour_end c.a))

abbrev pub id_colour : Colour → List ℕ
id_colour c = le_bytes 2 0x0243 ++ (le_bytes 2 OPEN ++ channels c)

unfoldable pub spelled_by : List ℕ → Layout → List ℕ
spelled_by s (Number i w n) = id_number i.0 w n
spelled_by s (Text i t) = id_text i.0 (part_of s t)
spelled_by s (Empty t) = le_bytes 2 0x0d42
spelled_by s (Lookup n) = id_number 0x0d41 3 n
spelled_by s (Rgb c) = id_colour c
spelled_by s (Id i) = le_bytes 2 i

unfoldable pub misplaced_by : List ℕ → Layout → Option Refusal
misplaced_by s (Number i w n) = none
misplaced_by s (Text i t) = place_of s t
misplaced_by s (Empty t) = place_of s t
misplaced_by s (Lookup n) = none
misplaced_by s (Rgb c) = none
misplaced_by s (Id i) = none

unfoldable pub reason_by : Layout → Option Refusal
reason_by (Number i w n) = none
reason_by (Text i t) = pick (ltb t.len 65536) none (some (LongString 0))
reason_by (Empty t) = none
reason_by (Lookup n) = pick (ltb n (2 ^ 24)) none (some (WideLookup 0))
reason_by (Rgb c) = none
reason_by (Id i) = pick (reserved i) (some (ReservedId 0)) none

-- a layout into an output with so much room
unfoldable pub write_by : ℕ → List ℕ → Layout → Output
write_by room s p = unless (misplaced_by s p) (unless (reason_by p) (fitted room (spelled_by s p)))

-- r is the answer for a layout that has no text, whatever the bytes are
abbrev pub Judged : ℕ → Layout → Result ℕ WriteError → Type 0
Judged room p r = (s : List ℕ) → wrote_outcome r ≡ outcome (write_by room s p)

-- a token has such a layout that writing it is writing the token
abbrev pub LaysOut : Token → Layout → Type 0
LaysOut t p = (room : ℕ) (s : List ℕ) → write_by room s p ≡ write_token room s t

-- or writing its shortest spelling
abbrev pub LaysOutShortest : Token → Layout → Type 0
LaysOutShortest t p = (room : ℕ) (s : List ℕ) → write_by room s p ≡ write_shortest_token room s t

-- a float below 2 ^ 63 is its magnitude; from there on it is the negation of it
abbrev pub magnitude : ℕ → ℕ
magnitude x = pick (ltb x (2 ^ 63)) x (negated x)

-- the number before the ids of its sign
abbrev pub before_ids : ℕ → ℕ
before_ids x = pick (ltb x (2 ^ 63)) 0x0d47 0x0d4e
