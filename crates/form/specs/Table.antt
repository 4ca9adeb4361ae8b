-- The table of ids, row by row as docs/FORMAT.md has it, and in its order; what a row says there stands above it.
use Rattle.std.specs.Prelude.{ℕ, zero, suc, ◌+◌, ◌-◌, Bool, true, false, ◌&&◌, ◌||◌, List, [], ◌∷◌, ◌++◌, leb, eqb}
use Rattle.std.proofs.Math.Option.{Option, none, some}
use Rattle.form.specs.Numbers.{pick}
use Rattle.form.specs.Values.{Value, Open, Close, Equal, U32, U64, F32, F64, Lookup, Id, Quoted, Unquoted, signed32, signed64, nonzero, negative}

-- what follows an id: w bytes that spell a number n, for the value f n; or two bytes that spell a length and so many bytes of text t,
-- for the value f t; or a colour
pub data Payload : Type 0 where
  number : ℕ → (ℕ → Value) → Payload
  text : (List ℕ → Value) → Payload
  colour : Payload

-- nothing follows
abbrev pub nothing : Value → Payload
nothing v = number 0 (λ _. v)

-- ids with one payload; or the ids from one to another, with a payload for each
pub data Entry : Type 0 where
  ◌is◌ : List ℕ → Payload → Entry
  ◌to◌is◌ : ℕ → ℕ → (ℕ → Payload) → Entry

infix 70 ◌is◌
infix 70 ◌to◌is◌
-- one id
abbrev pub id : ℕ → List ℕ
id i = i ∷ []

-- ---- the rows: `id 0x0014 is number 4 U32` says that after the id 0014 come 4 bytes, and the token is U32 of the number that they spell

-- | 0001, 0003, 0004 | Equal, Open, Close | none |
abbrev pub marks : List Entry
marks = id 0x0001 is nothing Equal ∷ id 0x0003 is nothing Open ∷ id 0x0004 is nothing Close ∷ []

-- | 0014, 000c, 000d | U32, I32, F32 | 4 |
abbrev pub fours : List Entry
fours = id 0x0014 is number 4 U32 ∷ id 0x000c is number 4 signed32 ∷ id 0x000d is number 4 F32 ∷ []

-- | 029c, 0317, 0167 | U64, I64, F64 | 8 |
abbrev pub eights : List Entry
eights = id 0x029c is number 8 U64 ∷ id 0x0317 is number 8 signed64 ∷ id 0x0167 is number 8 F64 ∷ []

-- | 000e | Bool | 1; nonzero is true |
abbrev pub truths : List Entry
truths = id 0x000e is number 1 nonzero ∷ []

-- | 000f / 0017, 0d5e | Quoted / Unquoted | 2-byte length, text |
abbrev pub texts : List Entry
texts = id 0x000f is text Quoted ∷ (0x0017 ∷ 0x0d5e ∷ []) is text Unquoted ∷ []

-- | 0d42 | Quoted, empty | none |
abbrev pub empty : List Entry
empty = id 0x0d42 is nothing (Quoted []) ∷ []

-- | 0243 | Rgb | below |
abbrev pub colours : List Entry
colours = id 0x0243 is colour ∷ []

-- | 0d40, 0d43, 0d5a | Lookup | 1 |
abbrev pub lookups1 : List Entry
lookups1 = (0x0d40 ∷ 0x0d43 ∷ 0x0d5a ∷ []) is number 1 Lookup ∷ []

-- | 0d3e, 0d44, 0d5b | Lookup | 2 |
abbrev pub lookups2 : List Entry
lookups2 = (0x0d3e ∷ 0x0d44 ∷ 0x0d5b ∷ []) is number 2 Lookup ∷ []

-- | 0d41, 0d45, 0d5c | Lookup | 3 |
abbrev pub lookups3 : List Entry
lookups3 = (0x0d41 ∷ 0x0d45 ∷ 0x0d5c ∷ []) is number 3 Lookup ∷ []

-- | 0d3f, 0d46, 0d5d | Lookup | 4 |
abbrev pub lookups4 : List Entry
lookups4 = (0x0d3f ∷ 0x0d46 ∷ 0x0d5d ∷ []) is number 4 Lookup ∷ []

-- | 0d47 to 0d4e | F64, compact | 0 to 7 |
abbrev pub compact : List Entry
compact = 0x0d47 to 0x0d4e is (λ i. number (i - 0x0d47) F64) ∷ []

-- | 0d4f to 0d55 | F64, compact, negated | 1 to 7 |
abbrev pub compact_negated : List Entry
compact_negated = 0x0d4f to 0x0d55 is (λ i. number (i - 0x0d4e) negative) ∷ []

-- | any other | Id | none | is `or_plain`, below
unfoldable pub table : List (List Entry)
table =
    marks
    ∷ fours
    ∷ eights
    ∷ truths
    ∷ texts
    ∷ empty
    ∷ colours
    ∷ lookups1
    ∷ lookups2
    ∷ lookups3
    ∷ lookups4
    ∷ compact
    ∷ compact_negated
    ∷ []

-- ---- looking an id up

abbrev pub joined : List (List Entry) → List Entry
joined [] = []
joined (r ∷ rs) = r ++ joined rs

unfoldable pub entries : List Entry
entries = joined table

abbrev pub among : ℕ → List ℕ → Bool
among i [] = false
among i (k ∷ ks) = eqb i k || among i ks

-- what the first entry that has i says of it
unfoldable pub find : List Entry → ℕ → Option Payload
find [] i = none
find (ks is p ∷ es) i = pick (among i ks) (some p) (find es i)
find (lo to hi is p ∷ es) i = pick (leb lo i && leb i hi) (some (p i)) (find es i)

-- any other id is a plain one
unfoldable pub or_plain : ℕ → Option Payload → Payload
or_plain i none = nothing (Id i)
or_plain i (some p) = p

-- what follows the id i
unfoldable pub after : ℕ → Payload
after i = or_plain i (find entries i)

-- there is one
abbrev pub is_some : {A : Type 0} → Option A → Bool
is_some none = false
is_some (some a) = true

-- the table has the id
unfoldable pub reserved : ℕ → Bool
reserved i = is_some (find entries i)

-- ---- the reserved ids

-- n ids from i on
abbrev pub run : ℕ → ℕ → List ℕ
run zero i = []
run (suc n) i = i ∷ run n (i + 1)

abbrev pub ids : List Entry → List ℕ
ids [] = []
ids (ks is p ∷ es) = ks ++ ids es
ids (lo to hi is p ∷ es) = run (hi - lo + 1) lo ++ ids es

-- all of them, in the table's order
unfoldable pub reserved_ids : List ℕ
reserved_ids = ids entries
