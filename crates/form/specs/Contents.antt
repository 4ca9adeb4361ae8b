-- A table of contents: the entries of a save, which of them holds a position, and the file that keeps them.
use Rattle.std.specs.Prelude.{ℕ, zero, suc, ◌+◌, ◌-◌, ◌*◌, ◌/◌, ◌%◌, Bool, true, ◌&&◌, List, [], ◌∷◌, ◌++◌, reverse, length, take, drop, get_or, leb, ltb, eqb}
use Rattle.std.proofs.Math.Option.{Option, none, some}
use Rattle.form.specs.Numbers.{pick, le, le_bytes}
use Rattle.form.specs.Values.{Value}
use Rattle.form.specs.Refusals.{Refusal, ListFull, BadIndex, TooLong}
use Rattle.form.specs.Spelling.{bit}
use Rattle.form.specs.Saves.{walk, LIMIT}
use Rattle.form.specs.Writing.{over, Output, unwritten, fitted, Outcome, wrote, declined}
use Rattle.form.specs.Keys.{keys_of}
use Rattle.form.specs.Finding.{cut_by}

-- ---- the entries of a save

-- where an entry begins, and the place after it
pub record Entry : Type 0 where
  pub start : ℕ
  pub end : ℕ

abbrev pub span : ℕ → ℕ → Entry
span a b = record { start = a; end = b }

-- where the first of some keys stands; if there is none, the end
abbrev pub first_or : ℕ → List (ℕ × Value) → ℕ
first_or end [] = end
first_or end ((p, v) ∷ l) = p

-- an entry for each key: up to the next one, or to the end
unfoldable pub entries_to : ℕ → List (ℕ × Value) → List Entry
entries_to end [] = []
entries_to end ((p, v) ∷ l) = span p (first_or end l) ∷ entries_to end l

unfoldable pub contents : List ℕ → List Entry
contents s = entries_to (length s) (keys_of (walk s))

-- ---- a list in order: each start is below its end, and each end is the next start

-- the next start, if there is one, is e
abbrev pub goes_on_at : ℕ → List Entry → Bool
goes_on_at e [] = true
goes_on_at e (x ∷ l) = eqb x.start e

unfoldable pub in_order : List Entry → Bool
in_order [] = true
in_order (x ∷ l) = ltb x.start x.end && goes_on_at x.end l && in_order l

-- ---- which entry holds a position, by its number from 0

unfoldable pub holds_at : ℕ → Entry → Bool
holds_at p x = leb x.start p && ltb p x.end

-- the same, one further on
abbrev pub one_on : Option ℕ → Option ℕ
one_on none = none
one_on (some i) = some (i + 1)

-- of a list: the first that holds it
unfoldable pub holder : ℕ → List Entry → Option ℕ
holder p [] = none
holder p (x ∷ l) = pick (holds_at p x) (some 0) (one_on (holder p l))

-- how many of some keys stand at the position or before it
unfoldable pub keys_up_to : ℕ → List (ℕ × Value) → ℕ
keys_up_to p [] = 0
keys_up_to p ((q, v) ∷ l) = bit (leb q p) + keys_up_to p l

-- the number of the last of so many
abbrev pub last_of : ℕ → Option ℕ
last_of zero = none
last_of (suc n) = some n

-- of a save, by its walk: the last key up to the position, which lies before the save's end
unfoldable pub holder_in : ℕ → List ℕ → Option ℕ
holder_in p s = pick (ltb p (length s)) (last_of (keys_up_to p (keys_of (walk s)))) none

-- ---- lists of numbers: an entry is two, its start and its end

unfoldable pub flat : List Entry → List ℕ
flat [] = []
flat (x ∷ l) = x.start ∷ x.end ∷ flat l

-- an entry in front of others, if there are
abbrev pub in_front : Entry → Option (List Entry) → Option (List Entry)
in_front x none = none
in_front x (some l) = some (x ∷ l)

-- the entries of a list of numbers; none of a list of an odd number of them
unfoldable pub paired : List ℕ → Option (List Entry)
paired [] = some []
paired (a ∷ []) = none
paired (a ∷ b ∷ l) = in_front (span a b) (paired l)

-- ---- the calls

-- the entries that come to the front of a list; or a refusal, which leaves the list unchanged
pub data Filling : Type 0 where
  filled : List Entry → Filling
  unfilled : Refusal → Filling

-- what is answered: how many entries, or the refusal
unfoldable pub filling_outcome : Filling → Outcome
filling_outcome (filled l) = wrote (length l)
filling_outcome (unfilled r) = declined r

-- what a list of numbers holds then, and a list of entries: those that came, and after them what stood there
unfoldable pub numbers_left : Filling → List ℕ → List ℕ
numbers_left (filled l) d = over (flat l) d
numbers_left (unfilled r) d = d

unfoldable pub entries_left : Filling → List Entry → List Entry
entries_left (filled l) d = l ++ drop (length l) d
entries_left (unfilled r) d = d

-- into a list with room for so many
unfoldable pub room_for : ℕ → List Entry → Filling
room_for room l = pick (leb (length l) room) (filled l) (unfilled (ListFull (length l)))

-- the same, unless it is refused
unfoldable pub unless_cut : Option Refusal → Filling → Filling
unless_cut none x = x
unless_cut (some r) x = unfilled r

-- the contents of a save
unfoldable pub fill : ℕ → List ℕ → Filling
fill room s = pick (leb (length s) LIMIT) (unless_cut (cut_by (walk s)) (room_for room (contents s))) (unfilled (TooLong (length s)))

-- the entry that holds a position; that none does; or a refusal
pub data Search : Type 0 where
  held : ℕ → Search
  nowhere : Search
  unsearched : Refusal → Search

abbrev pub or_nowhere : Option ℕ → Search
or_nowhere none = nowhere
or_nowhere (some i) = held i

unfoldable pub search : List Entry → ℕ → Search
search l p = pick (in_order l) (or_nowhere (holder p l)) (unsearched BadIndex)

-- of a list of numbers: as of its entries, and one of an odd number of them is out of order
abbrev pub by_pairs : {A : Type 0} → A → (List Entry → A) → Option (List Entry) → A
by_pairs bad f none = bad
by_pairs bad f (some l) = f l

unfoldable pub search_numbers : List ℕ → ℕ → Search
search_numbers ns p = by_pairs (unsearched BadIndex) (λ l. search l p) (paired ns)

-- ---- the file

-- a number of four bytes, the highest byte first: little-endian, turned round
unfoldable pub big : ℕ → List ℕ
big n = reverse (le_bytes 4 n)

-- the number that bytes spell, the highest byte first
unfoldable pub big_number : List ℕ → ℕ
big_number s = le (reverse s)

abbrev pub VERSION : ℕ
VERSION = 1

-- numbers in order, each by four bytes
unfoldable pub big_all : List ℕ → List ℕ
big_all [] = []
big_all (n ∷ l) = big n ++ big_all l

-- the version, the number of bytes that follow, and the entries
unfoldable pub file : List Entry → List ℕ
file l = VERSION ∷ (big (8 * length l) ++ big_all (flat l))

-- so many entries that no number of four bytes counts their bytes
abbrev pub MANY : ℕ
MANY = 536870912

unfoldable pub write_file : ℕ → List Entry → Output
write_file room l = pick (in_order l) (pick (leb MANY (length l)) (unwritten (TooLong (length l))) (fitted room (file l))) (unwritten BadIndex)

unfoldable pub write_numbers : ℕ → List ℕ → Output
write_numbers room ns = by_pairs (unwritten BadIndex) (write_file room) (paired ns)

-- n entries, by eight bytes each
unfoldable pub entries_in : ℕ → List ℕ → List Entry
entries_in zero s = []
entries_in (suc n) s = span (big_number (take 4 s)) (big_number (take 4 (drop 4 s))) ∷ entries_in n (drop 8 s)

-- the entries of a file, if it is one
unfoldable pub entries_of : List ℕ → List Entry
entries_of s = entries_in ((length s - 5) / 8) (drop 5 s)

-- five bytes and more, the version, the number of bytes that follow, a multiple of 8, and entries in order
unfoldable pub is_file : List ℕ → Bool
is_file s =
    leb 5 (length s) && eqb (get_or s 0 0) VERSION && eqb (big_number (take 4 (drop 1 s))) (length s - 5) && eqb ((length s - 5) % 8) 0 && in_order (entries_of s)

unfoldable pub read_file : ℕ → List ℕ → Filling
read_file room s = pick (is_file s) (room_for room (entries_of s)) (unfilled BadIndex)
