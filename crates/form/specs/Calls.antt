-- The lexer's calls: a reading or a skip from a cursor, with positions and the cursor that is left.
use Rattle.std.specs.Prelude.{ℕ, ◌+◌, Bool, List, length, leb, eqb}
use Rattle.std.proofs.Math.Option.{Option, none, some}
use Rattle.form.specs.Numbers.{pick, MAX}
use Rattle.form.specs.Refusals.{Refusal, BadPlace, refusal_at}
use Rattle.form.specs.Readers.{Answer, found, refused, ByPlace}
use Rattle.form.specs.Skipping.{Skip, past, stopped}

-- a place of the input, and the offset of the input's first byte in the file
pub record Cursor : Type 0 where
  pub at : ℕ
  pub offset : ℕ

-- the cursor at a place of an input that begins at an offset
abbrev pub cursor_in : ℕ → ℕ → Cursor
cursor_in o p = record { at = p; offset = o }

-- and of one that is the whole file
abbrev pub cursor_at : ℕ → Cursor
cursor_at p = cursor_in 0 p

-- the cursor of a new lexer
abbrev pub at_start : Cursor
at_start = cursor_at 0

-- the cursor at another place
abbrev pub moved_to : Cursor → ℕ → Cursor
moved_to c n = record { at = n; offset = c.offset }

-- the position in the file of the place n of the input: here alone the offset is added
abbrev pub position_of : Cursor → ℕ → ℕ
position_of c n = c.offset + n

-- every place of the input has a position of 64 bits
unfoldable pub fits : List ℕ → Cursor → Bool
fits s c = leb (position_of c (length s)) MAX

-- what a call answers, and the cursor after it; or its refusal, and the cursor that it leaves
pub data Call (A : Type 0) : Type 0 where
  gives : A → Cursor → Call A
  refuses : Refusal → Cursor → Call A

-- before anything else an offset that is too large is refused, and then a cursor past the input
unfoldable pub within : {A : Type 0} → List ℕ → Cursor → Call A → Call A
within s c x = pick (fits s c) (pick (leb c.at (length s)) x (refuses (BadPlace c.at) c)) (refuses (BadPlace c.offset) c)

-- `position`
unfoldable pub positions : List ℕ → Cursor → Call ℕ
positions s c = within s c (gives (position_of c c.at) c)

-- a refused read leaves the cursor where the call began, and that is the position
unfoldable pub ended : {A : Type 0} → Cursor → Answer A → Call A
ended c (found a n) = gives a (moved_to c n)
ended c (refused e) = refuses (refusal_at (position_of c c.at) e) c

-- `read_..`
unfoldable pub reads : {A : Type 0} → ByPlace A → List ℕ → Cursor → Call A
reads f s c = within s c (ended c (f s c.at))

unfoldable pub optional : {A : Type 0} → Call A → Call (Option A)
optional (gives a c) = gives (some a) c
optional (refuses r c) = refuses r c

-- `next_..`: at the end there is nothing
unfoldable pub nexts : {A : Type 0} → ByPlace A → List ℕ → Cursor → Call (Option A)
nexts f s c = within s c (pick (eqb c.at (length s)) (gives none c) (optional (ended c (f s c.at))))

unfoldable pub if_found : {A : Type 0} → Answer A → Option A
if_found (found a n) = some a
if_found (refused e) = none

-- `peek_..`: nothing where the read is refused, and nothing is moved
unfoldable pub peeks : {A : Type 0} → ByPlace A → List ℕ → Cursor → Call (Option A)
peeks f s c = within s c (gives (if_found (f s c.at)) c)

-- a skip leaves the cursor where it ended, refused or not, and that is the position
unfoldable pub landed : Cursor → Skip → Call (Unit {0})
landed c (past n) = gives tt (moved_to c n)
landed c (stopped e n) = refuses (refusal_at (position_of c n) e) (moved_to c n)

-- `skip_..`
unfoldable pub skips : (List ℕ → ℕ → Skip) → List ℕ → Cursor → Call (Unit {0})
skips f s c = within s c (landed c (f s c.at))
