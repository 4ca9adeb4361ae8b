-- Finding a key: the first position at which a plain id is one.
use Rattle.std.specs.Prelude.{ℕ, Bool, ◌&&◌, List, [], ◌∷◌, length, drop, eqb}
use Rattle.std.proofs.Math.Option.{Option, none, some}
use Rattle.form.specs.Numbers.{pick}
use Rattle.form.specs.Values.{Value, Id, kind}
use Rattle.form.specs.Refusals.{Refusal}
use Rattle.form.specs.Spelling.{tag}
use Rattle.form.specs.Saves.{Walk, done, cut, then, walk_f}
use Rattle.form.specs.Calls.{Cursor, position_of, Call, gives, refuses, within}
use Rattle.form.specs.Keys.{keys_of}

-- ---- the full answer, over a walk

-- the token is the plain id i
unfoldable pub is_plain : ℕ → Value → Bool
is_plain i v = eqb (kind v) (kind (Id i)) && eqb (tag v) i

-- the position of the first token that is the plain id i
unfoldable pub first_plain : ℕ → List (ℕ × Value) → Option ℕ
first_plain i [] = none
first_plain i ((p, v) ∷ l) = pick (is_plain i v) (some p) (first_plain i l)

-- the refusal that ended a walk, if one did
unfoldable pub cut_by : Walk → Option Refusal
cut_by done = none
cut_by (cut r) = some r
cut_by (then p n v w) = cut_by w

-- a key's position; that there is none such, and all was read; or that there is none before a refusal
pub data Sought : Type 0 where
  key_at : ℕ → Sought
  absent : Sought
  not_before : Refusal → Sought

-- the first that is there: a position, a refusal, or neither
unfoldable pub firstly : Option ℕ → Option Refusal → Sought
firstly (some p) r = key_at p
firstly none (some r) = not_before r
firstly none none = absent

-- of the keys before a refusal, the first that is the plain id i
unfoldable pub sought : ℕ → Walk → Sought
sought i w = firstly (first_plain i (keys_of w)) (cut_by w)

-- ---- the call

-- the cursor stays
unfoldable pub staying : Cursor → Sought → Call (Option ℕ)
staying c (key_at p) = gives (some p) c
staying c absent = gives none c
staying c (not_before r) = refuses r c

-- the walk that begins at a cursor
unfoldable pub walk_at : List ℕ → Cursor → Walk
walk_at s c = walk_f (length s) (position_of c c.at) (drop c.at s)

-- `find_key`
unfoldable pub finds : ℕ → List ℕ → Cursor → Call (Option ℕ)
finds i s c = within s c (staying c (sought i (walk_at s c)))
