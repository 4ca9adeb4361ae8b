-- Writing: what comes into an output with so much room, or why nothing does.
use Rattle.std.specs.Prelude.{ℕ, ◌≡◌, List, ◌++◌, length, drop, leb}
use Rattle.std.proofs.Math.Option.{Option, none, some}
use Rattle.form.specs.Numbers.{pick}
use Rattle.form.specs.Values.{Value}
use Rattle.form.specs.Refusals.{Refusal, NoRoom, TooLong}
use Rattle.form.specs.Spelling.{spell, reason}
use Rattle.form.specs.Shortest.{shortest, short_reason}
use Rattle.form.specs.Saves.{Walk, done, cut, then, walk, normal, shortened, LIMIT}

-- bytes over the front of what stood there
abbrev pub over : List ℕ → List ℕ → List ℕ
over bs old = bs ++ drop (length bs) old

-- the bytes written; or a refusal, which leaves the output unchanged
pub data Output : Type 0 where
  written : List ℕ → Output
  unwritten : Refusal → Output

-- what is answered: how many bytes were written, or the refusal
pub data Outcome : Type 0 where
  wrote : ℕ → Outcome
  declined : Refusal → Outcome

unfoldable pub outcome : Output → Outcome
outcome (written bs) = wrote (length bs)
outcome (unwritten r) = declined r

-- what the output holds then: the bytes written, and after them what stood there
unfoldable pub leaves : Output → List ℕ → List ℕ
leaves (written bs) out = over bs out
leaves (unwritten r) out = out

-- the answer a is given, and the output d has become d', as o says
pub record Follows (o : Output) (a : Outcome) (d d' : List ℕ) : Type 0 where
  pub answer : a ≡ outcome o
  pub output : d' ≡ leaves o d

-- bytes into an output with room for so many
unfoldable pub fitted : ℕ → List ℕ → Output
fitted room bs = pick (leb (length bs) room) (written bs) (unwritten (NoRoom (length bs)))

-- the same, unless it is refused
unfoldable pub unless : Option Refusal → Output → Output
unless none o = o
unless (some r) o = unwritten r

-- a token
unfoldable pub write : ℕ → Value → Output
write room v = unless (reason 0 v) (fitted room (spell v))

-- a token in its shortest spelling
unfoldable pub write_shortest : ℕ → Value → Output
write_shortest room v = unless (short_reason 0 v) (fitted room (shortest v))

-- the first of two refusals
abbrev pub first : Option Refusal → Option Refusal → Option Refusal
first none o = o
first (some r) o = some r

-- the first refusal of a save in file order: of reading, or of a token that cannot be written, by what says why
unfoldable pub first_refusal : (ℕ → Value → Option Refusal) → Walk → Option Refusal
first_refusal why done = none
first_refusal why (cut r) = some r
first_refusal why (then p n v w) = first (why p v) (first_refusal why w)

-- the bytes bs for a save
abbrev pub for_save : (ℕ → Value → Option Refusal) → List ℕ → ℕ → List ℕ → Output
for_save why bs room s = pick (leb (length s) LIMIT) (unless (first_refusal why (walk s)) (fitted room bs)) (unwritten (TooLong (length s)))

-- a save in normal form
unfoldable pub normalise : ℕ → List ℕ → Output
normalise room s = for_save reason (normal s) room s

-- a save in its shortest spelling
unfoldable pub shorten : ℕ → List ℕ → Output
shorten room s = for_save short_reason (shortened s) room s
