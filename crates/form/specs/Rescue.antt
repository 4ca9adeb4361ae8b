-- Rescue: what is kept of a clipped save, the Closes that it lacks, and what is told of both.
use Rattle.std.specs.Prelude.{ℕ, ◌+◌, ◌-◌, Bool, ◌&&◌, List, [], ◌∷◌, ◌++◌, length, take, drop, replicate, leb, eqb}
use Rattle.std.proofs.Math.Option.{Option, none, some}
use Rattle.form.specs.Numbers.{pick}
use Rattle.form.specs.Values.{Value, Close}
use Rattle.form.specs.Refusals.{TooLong}
use Rattle.form.specs.Spelling.{spell}
use Rattle.form.specs.Saves.{Walk, done, cut, then, walk, whole, tokens, spell_all, LIMIT}
use Rattle.form.specs.Writing.{Output, written, unwritten, fitted}
use Rattle.form.specs.Keys.{Around, at_top, deeper, is_stray, count}

-- how many containers are open after tokens that began at depth d
unfoldable pub open_after : ℕ → List Value → ℕ
open_after d [] = d
open_after d (v ∷ vs) = open_after (deeper v d) vs

-- where a walk from place p ended: at the end, or where the refused token begins
unfoldable pub read_to : ℕ → Walk → ℕ
read_to p done = p
read_to p (cut r) = p
read_to p (then q n v w) = read_to (q + n) w

-- a token at depth d, for a test that asks for no more
abbrev pub at_depth : ℕ → Around
at_depth d = record { before = none; depth = d }

-- the own bytes of the tokens of a walk that begins at depth d, without strays
unfoldable pub kept_of : List ℕ → ℕ → Walk → List ℕ
kept_of s d done = []
kept_of s d (cut r) = []
kept_of s d (then p n v w) = pick (is_stray (at_depth d) v w) [] (take n (drop p s)) ++ kept_of s (deeper v d) w

-- ---- the rescued save

-- as many Closes as there are open containers
unfoldable pub closes : ℕ → List ℕ
closes k = spell_all spell (replicate k Close)

unfoldable pub rescued : List ℕ → List ℕ
rescued s = kept_of s 0 (walk s) ++ closes (open_after 0 (tokens s))

-- the bytes cut at the end, the strays left out, the Closes added
pub record Report : Type 0 where
  pub cut_off : ℕ
  pub strays : ℕ
  pub added : ℕ

unfoldable pub report : List ℕ → Report
report s = record {
  cut_off = length s - read_to 0 (walk s);
  strays = count is_stray at_top (walk s);
  added = open_after 0 (tokens s);
}

-- into an output with room for so many bytes
unfoldable pub rescue : ℕ → List ℕ → Output
rescue room s = pick (leb (length s) LIMIT) (fitted room (rescued s)) (unwritten (TooLong (length s)))

unfoldable pub if_written : {A : Type 0} → Output → A → Option A
if_written (written bs) a = some a
if_written (unwritten r) a = none

-- what is told with it: nothing with a refusal
unfoldable pub told : ℕ → List ℕ → Option Report
told room s = if_written (rescue room s) (report s)

-- ---- what a rescued save is

-- it reads to its end
unfoldable pub readable : List ℕ → Bool
readable s = whole (walk s)

-- no Close is a stray, and each container has its own
unfoldable pub balanced : List ℕ → Bool
balanced s = eqb (count is_stray at_top (walk s)) 0 && eqb (open_after 0 (tokens s)) 0
