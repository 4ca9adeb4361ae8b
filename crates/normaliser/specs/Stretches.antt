-- No public promise goes through this file. Stretches of a save: what is left of it from a place on, and what the code's steps do with it.
use Rattle.std.specs.Prelude.{ℕ, ◌+◌, ◌-◌, ◌*◌, ◌≤◌, ◌<◌, ◌≡◌, List, ◌++◌, length, take, drop, Result, Ok, Err, Option as MayBe, Some, None}
use Rattle.std.proofs.Math.Option.{Option, none}
use Rattle.form.specs.Values.{Value}
use Rattle.form.specs.Refusals.{Refusal}
use Rattle.form.specs.Spelling.{spell, reason}
use Rattle.form.specs.Shortest.{shortest, short_reason}
use Rattle.form.specs.Saves.{Walk, walk_f, walk, values, tokens, spell_all}
use Rattle.form.specs.Put.{Put}
use Rattle.form.specs.Writing.{Output, written, unwritten, Outcome, declined, outcome, leaves, first_refusal, unless, for_save}
use Rattle.token.specs.declared.Token.{Token}
use Rattle.token.specs.Tokens.{value_of}
use Rattle.writer.specs.Writes.{misplaced}
use Rattle.writer.specs.declared.WriteError.{WriteError}
use Rattle.writer.specs.declared.WriteError.TheVariants.{LongString, WideLookup, ReservedId, NoRoom, BadPlace}
use Rattle.normaliser.specs.declared.NormalError.{NormalError}
use Rattle.normaliser.specs.Answers.{normal_refusal}

-- ---- a save in a style

-- a style: what says why a value at a position has no spelling, and the spelling
pub record Style : Type 0 where
  pub why : ℕ → Value → Option Refusal
  pub spelled : Value → List ℕ

abbrev pub normal_style : Style
normal_style = record { why = reason; spelled = spell }

abbrev pub short_style : Style
short_style = record { why = short_reason; spelled = shortest }

-- a save's tokens, each as it is spelled
abbrev pub styled : Style → List ℕ → List ℕ
styled y s = spell_all y.spelled (tokens s)

-- into an output with room for so many bytes: `normalise` and `shorten`
abbrev pub saved : Style → ℕ → List ℕ → Output
saved y room s = for_save y.why (styled y s) room s

-- what a walk gives: its tokens spelled, or its first refusal
unfoldable pub output_of : Style → Walk → Output
output_of y w = unless (first_refusal y.why w) (written (spell_all y.spelled (values w)))

-- a save, however long
unfoldable pub unbounded : Style → List ℕ → Output
unbounded y s = unless (first_refusal y.why (walk s)) (written (styled y s))

-- a pass over the save s turns the output d into d' and answers a: the answer is that for an output with room, and where there is room, and
-- no refusal, the save is written
pub record Passed (y : Style) (s d d' : List ℕ) (a : Outcome) : Type 0 where
  pub answer : a ≡ outcome (unbounded y s)
  pub bytes : first_refusal y.why (walk s) ≡ none → length (styled y s) ≤ length d → d' ≡ leaves (written (styled y s)) d

-- ---- a part of it

-- what a save gives from place p on
unfoldable pub rest : Style → List ℕ → ℕ → Output
rest y s p = output_of y (walk_f (length s) p (drop p s))

-- bytes, and after them what an output has
unfoldable pub before : List ℕ → Output → Output
before bs (written cs) = written (bs ++ cs)
before bs (unwritten r) = unwritten r

-- the bytes from place p up to q
abbrev pub between : List ℕ → ℕ → ℕ → List ℕ
between s p q = take (q - p) (drop p s)

-- the tokens from place p up to q are spelled bs
pub record Spells (y : Style) (s : List ℕ) (p q : ℕ) (bs : List ℕ) : Type 0 where
  pub on : p ≤ q
  pub there : q ≤ length s
  pub short : length bs ≤ 5 * (q - p)
  pub is : rest y s p ≡ before bs (rest y s q)

-- ---- what the code's steps do

-- r is the place after so many bytes, where they fit
pub record Placed (need room r : ℕ) : Type 0 where
  pub inside : r ≤ room
  pub fits : need ≤ room → r ≡ need

-- bs are put after so many bytes of the output d, where there is room, and r counts them with those
pub record Appends (d : List ℕ) (need : ℕ) (bs d' : List ℕ) (r : ℕ) : Type 0 where
  pub count : r ≡ need + length bs
  pub same : length d' ≡ length d
  pub puts : r ≤ length d → Put d need bs d' r

-- a token from p up to q is spelled by n bytes, and they are appended
pub record Respelt (y : Style) (s : List ℕ) (p q n : ℕ) (d : List ℕ) (need : ℕ) (d' : List ℕ) : Type 0 where
  pub bytes : List ℕ
  pub more : p < q
  pub spells : Spells y s p q bytes
  pub appends : Appends d need bytes d' (need + n)

-- or it is refused
pub record Stopped (y : Style) (s : List ℕ) (p : ℕ) (a : Outcome) : Type 0 where
  pub why : Refusal
  pub is : rest y s p ≡ unwritten why
  pub answer : a ≡ declined why

abbrev pub Respells : List ℕ → ℕ → List ℕ → ℕ → List ℕ → Result (ℕ × ℕ) NormalError → Type 0
Respells s p d need d' (Ok x) = Respelt normal_style s p x.0 x.1 d need d'
Respells s p d need d' (Err e) = Stopped normal_style s p (declined (normal_refusal e))

-- how many bytes the writer has counted
abbrev pub count_of : Result ℕ WriteError → MayBe ℕ
count_of (Ok n) = Some n
count_of (Err (LongString p)) = None
count_of (Err (WideLookup p)) = None
count_of (Err (ReservedId p)) = None
count_of (Err (NoRoom n)) = Some n
count_of (Err (BadPlace p)) = None

-- a token whose text lies within the bytes has a spelling
pub record HasSpelling (y : Style) (s : List ℕ) (t : Token) : Type 0 where
  pub placed : misplaced s t ≡ none
  pub can : y.why 0 (value_of s t) ≡ none
