-- Shortest spellings: the fewest bytes that read to a value, and of as many the lowest id. `form/proofs/Least` shows that there are no fewer.
use Rattle.std.specs.Prelude.{ℕ, zero, suc, ◌+◌, ◌-◌, ◌^◌, ◌≤◌, ◌<◌, List, [], ◌∷◌, ◌++◌, ltb, eqb}
use Rattle.std.proofs.Math.Option.{Option, none, some}
use Rattle.form.specs.Numbers.{pick, le_bytes, negated}
use Rattle.form.specs.Values.{Value, Open, Close, Equal, U32, U64, F32, F64, Lookup, Id, I32, I64, Truth, Quoted, Unquoted, Rgb, kind}
use Rattle.form.specs.Table.{Payload, number, text, colour, Entry, ◌is◌, ◌to◌is◌, empty, lookups1, lookups2, lookups3, lookups4, compact, compact_negated}
use Rattle.form.specs.Refusals.{Refusal}
use Rattle.form.specs.Spelling.{spell, reason}

-- ---- the first row that holds a number

-- w bytes hold n, and no fewer
pub record Width (n w : ℕ) : Type 0 where
  pub holds : n < 256 ^ w
  pub least : (j : ℕ) → j < w → 256 ^ j ≤ n

-- the number n after the id i, if the payload's bytes hold it
unfoldable pub held_by : ℕ → ℕ → Payload → Option (List ℕ)
held_by n i (number w f) = pick (ltb n (256 ^ w)) (some (le_bytes 2 i ++ le_bytes w n)) none
held_by n i (text f) = none
held_by n i colour = none

-- the first of two that there is
abbrev pub or_else : Option (List ℕ) → Option (List ℕ) → Option (List ℕ)
or_else none o = o
or_else (some bs) o = some bs

-- by the first of k ids from i on
unfoldable pub first_of : ℕ → ℕ → (ℕ → Payload) → ℕ → Option (List ℕ)
first_of zero i p n = none
first_of (suc k) i p n = or_else (held_by n i (p i)) (first_of k (i + 1) p n)

-- by the first of some entries; of ids with one payload the first stands for all
unfoldable pub first_in : List Entry → ℕ → Option (List ℕ)
first_in [] n = none
first_in ([] is p ∷ es) n = first_in es n
first_in ((i ∷ ks) is p ∷ es) n = or_else (held_by n i p) (first_in es n)
first_in (lo to hi is p ∷ es) n = or_else (first_of (hi - lo + 1) lo p n) (first_in es n)

-- ---- a value

-- a spelling by other rows than the writer's: of a float, a lookup and the empty string
unfoldable pub otherwise : Value → Option (List ℕ)
otherwise Open = none
otherwise Close = none
otherwise Equal = none
otherwise (U32 n) = none
otherwise (U64 n) = none
otherwise (F32 n) = none
otherwise (F64 n) = or_else (first_in compact n) (first_in compact_negated (negated n))
otherwise (Lookup n) = first_in (lookups1 ++ lookups2 ++ lookups3 ++ lookups4) n
otherwise (Id i) = none
otherwise (I32 z) = none
otherwise (I64 z) = none
otherwise (Truth b) = none
otherwise (Quoted []) = first_in empty 0
otherwise (Quoted (b ∷ t)) = none
otherwise (Unquoted t) = none
otherwise (Rgb r g b a) = none

unfoldable pub or_spelled : Option (List ℕ) → Value → List ℕ
or_spelled none v = spell v
or_spelled (some bs) v = bs

unfoldable pub shortest : Value → List ℕ
shortest v = or_spelled (otherwise v) v

-- why a value has none: as of the writer, but every lookup has one
unfoldable pub short_reason : ℕ → Value → Option Refusal
short_reason p v = pick (eqb (kind v) (kind (Lookup 0))) none (reason p v)
