-- Saves: reading all tokens, clean saves, normal forms.
use Rattle.std.specs.Prelude.{ℕ, zero, suc, ◌+◌, ◌≤◌, Bool, true, false, not, ◌&&◌, List, [], ◌∷◌, ◌++◌, length, drop, T}
use Rattle.form.specs.Numbers.{Bytes}
use Rattle.form.specs.Values.{Value}
use Rattle.form.specs.Refusals.{Refusal, refusal_at}
use Rattle.form.specs.Readers.{Answer, found, refused}
use Rattle.form.specs.Reading.{token}
use Rattle.form.specs.Spelling.{spell, wide}
use Rattle.form.specs.Shortest.{shortest}

-- each token's place, its number of bytes and its value, and how it ended: at the end, or cut by a refusal
pub data Walk : Type 0 where
  done : Walk
  cut : Refusal → Walk
  then : ℕ → ℕ → Value → Walk → Walk

unfoldable pub step : ℕ → Answer Value → (ℕ → Walk) → Walk
step p (found v n) go = then p n v (go n)
step p (refused e) go = cut (refusal_at p e)

-- by a count that is large enough: the length is
unfoldable pub walk_f : ℕ → ℕ → List ℕ → Walk
walk_f zero p s = done
walk_f (suc k) p [] = done
walk_f (suc k) p (b ∷ s) = step p (token (b ∷ s)) (λ n. walk_f k (p + n) (drop n (b ∷ s)))

-- what is read from place p on
unfoldable pub from : List ℕ → ℕ → Walk
from s p = walk_f (length s) p (drop p s)

unfoldable pub walk : List ℕ → Walk
walk s = walk_f (length s) 0 s

unfoldable pub values : Walk → List Value
values done = []
values (cut r) = []
values (then p n v w) = v ∷ values w

-- read to its end
unfoldable pub whole : Walk → Bool
whole done = true
whole (cut r) = false
whole (then p n v w) = whole w

-- the tokens of a save, up to the first that is refused
unfoldable pub tokens : List ℕ → List Value
tokens s = values (walk s)

-- values in order, each spelled by f
unfoldable pub spell_all : (Value → List ℕ) → List Value → List ℕ
spell_all f [] = []
spell_all f (v ∷ vs) = f v ++ spell_all f vs

-- the normal form of a clean save: its tokens in order, each as it is spelled
unfoldable pub normal : List ℕ → List ℕ
normal s = spell_all spell (tokens s)

-- the same, each in its shortest spelling
unfoldable pub shortened : List ℕ → List ℕ
shortened s = spell_all shortest (tokens s)

unfoldable pub all_narrow : List Value → Bool
all_narrow [] = true
all_narrow (v ∷ vs) = not (wide v) && all_narrow vs

-- the longest save: 2 ^ 31 bytes
abbrev pub LIMIT : ℕ
LIMIT = 2147483648

-- no longer than the limit, bytes, read to the end, and no lookup that cannot be written
pub record Clean (s : List ℕ) : Type 0 where
  pub limit : length s ≤ LIMIT
  pub bytes : Bytes s
  pub ends : T (whole (walk s))
  pub narrow : T (all_narrow (tokens s))
