-- Containers, strays and keys: what a token is by where it stands; which tokens of a save are such, and how many.
use Rattle.std.specs.Prelude.{ℕ, ◌+◌, ◌-◌, Bool, true, false, not, ◌&&◌, ◌||◌, List, [], ◌∷◌, length, eqb}
use Rattle.std.proofs.Math.Option.{Option, none, some}
use Rattle.form.specs.Numbers.{pick}
use Rattle.form.specs.Values.{Value, Open, Close, Equal, kind}
use Rattle.form.specs.Saves.{Walk, done, cut, then}

unfoldable pub is_open : Value → Bool
is_open v = eqb (kind v) (kind Open)

unfoldable pub is_close : Value → Bool
is_close v = eqb (kind v) (kind Close)

unfoldable pub is_equal : Value → Bool
is_equal v = eqb (kind v) (kind Equal)

-- ---- where a token stands

-- the token directly before it, and its depth
pub record Around : Type 0 where
  pub before : Option Value
  pub depth : ℕ

-- where a walk begins
abbrev pub at_top : Around
at_top = record { before = none; depth = 0 }

-- the depth after a token at depth d: a Close at depth 0 leaves it 0
unfoldable pub deeper : Value → ℕ → ℕ
deeper v d = pick (is_open v) (d + 1) (pick (is_close v) (d - 1) d)

-- where the token after v stands
abbrev pub onward : Value → Around → Around
onward v a = record { before = some v; depth = deeper v a.depth }

-- the token that a walk goes on with
unfoldable pub ahead : Walk → Option Value
ahead done = none
ahead (cut r) = none
ahead (then p n v w) = some v

-- there is a token, and it passes
abbrev pub holds : (Value → Bool) → Option Value → Bool
holds test none = false
holds test (some v) = test v

-- ---- tests of a token: where it stands, the token, and the walk after it

abbrev pub Test : Type 0
Test = Around → Value → Walk → Bool

abbrev pub any_token : Test
any_token a v w = true

abbrev pub is_container : Test
is_container a v w = is_open v

abbrev pub is_stray : Test
is_stray a v w = is_close v && eqb a.depth 0

-- what follows makes a key of a token: Equal, or Open where the token is not itself directly after an Equal
unfoldable pub makes_key : Bool → Option Value → Bool
makes_key after_equal next = holds is_equal next || (holds is_open next && not after_equal)

-- a token other than Open, Close and Equal, at depth 0, that what directly follows makes a key
unfoldable pub is_key : Test
is_key a v w = not (is_open v || is_close v || is_equal v) && eqb a.depth 0 && makes_key (holds is_equal a.before) (ahead w)

-- such a token that passes
unfoldable pub key_that : (Value → Bool) → Test
key_that t a v w = is_key a v w && t v

-- ---- the tokens that pass

-- x in front, where the test holds
abbrev pub kept_if : {A : Type 0} → Bool → A → List A → List A
kept_if true x xs = x ∷ xs
kept_if false x xs = xs

-- with their positions, in file order: none after a refusal
unfoldable pub those : Test → Around → Walk → List (ℕ × Value)
those test a done = []
those test a (cut r) = []
those test a (then p n v w) = kept_if (test a v w) (p, v) (those test (onward v a) w)

-- the keys of a walk
unfoldable pub keys_of : Walk → List (ℕ × Value)
keys_of w = those is_key at_top w

-- ---- the counts

-- how many tokens of a walk pass
unfoldable pub count : Test → Around → Walk → ℕ
count test a w = length (those test a w)

pub record Counts : Type 0 where
  pub tokens : ℕ
  pub containers : ℕ
  pub keys : ℕ
  pub strays : ℕ

unfoldable pub counts : Walk → Counts
counts w = record {
  tokens = count any_token at_top w;
  containers = count is_container at_top w;
  keys = length (keys_of w);
  strays = count is_stray at_top w;
}
