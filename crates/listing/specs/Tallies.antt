-- No public promise goes through this file. The code's tally, which looks back where the definition's counts look ahead.
use Rattle.std.specs.Prelude.{◌≡◌, ℕ, ◌+◌, ◌≤◌, false, not, ◌&&◌, ◌||◌, List, eqb}
use Rattle.std.proofs.Math.Option.{some}
use Rattle.form.specs.Values.{Value}
use Rattle.form.specs.Spelling.{bit}
use Rattle.form.specs.Keys.{Counts, is_open, is_close, is_equal, deeper, makes_key}
use Rattle.token.specs.Tokens.{value_of}
use Rattle.token.specs.declared.Token.{Token}
use Rattle.listing.specs.declared.tally.Tally.{Tally}

abbrev pub none_yet : Tally
none_yet = record { tokens = 0; containers = 0; keys = 0; strays = 0; depth = 0; equal = false; value = false; candidate = false }

-- a token more: it makes a key of the one before it, if that could be one
abbrev pub tallied : Tally → Value → Tally
tallied c v = record {
  tokens = c.tokens + 1;
  containers = c.containers + bit (is_open v);
  keys = c.keys + bit (c.candidate && makes_key c.value (some v));
  strays = c.strays + bit (is_close v && eqb c.depth 0);
  depth = deeper v c.depth;
  equal = is_equal v;
  value = c.equal;
  candidate = not (is_open v || is_close v || is_equal v) && eqb c.depth 0;
}

-- the same by the code's token, whatever bytes its text stands in
abbrev pub TalliesTo : Tally → Token → Tally → Type 0
TalliesTo c t r = (s : List ℕ) → r ≡ tallied c (value_of s t)

abbrev pub counted : Tally → Counts
counted c = record { tokens = c.tokens; containers = c.containers; keys = c.keys; strays = c.strays }

-- nothing is counted more often than tokens
pub record Sound (c : Tally) : Type 0 where
  pub containers : c.containers ≤ c.tokens
  pub keys : c.keys ≤ c.tokens
  pub strays : c.strays ≤ c.tokens
  pub depth : c.depth ≤ c.tokens
