-- A count of tokens, a token at a time. Assumes nothing.
use Prim.Native.Nat.{ℕ, ◌+◌, ◌<◌}
use native.Mathlib.Omega.{arith}
use mathlib.Core.Path.{◌≡◌, refl}
use mathlib.Core.List.{List}
use lib.ListN.{length}
use Rattle.form.specs.Refusals.{Fault, too_short, bad_colour, refusal_at, refusal_values, refusal_value}
use Rattle.form.specs.Values.{Value}
use Rattle.form.specs.Readers.{refused}
use Rattle.form.specs.Saves.{from}
use Rattle.laws.proofs.Walking.{from_start, from_end}
use Rattle.token.specs.Tokens.{token_at}
use Rattle.token.proofs.Walks.{Read, token-refused}
use Rattle.capi.specs.Replies as R
use Rattle.capi.specs.Words.{number_words}
use Rattle.capi.specs.Counting.{counting, count_reply}

pub at-start : (s : List ℕ) → counting (length s) 0 (from s 0) ≡ count_reply s
unfolding count_reply
at-start s = rw from_start

pub at-end : (s : List ℕ) (p k : ℕ) → p ≡ length s → R.answered p (number_words k) ≡ counting (length s) k (from s p)
unfolding counting
at-end s p k e = rw (from_end s p (omega arith), e)

-- a fault's refusal names its position
position : (p : ℕ) (e : Fault) → refusal_value (refusal_at p e) ≡ p
unfolding refusal_value refusal_values refusal_at
position p (too_short m) = refl
position p bad_colour = refl

module _ (s : List ℕ) (p : ℕ) where
  -- a token that ends at place n is counted, and the walk goes on from there
  pub counted : {v : Value} {n : ℕ} → Read s p v n → (k : ℕ) → counting (length s) k (from s p) ≡ counting (length s) (k + 1) (from s n)
  unfolding counting
  counted r k = rw r.walks

  -- where there is none the count ends
  pub cut_off_lem : p < length s → {e : Fault} → token_at s p ≡ refused e → (k : ℕ) → R.refused p (refusal_at p e) ≡ counting (length s) k (from s p)
  unfolding counting
  cut_off_lem h {e} q k = rw (token-refused s p h q, position p e)
