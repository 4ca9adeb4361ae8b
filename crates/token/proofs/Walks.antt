-- What an answer of `read_token` says of the walk over the bytes. Assumes nothing.
use Prim.Native.Nat.{ℕ, ◌+◌, ◌-◌, ◌≤◌, ◌<◌}
use native.Mathlib.Omega.{arith}
use mathlib.Core.Path.{◌≡◌, refl, sym, ap, ◌∙◌}
use mathlib.Core.List.{List}
use lib.ListN.{length, drop, length-drop}
use Rattle.form.specs.Values.{Value}
use Rattle.form.specs.Refusals.{Fault, refusal_at}
use Rattle.form.specs.Readers.{Answer, found, refused, at, further, mapped, placed}
use Rattle.form.specs.Reading.{token}
use Rattle.form.specs.Saves.{then, cut, step, from}
use Rattle.laws.proofs.Never.{never}
use Rattle.laws.proofs.Found.{All, Within, token-in}
use Rattle.laws.proofs.Walking.{from_step}
use Rattle.laws.proofs.TextsLast.{Ends, token-ends-at}
use Rattle.token.specs.declared.Token.{Token}
use Rattle.token.specs.Tokens.{token_of, value_of, token_at}
use Rattle.token.proofs.Values.{token-values}

-- the value v stands at place p, up to place n
pub record Read (s : List ℕ) (p : ℕ) (v : Value) (n : ℕ) : Type 0 where
  pub reads : token (drop p s) ≡ found v (n - p)
  pub ends : Ends s v n
  pub on : p < n
  pub there : n ≤ length s
  pub walks : from s p ≡ then p (n - p) v (from s n)

module _ (s : List ℕ) (p : ℕ) where
  read_found : {v : Value} {m : ℕ} → token (drop p s) ≡ found v m → Within (drop p s) m → Ends s v (p + m) → Read s p v (p + m)
  unfolding step
  read_found {v} {m} e k q =
      let less : p + m - p ≡ m = omega arith in
      record {
        reads = rw less e;
        ends = q;
        on = omega (arith, k.some);
        there = omega (arith, k.some, k.there, length-drop p s);
        walks = rw less (from_step s p (omega (arith, k.some, k.there, length-drop p s)) ∙ ap (λ (a : Answer Value). step p a (λ i. from s (p + i))) e);
      }

  pub read : {v : Value} {n : ℕ} → at token s p ≡ found v n → Read s p v n
  unfolding at further
  read {v} {n} e = go (token (drop p s)) refl e (token-in (drop p s)) (token-ends-at s p)
    where
      go : (a : Answer Value) → token (drop p s) ≡ a → further p a ≡ found v n → All (λ _ m. Within (drop p s) m) a → All (Ends s) (further p a) → Read s p v n
      go (found w m) r e k q =
          let ew : w ≡ v = cc in
          let em : p + m ≡ n = cc in
          rw (← ew, ← em) (read_found r k q)
      go (refused f) r e k q = never (cc)

  -- so does the value of a token that `read_token` answers
  module _ {t : Token} {n : ℕ} (e : token_at s p ≡ found t n) where
    value-at : at token s p ≡ found (value_of s t) n
    unfolding mapped
    value-at = sym (token-values s p) ∙ ap (mapped (value_of s)) e

    pub token-read : Read s p (value_of s t) n
    token-read = read value-at

    pub token-is : t ≡ token_of n (value_of s t)
    unfolding token_at placed
    token-is = let q : found t n ≡ found (token_of n (value_of s t)) n = sym e ∙ ap (placed token_of) value-at in cc

  -- where it refuses the walk ends
  pub token-refused : p < length s → {f : Fault} → token_at s p ≡ refused f → from s p ≡ cut (refusal_at p f)
  unfolding at further mapped step
  token-refused h {f} q = from_step s p h ∙ go (token (drop p s)) (sym (token-values s p) ∙ ap (mapped (value_of s)) q)
    where
      go : (a : Answer Value) → further p a ≡ refused f → step p a (λ i. from s (p + i)) ≡ cut (refusal_at p f)
      go (found v m) e = cc
      go (refused g) e = ap (λ (x : Fault). cut (refusal_at p x)) (cc)
