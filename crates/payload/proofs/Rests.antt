-- A reading in the bytes from a place on: what it says of the place in all bytes. Assumes nothing.
use Prim.Native.Nat.{ℕ, ◌+◌, ◌≤◌}
use native.Mathlib.Nat.{zero-add}
use native.Mathlib.Omega.{arith}
use mathlib.Core.Path.{◌≡◌, refl, ◌∙◌}
use mathlib.Core.List.{List}
use lib.ListN.{length, drop}
use Rattle.form.specs.Values.{Value}
use Rattle.form.specs.Table.{colour}
use Rattle.form.specs.Readers.{Answer, found, refused, Reader, further, at}
use Rattle.form.specs.Reading.{rgb, payload}
use Rattle.laws.proofs.Never.{never}
use Rattle.laws.proofs.Found.{All, payload-in}
use Rattle.split.specs.Splits.{rest_of}
use Rattle.split.proofs.Enough.{rest-drop}

at_first : {A : Type 0} (f : Reader A) (s : List ℕ) (p : ℕ) → further p (at f (drop p s) 0) ≡ at f s p
unfolding at further
at_first {A} f s p = go (f (drop p s))
  where
    go : (x : Answer A) → further p (further 0 x) ≡ further p x
    go (found a n) = rw (zero-add n)
    go (refused why) = refl

-- the same answer, as many bytes further on as were left out
pub from-rest : {A : Type 0} (f : Reader A) (s : List ℕ) (p : ℕ) {t : List ℕ} {x : Answer A} → t ≡ rest_of s p → at f t 0 ≡ x → further p x ≡ at f s p
from-rest f s p e q = rw (← q, e ∙ rest-drop s p) (at_first f s p)

-- a colour ends within the bytes
pub colour-in : (t : List ℕ) {v : Value} {n : ℕ} → at rgb t 0 ≡ found v n → n ≤ length t
unfolding at further payload
colour-in t {v} {n} e = go (rgb t) (payload-in colour t) e
  where
    go : (x : Answer Value) → All (λ _ m. m ≤ length t) x → further 0 x ≡ found v n → n ≤ length t
    go (found a m) h q = let k : 0 + m ≡ n = cc in omega arith
    go (refused why) h q = never (cc)
