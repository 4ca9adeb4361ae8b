-- The token that is read, with the bytes, gives back the definition's value. Assumes nothing.
use Prim.Native.Nat.{ℕ}
use mathlib.Core.Path.{◌≡◌, refl, ap}
use mathlib.Core.Option.{none, some}
use mathlib.Core.List.{List}
use Rattle.form.specs.Values as F
use Rattle.form.specs.Readers.{Answer, found, refused, at, mapped, placed}
use Rattle.form.specs.Reading.{token}
use Rattle.laws.proofs.Found.{All}
use Rattle.laws.proofs.TextsLast.{own_text, Ends, token-ends-at}
use Rattle.token.specs.Tokens.{token_of, value_of, token_at}

pub value-token : (s : List ℕ) (v : F.Value) (e : ℕ) → Ends s v e → value_of s (token_of e v) ≡ v
unfolding value_of token_of own_text
value-token s F.Open e k = refl
value-token s F.Close e k = refl
value-token s F.Equal e k = refl
value-token s (F.U32 n) e k = refl
value-token s (F.U64 n) e k = refl
value-token s (F.F32 n) e k = refl
value-token s (F.F64 n) e k = refl
value-token s (F.Lookup n) e k = refl
value-token s (F.Id i) e k = refl
value-token s (F.I32 z) e k = refl
value-token s (F.I64 z) e k = refl
value-token s (F.Truth b) e k = refl
value-token s (F.Quoted t) e k = ap F.Quoted k.last
value-token s (F.Unquoted t) e k = ap F.Unquoted k.last
value-token s (F.Rgb r g b none) e k = refl
value-token s (F.Rgb r g b (some a)) e k = refl

-- what `read_token` answers, as the definition's answer
pub token-values : (s : List ℕ) (p : ℕ) → mapped (value_of s) (token_at s p) ≡ at token s p
unfolding token_at mapped placed
token-values s p = go (at token s p) (token-ends-at s p)
  where
    go : (a : Answer F.Value) → All (Ends s) a → mapped (value_of s) (placed token_of a) ≡ a
    go (found v n) k = ap (λ (w : F.Value). found w n) (value-token s v n k)
    go (refused e) k = refl
