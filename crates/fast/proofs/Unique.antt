-- Any two results that the promise of the fast step allows are equal. Assumes nothing.
use mathlib.Core.Path.{◌≡◌, refl, ap}
use Rattle.std.specs.Prelude.{ℕ, Option, Some, None}
use Rattle.form.specs.Fast as F
use Rattle.laws.proofs.Unique.{same}
use Rattle.lexeme.specs.declared.TokenKind.{TokenKind}
use Rattle.lexeme.proofs.Unique.{kind_of_number, kind-back}
use Rattle.fast.specs.Steps.{step_of, stepped}
use Rattle.fast.specs.declared.FastToken.{FastToken}

abbrev step_back : F.Step → Option (TokenKind × ℕ)
step_back (F.fast k n) = Some (kind_of_number k, n)
step_back F.slow = None

step_back_lem : (r : Option (TokenKind × ℕ)) → step_back (step_of r) ≡ r
step_back_lem (Some x) = ap (λ (k : TokenKind). Some (k, x.1)) (kind-back x.0)
step_back_lem None = refl

abbrev back : F.Stepped → FastToken
back a = record { step = step_back a.step; held = a.held }

pub next-token-fast-one : {a : F.Stepped} (r r' : FastToken) → stepped r ≡ a → stepped r' ≡ a → r ≡ r'
next-token-fast-one = same stepped back (λ r. ap (λ (x : Option (TokenKind × ℕ)). record { step = x; held = r.held }) (step_back_lem r.step))
