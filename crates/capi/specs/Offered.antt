-- The token that a caller hands over, by its kind's number and the words of what it holds; none where they are no token's. And what a
-- caller has after a write of it.
use Rattle.std.specs.Prelude.{ℕ, List, [], ◌∷◌, length, get_or, leb, eqb, ℤ, Option as MayBe, Some, None}
use Rattle.std.proofs.Math.Option.{Option, none, some}
use Rattle.std.specs.Int.Signed.{mag}
use Rattle.std.specs.Int.{w64}
use Rattle.std.proofs.Common.{to_z}
use Rattle.form.specs.Numbers.{pick}
use Rattle.form.specs.Writing.{Output, outcome}
use Rattle.token.specs.declared.Token.{Token}
use Rattle.token.specs.declared.Token.TheVariants as T
use Rattle.capi.specs.Replies.{SHORT_ANSWER, BAD_ARGUMENT, Returned, returned, into}
use Rattle.capi.specs.Outputs.{outcome_reply, left_by}

-- where a word is at most m
abbrev pub up_to : ℕ → ℕ → Option Token → Option Token
up_to m n o = pick (leb n m) o none

abbrev pub number_token : ℕ → (ℕ → Token) → ℕ → Option Token
number_token m f n = up_to m n (some (f n))

abbrev pub bool_token : ℕ → Option Token
bool_token n = up_to 1 n (some (T.Bool (eqb n 1)))

-- a signed number that has 32 bits: from -2^31 up to 2^31 - 1
abbrev pub small_token : ℤ → Option Token
small_token z = up_to 2147483647 (mag z) (some (T.I32 z))

-- an alpha is looked at where it is said to be there
abbrev pub alpha_token : (MayBe ℕ → Token) → ℕ → ℕ → Option Token
alpha_token f has a = pick (eqb has 0) (some (f None)) (up_to 4294967295 a (some (f (Some a))))

abbrev pub colour_token : ℕ → ℕ → ℕ → ℕ → ℕ → Option Token
colour_token r g b has a =
    up_to 4294967295 r (up_to 4294967295 g (up_to 4294967295 b (up_to 1 has
    (alpha_token (λ x. T.Rgb (record { r = r; g = g; b = b; a = x })) has a))))

-- the token of each kind, in the order of the kinds: the words are those that reading it answers
unfoldable pub kind_tokens : ℕ → ℕ → ℕ → ℕ → ℕ → List (Option Token)
kind_tokens a b c d e =
    some T.Open ∷ some T.Close ∷ some T.Equal ∷
    number_token 4294967295 T.U32 a ∷ some (T.U64 a) ∷ small_token (to_z w64 a) ∷ bool_token a ∷
    some (T.Quoted (record { start = a; len = b })) ∷ some (T.Unquoted (record { start = a; len = b })) ∷
    number_token 4294967295 T.F32 a ∷ some (T.F64 a) ∷ colour_token a b c d e ∷
    some (T.I64 (to_z w64 a)) ∷ number_token 4294967295 T.Lookup a ∷ number_token 65535 T.Id a ∷ []

unfoldable pub kind_token : ℕ → List ℕ → Option Token
kind_token kind ws = get_or (kind_tokens (get_or ws 0 0) (get_or ws 1 0) (get_or ws 2 0) (get_or ws 3 0) (get_or ws 4 0)) kind none

-- five words are asked for, whatever the kind
unfoldable pub offered_token : ℕ → List ℕ → Option Token
offered_token kind ws = pick (leb 5 (length ws)) (kind_token kind ws) none

-- ---- writing it, where w gives the output: the number returned with the answer list, and what the output holds

-- where there is no token nothing is changed
unfoldable pub write_returns : (ℕ → List ℕ → Token → Output) → ℕ → List ℕ → List ℕ → Option Token → Returned
write_returns w room s l (some t) = into l (outcome_reply (outcome (w room s t)))
write_returns w room s l none = pick (leb 8 (length l)) (returned BAD_ARGUMENT l) (returned SHORT_ANSWER l)

unfoldable pub write_leaves : (ℕ → List ℕ → Token → Output) → List ℕ → List ℕ → Option Token → List ℕ → List ℕ
write_leaves w s l (some t) out = left_by l (w (length out) s t) out
write_leaves w s l none out = out
