-- A token that is handed over has the kind whose number is handed over with it. Assumes nothing.
use Prim.Native.Nat.{ℕ, zero, suc, ◌+◌}
use native.Mathlib.Omega.{arith}
use mathlib.Core.Path.{◌≡◌, refl, subst}
use mathlib.Core.Bool.{Bool, true, false}
use mathlib.Core.Option.{Option, none, some}
use mathlib.Core.List.{List, [], ◌∷◌}
use lib.ListN.{length, get_or}
use lib.Dec.{leb, eqb}
use lib.Signed.{mag}
use mir.Syntax.{w64}
use mir.Val.{to_z}
use Rattle.form.specs.Numbers.{pick}
use Rattle.form.specs.Values.{kind}
use Rattle.laws.proofs.Sound.{◌&◌}
use Rattle.token.specs.declared.Token.{Token}
use Rattle.token.specs.Tokens.{value_of}
use Rattle.capi.specs.Offered.{kind_tokens, kind_token, offered_token}

-- a token, if there is one, is of the kind with the number k
abbrev OfKind : ℕ → Option Token → Type 0
OfKind k none = Unit {0}
OfKind k (some t) = kind (value_of [] t) ≡ k

either : (k : ℕ) (b : Bool) (x y : Option Token) → OfKind k x → OfKind k y → OfKind k (pick b x y)
either k true x y h g = h
either k false x y h g = g

-- each of them, from the number k on
abbrev InOrder : ℕ → List (Option Token) → Type 0
InOrder k [] = Unit {0}
InOrder k (o ∷ os) = OfKind k o × InOrder (k + 1) os

in_order_lem : (a b c d e : ℕ) → InOrder 0 (kind_tokens a b c d e)
unfolding kind_tokens kind value_of
in_order_lem a b c d e =
    refl & refl & refl
    & either 3 (leb a 4294967295) _ _ refl tt & refl & either 5 (leb (mag (to_z w64 a)) 2147483647) _ _ refl tt & either 6 (leb a 1) _ _ refl tt
    & refl & refl
    & either 9 (leb a 4294967295) _ _ refl tt & refl
    & either 11 (leb a 4294967295) _ _ (either 11 (leb b 4294967295) _ _ (either 11 (leb c 4294967295) _ _ (either 11 (leb d 1) _ _
    (either 11 (eqb d 0) _ _ refl (either 11 (leb e 4294967295) _ _ refl tt)) tt) tt) tt) tt
    & refl & either 13 (leb a 4294967295) _ _ refl tt & either 14 (leb a 65535) _ _ refl tt
    & tt

at_place : (k : ℕ) (os : List (Option Token)) → InOrder k os → (i : ℕ) → OfKind (k + i) (get_or os i none)
at_place k [] h i = tt
at_place k (o ∷ os) h zero = let e : k ≡ k + 0 = omega arith in subst (λ (n : ℕ). OfKind n o) e h.0
at_place k (o ∷ os) h (suc i) = let e : k + 1 + i ≡ k + suc i = omega arith in subst (λ (n : ℕ). OfKind n (get_or os i none)) e (at_place (k + 1) os h.1 i)

-- the five words that are looked at
abbrev tokens_of : List ℕ → List (Option Token)
tokens_of ws = kind_tokens (get_or ws 0 0) (get_or ws 1 0) (get_or ws 2 0) (get_or ws 3 0) (get_or ws 4 0)

of_words : (k : ℕ) (ws : List ℕ) → OfKind k (kind_token k ws)
unfolding kind_token
of_words k ws =
    let z : 0 + k ≡ k = omega arith in
    subst (λ (n : ℕ). OfKind n (get_or (tokens_of ws) k none)) z
    (at_place 0 (tokens_of ws) (in_order_lem (get_or ws 0 0) (get_or ws 1 0) (get_or ws 2 0) (get_or ws 3 0) (get_or ws 4 0)) k)

pub offered-kind : (k : ℕ) (ws : List ℕ) {t : Token} → offered_token k ws ≡ some t → kind (value_of [] t) ≡ k
unfolding offered_token
offered-kind k ws {t} e = subst (λ (o : Option Token). OfKind k o) e (either k (leb 5 (length ws)) (kind_token k ws) none (of_words k ws) tt)
