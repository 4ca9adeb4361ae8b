-- Any two results that a promise allows are equal; of `into_kind` and `is_id` that is a plain equation. Assumes nothing.
use Prim.Native.Nat.{ℕ}
use mathlib.Core.Path.{◌≡◌, sym, ap, ◌∙◌}
use mathlib.Core.List.{List}
use Rattle.capi.specs.Replies.{Returned, returned}
use Rattle.capi.specs.Sources.{Caller, caller_has}

-- a number and a lent list: all others, but for those below
pub returned-one : {x : Returned} (r r' : ℕ) (l l' : List ℕ) → returned r l ≡ x → returned r' l' ≡ x → (r ≡ r') × (l ≡ l')
returned-one r r' l l' p q = let e : returned r l ≡ returned r' l' = p ∙ sym q in (ap (λ y. y.number) e, ap (λ y. y.list) e)

-- a number and three lent lists: the calls on a source
pub after_one : {x : Caller} (r r' : ℕ) (l l' s s' b b' : List ℕ)
    → caller_has (returned r l) s b ≡ x → caller_has (returned r' l') s' b' ≡ x → (r ≡ r') × (l ≡ l') × (s ≡ s') × (b ≡ b')
after_one r r' l l' s s' b b' p q =
    let e : caller_has (returned r l) s b ≡ caller_has (returned r' l') s' b' = p ∙ sym q in
    (ap (λ y. y.answer.number) e, ap (λ y. y.answer.list) e, ap (λ y. y.state) e, ap (λ y. y.buffer) e)
