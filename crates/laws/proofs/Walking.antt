-- Reading all, a token at a time: what a loop's invariant cites. Assumes nothing.
use Prim.Native.Nat.{ℕ, zero, suc, ◌+◌, ◌≤◌, ◌<◌, zero-le}
use native.Mathlib.Omega.{arith}
use mathlib.Core.Path.{◌≡◌, refl, sym, ap, ◌∙◌}
use mathlib.Core.Bool.{Bool, true, false}
use mathlib.Core.List.{List, [], ◌∷◌}
use lib.ListN.{length, drop, length-drop, drop_of_length-le, get_or}
use lib.Seq.{drop-drop, drop-cons}
use lib.Dec.{ltb}
use borrow.Author.Tests.{ltb-true, ltb-false}
use Rattle.form.specs.Values.{Value}
use Rattle.form.specs.Refusals.{Fault, refusal_at}
use Rattle.form.specs.Readers.{Answer, found, refused}
use Rattle.form.specs.Reading.{token}
use Rattle.form.specs.Saves.{Walk, done, cut, then, step, walk_f, from, walk}
use Rattle.laws.proofs.Found.{All, Within, token-in}

step_same : (s : List ℕ) (p : ℕ) (a : Answer Value) (f g : ℕ → Walk) → All (λ _ n. Within s n) a → ((n : ℕ) → Within s n → f n ≡ g n) → step p a f ≡ step p a g
unfolding step
step_same s p (found v n) f g h e = ap (then p n v) (e n h)
step_same s p (refused why) f g h e = refl

-- any count that is large enough gives the same
walk_same : (k m p : ℕ) (s : List ℕ) → length s ≤ k → length s ≤ m → walk_f k p s ≡ walk_f m p s
unfolding walk_f
walk_same zero zero p s h l = refl
walk_same zero (suc m) p [] h l = refl
walk_same zero (suc m) p (b ∷ s) h l = absurd (omega arith)
walk_same (suc k) zero p [] h l = refl
walk_same (suc k) zero p (b ∷ s) h l = absurd (omega arith)
walk_same (suc k) (suc m) p [] h l = refl
walk_same (suc k) (suc m) p (b ∷ s) h l =
    step_same (b ∷ s) p (token (b ∷ s)) _ _ (token-in (b ∷ s))
    (λ n q. walk_same k m (p + n) (drop n (b ∷ s)) (rw length-drop (omega (arith, q.some))) (rw length-drop (omega (arith, q.some))))

pub from_start : (s : List ℕ) → from s 0 ≡ walk s
unfolding from walk
from_start s = refl

pub from_end : (s : List ℕ) (p : ℕ) → length s ≤ p → from s p ≡ done
unfolding from walk_f
from_end s p h = rw (drop_of_length-le s h) (walk_same (length s) zero p [] zero-le zero-le)

pub from_step : (s : List ℕ) (p : ℕ) → p < length s → from s p ≡ step p (token (drop p s)) (λ n. from s (p + n))
unfolding from walk_f
from_step s p h =
    rw (drop-cons s p 0)
    (walk_same (length s) (suc (length s)) p (get_or s p 0 ∷ drop (suc p) s) (rw length-drop (omega arith)) (rw length-drop (omega arith))
    ∙ step_same (get_or s p 0 ∷ drop (suc p) s) p (token (get_or s p 0 ∷ drop (suc p) s)) _ _ (token-in (get_or s p 0 ∷ drop (suc p) s))
    (λ n q. ap (walk_f (length s) (p + n)) (ap (drop n) (sym (drop-cons s p 0 h)) ∙ drop-drop n p s)))

-- what holds of the walk from each place, by what stands there
module _ (s : List ℕ) (P : ℕ → Walk → Type 0) (ends : (p : ℕ) → length s ≤ p → P p done)
    (stops : (p : ℕ) → p < length s → (why : Fault) → token (drop p s) ≡ refused why → P p (cut (refusal_at p why)))
    (goes : (p : ℕ) → p < length s → (v : Value) (n : ℕ) → token (drop p s) ≡ found v n → Within (drop p s) n → P (p + n) (from s (p + n)) → P p (then p n v (from s (p + n)))) where
  by_count : (k p : ℕ) → length s ≤ p + k → P p (from s p)
  unfolding step
  by_count zero p h = rw (from_end s p (omega arith)) (ends p (omega arith))
  by_count (suc k) p h = go (λ n m. by_count k (p + n) (omega arith)) (ltb p (length s)) refl
    where
      of : p < length s → (a : Answer Value) → token (drop p s) ≡ a → All (λ _ n. Within (drop p s) n) a → ((n : ℕ) → 2 ≤ n → P (p + n) (from s (p + n)))
          → P p (step p a (λ n. from s (p + n)))
      of l (found v n) e w ih = goes p l v n e w (ih n w.some)
      of l (refused why) e w ih = stops p l why e

      go : ((n : ℕ) → 2 ≤ n → P (p + n) (from s (p + n))) → (b : Bool) → ltb p (length s) ≡ b → P p (from s p)
      go ih true l =
          rw (from_step s p (ltb-true p (length s) l))
          (of (ltb-true p (length s) l) (token (drop p s)) refl (token-in (drop p s)) ih)
      go ih false l = let e = ltb-false p (length s) l in rw (from_end s p e) (ends p e)

  pub by-walk : (p : ℕ) → P p (from s p)
  by-walk p = by_count (length s) p (omega arith)
