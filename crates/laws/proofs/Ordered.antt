-- Lists of entries in order, by their places: each start below its end, each end the next start, and so none over another. Assumes nothing.
use Prim.Native.Nat.{ℕ, zero, suc, ◌≤◌, ◌<◌}
use native.Mathlib.Omega.{arith}
use mathlib.Core.Path.{◌≡◌, refl}
use mathlib.Core.Bool.{true, ◌&&◌}
use mathlib.Core.List.{List, [], ◌∷◌}
use lib.ListN.{length, get_or}
use lib.Dec.{ltb}
use borrow.Author.Tests.{ltb-true, eqb-true, lt-ltb, eq-eqb}
use Rattle.form.specs.Contents.{Entry, goes_on_at, in_order}
use Rattle.laws.proofs.Elsewhere.{both}

-- the first entry, and the rest
pub order-parts : (x : Entry) (l : List Entry) → in_order (x ∷ l) ≡ true → (x.start < x.end) × (goes_on_at x.end l ≡ true) × (in_order l ≡ true)
unfolding in_order
order-parts x l h =
    let t = both (ltb x.start x.end && goes_on_at x.end l) (in_order l) h in
    let u = both (ltb x.start x.end) (goes_on_at x.end l) t.0 in
    (ltb-true x.start x.end u.0, u.1, t.1)

module _ (d : Entry) where
  pub starts-below : (l : List Entry) → in_order l ≡ true → (i : ℕ) → i < length l → (get_or l i d).start < (get_or l i d).end
  starts-below [] h i m = absurd (omega arith)
  starts-below (x ∷ l) h zero m = (order-parts x l h).0
  starts-below (x ∷ l) h (suc i) m = starts-below l (order-parts x l h).2 i (omega arith)

  goes-on-at : (e : ℕ) (l : List Entry) → goes_on_at e l ≡ true → 0 < length l → (get_or l 0 d).start ≡ e
  goes-on-at e [] g m = absurd (omega arith)
  goes-on-at e (x ∷ l) g m = eqb-true x.start e g

  pub next_start : (l : List Entry) → in_order l ≡ true → (i : ℕ) → suc i < length l → (get_or l (suc i) d).start ≡ (get_or l i d).end
  next_start [] h i m = absurd (omega arith)
  next_start (x ∷ l) h zero m = goes-on-at x.end l (order-parts x l h).1 (omega arith)
  next_start (x ∷ l) h (suc i) m = next_start l (order-parts x l h).2 i (omega arith)

  -- and all lists of which that holds are
  pub in_order_lem : (l : List Entry) → ((i : ℕ) → i < length l → (get_or l i d).start < (get_or l i d).end)
      → ((i : ℕ) → suc i < length l → (get_or l (suc i) d).start ≡ (get_or l i d).end) → in_order l ≡ true
  unfolding in_order
  in_order_lem [] f g = refl
  in_order_lem (x ∷ l) f g =
      rw (lt-ltb x.start x.end (f 0 (omega arith)), at l (g 0)) (in_order_lem l (λ i m. f (suc i) (omega arith)) (λ i m. g (suc i) (omega arith)))
    where
      at : (l : List Entry) → (1 < suc (length l) → (get_or l 0 d).start ≡ x.end) → goes_on_at x.end l ≡ true
      at [] h = refl
      at (y ∷ l) h = eq-eqb y.start x.end (h (omega arith))

  -- what goes on at e starts there or after it
  starts-after : (e : ℕ) (l : List Entry) → goes_on_at e l ≡ true → in_order l ≡ true → (i : ℕ) → i < length l → e ≤ (get_or l i d).start
  starts-after e [] g h i m = absurd (omega arith)
  starts-after e (x ∷ l) g h zero m = omega (arith, eqb-true x.start e g)
  starts-after e (x ∷ l) g h (suc i) m =
      let t = order-parts x l h in
      omega (arith, eqb-true x.start e g, t.0, starts-after x.end l t.1 t.2 i (omega arith))

  pub ends-before : (l : List Entry) → in_order l ≡ true → (i j : ℕ) → i < j → j < length l → (get_or l i d).end ≤ (get_or l j d).start
  ends-before [] h i j m n = absurd (omega arith)
  ends-before (x ∷ l) h i zero m n = absurd (omega arith)
  ends-before (x ∷ l) h zero (suc j) m n = let t = order-parts x l h in starts-after x.end l t.1 t.2 j (omega arith)
  ends-before (x ∷ l) h (suc i) (suc j) m n = ends-before l (order-parts x l h).2 i j (omega arith) (omega arith)
