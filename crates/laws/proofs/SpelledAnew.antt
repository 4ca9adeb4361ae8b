-- Saves of which each token is spelled anew, by f: they read back, and are no longer than c times the save. Assumes nothing.
use Prim.Native.Nat.{ℕ, zero, suc, ◌+◌, ◌*◌, ◌≤◌, ◌<◌, zero-le}
use native.Mathlib.Nat.{mul-add}
use native.Mathlib.Omega.{arith}
use mathlib.Core.Path.{◌≡◌, refl, ap}
use mathlib.Core.List.{List, [], ◌∷◌, ◌++◌}
use lib.ListN.{length, drop, length-append, length-drop}
use lib.Dec.{T}
use lib.Seq.{drop-append_seam}
use Rattle.form.specs.Numbers.{Bytes}
use Rattle.form.specs.Values.{Value}
use Rattle.form.specs.Readers.{Answer, found, refused}
use Rattle.form.specs.Reading.{token}
use Rattle.form.specs.Saves.{Walk, step, walk_f, values, whole, spell_all}
use Rattle.laws.proofs.LittleEndian.{drop-bytes}
use Rattle.laws.proofs.Found.{All, Within, token-in}

-- P holds of each value
abbrev pub Each : (Value → Type 0) → List Value → Type 0
Each P [] = Unit {0}
Each P (v ∷ vs) = P v × Each P vs

walk_step : (k at : ℕ) (bs : List ℕ) → 0 < length bs → walk_f (suc k) at bs ≡ step at (token bs) (λ n. walk_f k (at + n) (drop n bs))
unfolding walk_f
walk_step k at [] h = absurd (omega arith)
walk_step k at (b ∷ s) h = refl

module _ (f : Value → List ℕ) (Good : Value → Type 0) (reads : (v : Value) → Good v → (s : List ℕ) → token (f v ++ s) ≡ found v (length (f v))) where
  some_bytes : (v : Value) → Good v → 2 ≤ length (f v)
  some_bytes v g = let k : Within (f v ++ []) (length (f v)) = rw (reads v g []) at (token-in (f v ++ [])) in k.some

  -- what is spelled reads back
  pub back : (vs : List Value) → Each Good vs → (k at : ℕ) → length (spell_all f vs) ≤ k
      → (values (walk_f k at (spell_all f vs)) ≡ vs) × T (whole (walk_f k at (spell_all f vs)))
  unfolding spell_all walk_f values whole step
  back [] e zero at h = (refl, tt)
  back [] e (suc k) at h = (refl, tt)
  back (v ∷ vs) e zero at h = absurd (omega (arith, some_bytes v e.0, length-append (f v) (spell_all f vs)))
  back (v ∷ vs) e (suc k) at h =
      let l = length-append (f v) (spell_all f vs) in
      let m = some_bytes v e.0 in
      let r = back vs e.1 k (at + length (f v)) (omega arith) in
      rw (walk_step k at (f v ++ spell_all f vs) (omega arith), reads v e.0 (spell_all f vs), drop-append_seam (f v) (spell_all f vs))
      (ap (λ (ws : List Value). v ∷ ws) r.0, r.1)

-- what is known of each value that is read: it is spelled in at most c times its bytes, and where P holds of it, Good does
pub record Fair (f : Value → List ℕ) (c : ℕ) (P Good : Value → Type 0) (s : List ℕ) (v : Value) (n : ℕ) : Type 0 where
  pub some : 2 ≤ n
  pub there : n ≤ length s
  pub good : P v → Good v
  pub short : length (f v) ≤ c * n

module _ (f : Value → List ℕ) (c : ℕ) (P Good : Value → Type 0) (fair : (s : List ℕ) → Bytes s → All (Fair f c P Good s) (token s)) where
  abbrev Kept : List ℕ → Walk → Type 0
  Kept s w = T (whole w) → Each P (values w) → Each Good (values w) × (length (spell_all f (values w)) ≤ c * length s)

  kept_step : (at : ℕ) (s : List ℕ) (a : Answer Value) (go : ℕ → Walk) → All (Fair f c P Good s) a → ((n : ℕ) → 2 ≤ n → Kept (drop n s) (go n)) → Kept s (step at a go)
  unfolding step values whole spell_all
  kept_step at s (found v n) go r ih w t =
      let k = ih n r.some w t.1 in
      let e : length (drop n s) + n ≡ length s = omega (arith, length-drop n s, r.there) in
      let q : c * length s ≡ c * length (drop n s) + c * n = rw (← e) (mul-add c (length (drop n s)) n) in
      ((r.good t.0, k.0), omega (arith, length-append (f v) (spell_all f (values (go n))), q, r.short, k.1))
  kept_step at s (refused why) go r ih w t = absurd w

  pub kept : (k at : ℕ) (s : List ℕ) → length s ≤ k → Bytes s → Kept s (walk_f k at s)
  unfolding walk_f values spell_all
  kept zero at [] h b w t = (tt, zero-le)
  kept zero at (x ∷ s) h b w t = absurd (omega arith)
  kept (suc k) at [] h b w t = (tt, zero-le)
  kept (suc k) at (x ∷ s) h b w t =
      kept_step at (x ∷ s) (token (x ∷ s)) (λ n. walk_f k (at + n) (drop n (x ∷ s))) (fair (x ∷ s) b)
      (λ n l. kept k (at + n) (drop n (x ∷ s)) (rw length-drop (omega arith)) (drop-bytes n (x ∷ s) b)) w t
