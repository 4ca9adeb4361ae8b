-- A schedule with no zero and no failing entry does not matter: the reads hand over all that fits, whatever it is. Assumes nothing.
use mathlib.Core.Path.{◌≡◌, refl, sym, ap, ◌∙◌}
use mathlib.Core.Bool.{Bool, true, false}
use mathlib.Core.List.{List, [], ◌∷◌}
use Prim.Native.Nat.{ℕ, ◌+◌, ◌-◌, ◌≤◌, ◌<◌, min}
use native.Mathlib.Omega.{arith}
use lib.Dec.{eqb}
use borrow.Author.Tests.{eqb-true, ne_eqb}
use Rattle.form.specs.Numbers.{pick}
use Rattle.source.specs.declared.ParserSource.{ParserSource}
use Rattle.source.specs.declared.reads.Reads.{Reads}
use Rattle.source.specs.Reads.{FAILS, came, one, onward, fill}
use Rattle.source.specs.Window.{filled_in}

-- no entry is zero, and none fails
pub data Steady : List ℕ → Type 0 where
  none : Steady []
  more : {e : ℕ} {es : List ℕ} → 0 < e → e < FAILS → Steady es → Steady (e ∷ es)

-- what the reads give, whatever the schedule
pub record Full (room left : ℕ) (r : Reads) : Type 0 where
  pub all : r.got ≡ min room left
  pub fine : r.failed ≡ false

onward-full : (room left m : ℕ) (q : Reads) → m ≤ room → m ≤ left → (m ≡ 0 → min room left ≡ 0) → Full (room - m) (left - m) q → Full room left (onward (came m 1 false) q)
onward-full room left m q h₁ h₂ z f = by (eqb m 0) refl
  where
    by : (b : Bool) → eqb m 0 ≡ b → Full room left (pick b (came m 1 false) (came (m + q.got) (1 + q.used) q.failed))
    by true e = record { all = eqb-true m 0 e ∙ sym (z (eqb-true m 0 e)); fine = refl }
    by false e = record { all = omega (arith, f.all); fine = f.fine }

full_by : (room left e : ℕ) (b : Bool) (q r : Reads) → 0 < e → e < FAILS → eqb room 0 ≡ b → r ≡ came (min e (min room left)) 1 false
    → Full (room - min e (min room left)) (left - min e (min room left)) q → Full room left (pick b (came 0 0 false) (onward r q))
full_by room left e true q r h₁ h₂ t c f = let z = eqb-true room 0 t in record { all = omega arith; fine = refl }
full_by room left e false q r h₁ h₂ t c f = rw c (onward-full room left (min e (min room left)) q (omega arith) (omega arith) (λ z. omega arith) f)

one-steady : (room left e : ℕ) (es : List ℕ) → e < FAILS → one room left (e ∷ es) ≡ came (min e (min room left)) 1 false
unfolding one
one-steady room left e es h = rw (ne_eqb e FAILS (λ z. omega arith))

pub full : (room left : ℕ) (es : List ℕ) → Steady es → Full room left (fill room left es)
unfolding fill one
full room left [] none = record { all = refl; fine = refl }
full room left (e ∷ es) (more h₁ h₂ s) =
    let c = one-steady room left e es h₂ in
    full_by room left e (eqb room 0) _ (one room left (e ∷ es)) h₁ h₂ refl c (rw c (full (room - min e (min room left)) (left - min e (min room left)) es s))

-- so two schedules give the same bytes and leave the same buffer
pub same_bytes : (supply : List ℕ) (s : ParserSource) (buffer : List ℕ) (room left : ℕ) (es fs : List ℕ) → Steady es → Steady fs
    → filled_in supply s (fill room left es) buffer ≡ filled_in supply s (fill room left fs) buffer
same_bytes supply s buffer room left es fs p q =
    let n : (fill room left es).got ≡ (fill room left fs).got = (full room left es p).all ∙ sym (full room left fs q).all in
    ap (λ (k : ℕ). filled_in supply s (came k 0 false) buffer) n
