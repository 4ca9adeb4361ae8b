-- Skipping a container, an id at a time, without the count. Assumes nothing.
use Prim.Native.Nat.{ℕ, zero, suc, ◌+◌, ◌-◌, ◌≤◌, ◌<◌, zero-le}
use native.Mathlib.Omega.{arith}
use native.Mathlib.Nat.{add-zero}
use mathlib.Core.Path.{◌≡◌, refl, sym, ap, ◌∙◌}
use mathlib.Core.Bool.{Bool, true, false}
use mathlib.Core.List.{List, []}
use lib.ListN.{length, drop, length-drop, drop_of_length-le}
use lib.Dec.{eqb, leb}
use borrow.Author.Tests.{lt-leb}
use Rattle.form.specs.Numbers.{pick}
use Rattle.form.specs.Table.{number, text, colour, after}
use Rattle.form.specs.Ids.{OPEN, CLOSE}
use Rattle.form.specs.Refusals.{Fault, too_short}
use Rattle.form.specs.Readers.{Answer, found, refused, further, mapped, at}
use Rattle.form.specs.Reading.{num, string, payload}
use Rattle.form.specs.Values.{Value, Id}
use Rattle.form.specs.Skipping.{Skip, past, stopped, stepped, passing, or_stop, closed, turned, skip_f, skipping, skip_container, skip_value}
use Rattle.laws.proofs.Never.{never}
use Rattle.laws.proofs.Found.{All, payload-in}
use Rattle.laws.proofs.Lookups.{open_is, close-is}
use Rattle.laws.proofs.Places.{took, at-giving, num-short, num-there}

closed_same : (d p : ℕ) (f g : ℕ → Skip) → ((c : ℕ) → f c ≡ g c) → closed d p f ≡ closed d p g
unfolding closed
closed_same d p f g h = rw (h (d - 1))

turned_same : (i d p : ℕ) (f g : ℕ → Skip) → ((c : ℕ) → f c ≡ g c) → turned i d p f ≡ turned i d p g
unfolding turned
turned_same i d p f g h = rw (h (d + 1), h d, closed_same d p f g h)

stop-same : {A : Type 0} (p : ℕ) (a : Answer A) (f g : A → ℕ → Skip) → ((x : A) (n : ℕ) → a ≡ found x n → f x n ≡ g x n) → or_stop p a f ≡ or_stop p a g
unfolding or_stop
stop-same p (found x n) f g h = h x n refl
stop-same p (refused why) f g h = refl

-- what is passed never ends before its place
pub passing-on : (i : ℕ) (s : List ℕ) (p : ℕ) {x : Unit {0}} {m : ℕ} → passing i s p ≡ found x m → p ≤ m
unfolding passing at further mapped
passing-on i s p {x} {m} e = go (payload (stepped i (after i)) (drop p s)) e
  where
    go : (y : Answer Value) → mapped (λ _. tt {0}) (further p y) ≡ found x m → p ≤ m
    go (found v k) q = let z : p + k ≡ m = cc in omega arith
    go (refused why) q = never (cc)

past_end : (k d : ℕ) (s : List ℕ) (p : ℕ) → length s < p → skip_f (suc k) d s p ≡ stopped (too_short 2) p
unfolding skip_f or_stop
past_end k d s p h =
    let e : drop p s ≡ [] = drop_of_length-le s {i = p} (omega arith) in
    let q : at (num 2) s p ≡ refused (too_short 2) = num-short 2 s p (rw e (omega arith)) ∙ rw e in
    rw q

-- any count above that of the bytes that are left gives the same
skip-same : (k m d : ℕ) (s : List ℕ) (p : ℕ) → length s < p + k → length s < p + m → skip_f k d s p ≡ skip_f m d s p
unfolding skip_f
skip-same zero zero d s p h l = refl
skip-same zero (suc m) d s p h l = sym (past_end m d s p (omega arith))
skip-same (suc k) zero d s p h l = past_end k d s p (omega arith)
skip-same (suc k) (suc m) d s p h l =
    stop-same p (at (num 2) s p) _ _ (λ i n e.
    stop-same n (passing i s n) _ _ (λ v q f.
    let a = (took 2 s p e).next in
    let b = passing-on i s n f in
    turned_same i d q _ _ (λ c. skip-same k m c s q (omega arith) (omega arith))))

-- one id, and on
pub skip_step : (d : ℕ) (s : List ℕ) (p : ℕ)
    → skipping d s p ≡ or_stop p (at (num 2) s p) (λ i n. or_stop n (passing i s n) (λ _ m. turned i d m (λ c. skipping c s m)))
unfolding skipping skip_f
skip_step d s p =
    stop-same p (at (num 2) s p) _ _ (λ i n e.
    stop-same n (passing i s n) _ _ (λ v q f.
    let a = (took 2 s p e).next in
    let b = passing-on i s n f in
    turned_same i d q _ _ (λ c. skip-same (length s) (suc (length s)) c s q (omega arith) (omega arith))))

-- ---- the ways that a turn ends

module _ (d : ℕ) (s : List ℕ) (p : ℕ) where
  pub cut-id : {why : Fault} → at (num 2) s p ≡ refused why → skipping d s p ≡ stopped why p
  unfolding or_stop
  cut-id e = skip_step d s p ∙ rw e

  pub cut-payload : {i n : ℕ} {why : Fault} → at (num 2) s p ≡ found i n → passing i s n ≡ refused why → skipping d s p ≡ stopped why n
  unfolding or_stop
  cut-payload e f = skip_step d s p ∙ rw (e, f)

  pub turn : {i n m : ℕ} → at (num 2) s p ≡ found i n → passing i s n ≡ found tt m → skipping d s p ≡ turned i d m (λ c. skipping c s m)
  unfolding or_stop
  turn e f = skip_step d s p ∙ rw (e, f)

-- what is passed after an id, by its payload
mapped-tt : {A B : Type 0} (f : A → B) (x : Answer A) → mapped (λ _. tt {0}) (mapped f x) ≡ mapped (λ _. tt {0}) x
unfolding mapped
mapped-tt f (found a n) = refl
mapped-tt f (refused why) = refl

module _ (i : ℕ) (s : List ℕ) (p : ℕ) where
  pub pass-number : {w : ℕ} {f : ℕ → Value} → after i ≡ number w f → passing i s p ≡ mapped (λ _. tt) (at (num w) s p)
  unfolding passing stepped payload
  pass-number {w} {f} e = rw e (ap (mapped (λ _. tt)) (at-giving (num w) f s p) ∙ mapped-tt f (at (num w) s p))

  pub pass-text : {f : List ℕ → Value} → after i ≡ text f → passing i s p ≡ mapped (λ _. tt) (at string s p)
  unfolding passing stepped payload
  pass-text {f} e = rw e (ap (mapped (λ _. tt)) (at-giving string f s p) ∙ mapped-tt f (at string s p))

  pub pass-colour : after i ≡ colour → passing i s p ≡ found tt p
  unfolding passing stepped payload mapped
  pass-colour e = rw (e, at-giving (num 0) (λ _. Id i) s p, num-there 0 s p zero-le, add-zero p)

-- ---- an Open, a Close, and what is neither

pub turned-open : (d m : ℕ) (go : ℕ → Skip) → turned 0x0003 d m go ≡ go (d + 1)
unfolding turned
turned-open d m go = rw open_is

pub turned_up : (d m : ℕ) (go : ℕ → Skip) → 2 ≤ d → turned 0x0004 d m go ≡ go (d - 1)
unfolding turned closed
turned_up d m go h = rw (open_is, close-is, lt-leb d 1 h)

pub turned_on : (i d m : ℕ) (go : ℕ → Skip) → eqb i 0x0003 ≡ false → eqb i 0x0004 ≡ false → turned i d m go ≡ go d
unfolding turned
turned_on i d m go o c = rw (open_is, close-is, o, c)

-- ---- a skip that is stopped stops at a place of the bytes

abbrev pub StopsBy : ℕ → Skip → Type 0
StopsBy n (past p) = Unit {0}
StopsBy n (stopped why p) = p ≤ n

-- what is passed ends within the bytes
passing-in : (i : ℕ) (s : List ℕ) (p : ℕ) {x : Unit {0}} {m : ℕ} → p ≤ length s → passing i s p ≡ found x m → m ≤ length s
unfolding passing at further mapped
passing-in i s p {x} {m} h e = go (payload (stepped i (after i)) (drop p s)) (payload-in (stepped i (after i)) (drop p s)) e
  where
    go : (y : Answer Value) → All (λ _ n. n ≤ length (drop p s)) y → mapped (λ _. tt {0}) (further p y) ≡ found x m → m ≤ length s
    go (found v k) l q = let z : p + k ≡ m = cc in omega (arith, l, length-drop p s)
    go (refused why) l q = never (cc)

-- a turn goes on within them
turned_by : (n i d m : ℕ) (go : ℕ → Skip) → ((c : ℕ) → StopsBy n (go c)) → StopsBy n (turned i d m go)
unfolding turned closed
turned_by n i d m go h = by (eqb i OPEN) (eqb i CLOSE) (leb d 1)
  where
    by : (o c l : Bool) → StopsBy n (pick o (go (d + 1)) (pick c (pick l (past m) (go (d - 1))) (go d)))
    by true c l = h (d + 1)
    by false true true = tt
    by false true false = h (d - 1)
    by false false l = h d

stop-by : {A : Type 0} (n p : ℕ) (a : Answer A) (f : A → ℕ → Skip) → p ≤ n → ((x : A) (m : ℕ) → a ≡ found x m → StopsBy n (f x m)) → StopsBy n (or_stop p a f)
unfolding or_stop
stop-by n p (found x m) f h g = g x m refl
stop-by n p (refused why) f h g = h

skip_by : (k d : ℕ) (s : List ℕ) (p : ℕ) → p ≤ length s → StopsBy (length s) (skip_f k d s p)
unfolding skip_f
skip_by zero d s p h = h
skip_by (suc k) d s p h =
    stop-by (length s) p (at (num 2) s p) _ h (λ i n e.
    let a : n ≤ length s = omega (arith, (took 2 s p e).next, (took 2 s p e).there, length-drop p s) in
    stop-by (length s) n (passing i s n) _ a (λ v m f.
    turned_by (length s) i d m _ (λ c. skip_by k c s m (passing-in i s n a f))))

pub container-by : (s : List ℕ) (p : ℕ) → p ≤ length s → StopsBy (length s) (skip_container s p)
unfolding skip_container skipping
container-by s p h = skip_by (suc (length s)) 1 s p h

pub value-by : (i : ℕ) (s : List ℕ) (p : ℕ) → p ≤ length s → StopsBy (length s) (skip_value i s p)
unfolding skip_value
value-by i s p h = by (eqb i OPEN)
  where
    by : (o : Bool) → StopsBy (length s) (pick o (skip_container s p) (or_stop p (at (payload (after i)) s p) (λ v n. past n)))
    by true = container-by s p h
    by false = stop-by (length s) p (at (payload (after i)) s p) (λ v n. past n) h (λ v n e. tt)
