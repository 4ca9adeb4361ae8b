-- Laws of the table of ids: what holds of each entry holds of what follows any id; and an id in the form in which an arm of a
-- `match` knows it. Assumes nothing.
use Prim.Native.Nat.{ℕ, zero, suc, ◌+◌, ◌-◌, ◌≤◌, ◌<◌}
use native.Mathlib.Omega.{arith}
use mathlib.Core.Path.{◌≡◌, refl, sym, ap, subst, ◌∙◌}
use mathlib.Core.Bool.{Bool, true, false, ◌&&◌}
use mathlib.Core.Option.{Option, none, some}
use mathlib.Core.List.{List, [], ◌∷◌}
use mathlib.Core.Logic.{inl, inr}
use lib.Dec.{T, eqb, leb, leb→le}
use borrow.Author.Tests.{eqb-true, eqb-false, le-leb, lt-leb, ne_eqb}
use store.Enc.{and_l, and_r}
use types.Run.{OneOf}
use Rattle.form.specs.Numbers.{pick, negated}
use Rattle.form.specs.Values.{F64, Lookup, Id, Unquoted, kind}
use Rattle.form.specs.Table.{Payload, number, text, nothing, Entry, ◌is◌, ◌to◌is◌, table, entries, among, find, or_plain, after, is_some, reserved}
use Rattle.form.specs.Ids.{OPEN, CLOSE, CHANNEL}
use Rattle.laws.proofs.Never.{never}

-- ---- what holds of each entry

-- P holds of what each entry says
abbrev pub InEach : (Payload → Type 0) → List Entry → Type 0
InEach P [] = Unit {0}
InEach P (ks is p ∷ es) = P p × InEach P es
InEach P (lo to hi is p ∷ es) = ((i : ℕ) → lo ≤ i → i ≤ hi → P (p i)) × InEach P es

-- P holds of each id of the entries, with what they say of it
abbrev pub InEachAt : (ℕ → Payload → Type 0) → List Entry → Type 0
InEachAt P [] = Unit {0}
InEachAt P (ks is p ∷ es) = ((i : ℕ) → T (among i ks) → P i p) × InEachAt P es
InEachAt P (lo to hi is p ∷ es) = ((i : ℕ) → lo ≤ i → i ≤ hi → P i (p i)) × InEachAt P es

each_at : (P : Payload → Type 0) (es : List Entry) → InEach P es → InEachAt (λ _ p. P p) es
each_at P [] h = tt
each_at P (ks is p ∷ es) h = ((λ i t. h.0), each_at P es h.1)
each_at P (lo to hi is p ∷ es) h = (h.0, each_at P es h.1)

abbrev InSome : (Payload → Type 0) → Option Payload → Type 0
InSome P none = Unit {0}
InSome P (some p) = P p

in-pick : (P : Payload → Type 0) (b : Bool) (x y : Option Payload) → (T b → InSome P x) → InSome P y → InSome P (pick b x y)
in-pick P true x y f g = f tt
in-pick P false x y f g = g

in-found-at : (P : ℕ → Payload → Type 0) (es : List Entry) → InEachAt P es → (i : ℕ) → InSome (P i) (find es i)
unfolding find
in-found-at P [] h i = tt
in-found-at P (ks is p ∷ es) h i = in-pick (P i) (among i ks) (some p) (find es i) (h.0 i) (in-found-at P es h.1 i)
in-found-at P (lo to hi is p ∷ es) h i =
    in-pick (P i) (leb lo i && leb i hi) (some (p i)) (find es i)
    (λ t. h.0 i (leb→le _ _ (and_l (leb lo i) (leb i hi) t)) (leb→le _ _ (and_r (leb lo i) (leb i hi) t)))
    (in-found-at P es h.1 i)

in-found : (P : Payload → Type 0) (es : List Entry) → InEach P es → (i : ℕ) → InSome P (find es i)
in-found P es h i = in-found-at (λ _ p. P p) es (each_at P es h) i

-- what holds of each entry, and of an id that the table does not have, holds of what follows any id
pub by-table-at : (P : ℕ → Payload → Type 0) → InEachAt P entries → (i : ℕ) → (reserved i ≡ false → P i (nothing (Id i))) → P i (after i)
unfolding after reserved or_plain
by-table-at P h i d = go (find entries i) (in-found-at P entries h i) d
  where
    go : (o : Option Payload) → InSome (P i) o → (is_some o ≡ false → P i (nothing (Id i))) → P i (or_plain i o)
    go none h d = d refl
    go (some p) h d = h

pub by-table : (P : Payload → Type 0) → InEach P entries → (i : ℕ) → (reserved i ≡ false → P (nothing (Id i))) → P (after i)
by-table P h i d = by-table-at (λ _ p. P p) (each_at P entries h) i d

-- the same, where it matters whether the table has the id
pub reserved-after : (P : Bool → Payload → Type 0) → InEach (P true) entries → (i : ℕ) → P false (nothing (Id i)) → P (reserved i) (after i)
unfolding after reserved or_plain
reserved-after P h i d = go (find entries i) (in-found (P true) entries h i)
  where
    go : (o : Option Payload) → InSome (P true) o → P (is_some o) (or_plain i o)
    go none h = d
    go (some p) h = h

pub plain-after : (i : ℕ) → reserved i ≡ false → after i ≡ nothing (Id i)
unfolding after reserved or_plain
plain-after i e = go (find entries i) e
  where
    go : (o : Option Payload) → is_some o ≡ false → or_plain i o ≡ nothing (Id i)
    go none e = refl
    go (some p) e = cc

-- ---- the ids of a colour

pub open_is : OPEN ≡ 0x0003
unfolding OPEN kind entries table
open_is = refl

pub close-is : CLOSE ≡ 0x0004
unfolding CLOSE kind entries table
close-is = refl

pub channel-is : CHANNEL ≡ 0x0014
unfolding CHANNEL kind entries table
channel-is = refl

-- ---- the arms of a `match` on an id

-- f has the value v at each of the keys
abbrev pub AtEach : {A : Type 0} → (ℕ → A) → A → List ℕ → Type 0
AtEach f v [] = Unit {0}
AtEach f v (k ∷ ks) = (f k ≡ v) × AtEach f v ks

-- so it has it at a number that is one of them: an arm
pub arm : {A : Type 0} (f : ℕ → A) {v : A} {x : ℕ} (ks : List ℕ) → AtEach f v ks → OneOf ks x → f x ≡ v
arm f [] t h = absurd h
arm f (k ∷ []) t h = ap f h ∙ t.0
arm f (k ∷ k' ∷ ks) t (inl h) = ap f h ∙ t.0
arm f (k ∷ k' ∷ ks) t (inr h) = arm f (k' ∷ ks) t.1 h

pub missed : (x : ℕ) (ks : List ℕ) → (OneOf ks x → ⊥) → among x ks ≡ false
missed x [] h = refl
missed x (k ∷ []) h = rw (ne_eqb x k h)
missed x (k ∷ k' ∷ ks) h = rw (ne_eqb x k (λ e. h (inl e))) (missed x (k' ∷ ks) (λ e. h (inr e)))

-- what the default of a `match` over the table's entries knows of its number, after N. The ranges come last in a `match`
abbrev pub Missed : Type 0 → List Entry → ℕ → Type 0
Missed N [] x = N
Missed N (ks is p ∷ es) x = Missed (N × (OneOf ks x → ⊥)) es x
Missed N (lo to hi is p ∷ es) x = Missed N es x

abbrev ranges : List Entry → List Entry
ranges [] = []
ranges (ks is p ∷ es) = ranges es
ranges (lo to hi is p ∷ es) = (lo to hi is p) ∷ ranges es

before : (N : Type 0) (es : List Entry) (x : ℕ) → Missed N es x → N
before N [] x m = m
before N (ks is p ∷ es) x m = (before (N × (OneOf ks x → ⊥)) es x m).0
before N (lo to hi is p ∷ es) x m = before N es x m

none_of : (N : Type 0) (es : List Entry) (x : ℕ) → Missed N es x → find es x ≡ find (ranges es) x
unfolding find
none_of N [] x m = refl
none_of N (ks is p ∷ es) x m = rw (missed x ks (before (N × (OneOf ks x → ⊥)) es x m).1) (none_of (N × (OneOf ks x → ⊥)) es x m)
none_of N (lo to hi is p ∷ es) x m = ap (pick (leb lo x && leb x hi) (some (p x))) (none_of N es x m)

-- no entry by itself has it: one of the ranges does, or it is plain
in-ranges : (x : ℕ) → Missed (Unit {0}) entries x → find entries x ≡ find (ranges entries) x
in-ranges x m = none_of (Unit {0}) entries x m

-- an id that only an entry by itself has is not one that none has
step : (x lo : ℕ) → find entries x ≡ find (ranges entries) x → is_some (find entries lo) ≡ true → is_some (find (ranges entries) lo) ≡ false → lo ≤ x → suc lo ≤ x
step x lo e k k' h =
    let ne : x ≡ lo → ⊥ =
    λ q. let z : ◌≡◌ {A = Bool} true false = sym k ∙ sym (ap (λ (y : ℕ). is_some (find entries y)) q) ∙ ap is_some e ∙ ap (λ (y : ℕ). is_some (find (ranges entries) y)) q ∙ k' in
    never (cc)
    in
    omega (arith, ne)

-- the table has every id from 0d3e up to the first range
pub range-from : (x : ℕ) → Missed (Unit {0}) entries x → 0x0d3e ≤ x → 0x0d47 ≤ x
unfolding find entries table
range-from x m h =
    let e = in-ranges x m in
    step x 0x0d46 e refl refl (step x 0x0d45 e refl refl (step x 0x0d44 e refl refl (step x 0x0d43 e refl refl (step x 0x0d42 e refl refl (step x 0x0d41 e refl refl (step x 0x0d40 e refl refl (step x 0x0d3f e refl refl (step x 0x0d3e e refl refl h))))))))

-- ---- the ranges

-- P holds of n numbers from i on
abbrev Through : (ℕ → Type 0) → ℕ → ℕ → Type 0
Through P zero i = Unit {0}
Through P (suc n) i = P i × Through P n (i + 1)

-- so it holds of a number among them
among-them : (P : ℕ → Type 0) (n i : ℕ) → Through P n i → (x : ℕ) → i ≤ x → x < i + n → P x
among-them P zero i h x l u = absurd (omega arith)
among-them P (suc n) i h x l u = go (eqb i x) refl (λ ne. among-them P n (i + 1) h.1 x (omega (arith, ne)) (omega arith))
  where
    go : (b : Bool) → eqb i x ≡ b → ((i ≡ x → ⊥) → P x) → P x
    go true q f = subst P (eqb-true i x q) h.0
    go false q f = f (eqb-false i x q)

pub compact-in : (x : ℕ) → 0x0d47 ≤ x → x < 0x0d4f → after x ≡ number (x - 0x0d47) F64
unfolding after find entries table or_plain
compact-in x lo hi =
    among-them (λ i. after i ≡ number (i - 0x0d47) F64) 8 0x0d47 (refl, (refl, (refl, (refl, (refl, (refl, (refl, (refl, tt)))))))) x lo hi

pub negated-in : (x : ℕ) → 0x0d4f ≤ x → x < 0x0d56 → after x ≡ number (x - 0x0d4e) (λ n. F64 (negated n))
unfolding after find entries table or_plain
negated-in x lo hi =
    among-them (λ i. after i ≡ number (i - 0x0d4e) (λ n. F64 (negated n))) 7 0x0d4f (refl, (refl, (refl, (refl, (refl, (refl, (refl, tt))))))) x lo hi

module _ (x : ℕ) (m : Missed (Unit {0}) entries x) where
  by-range : (o : Option Payload) → find (ranges entries) x ≡ o → after x ≡ or_plain x o
  unfolding after
  by-range o e = ap (or_plain x) (in-ranges x m ∙ e)

  pub compact-at : 0x0d3e ≤ x → x < 0x0d4f → after x ≡ number (x - 0x0d47) F64
  compact-at lo hi = compact-in x (range-from x m lo) hi

  pub plain-below : x < 0x0d3e → after x ≡ nothing (Id x)
  unfolding find entries table or_plain
  plain-below hi = by-range none (simp (lt-leb 0x0d47 x (omega arith), lt-leb 0x0d4f x (omega arith)))

  pub plain-above : 0x0d56 ≤ x → after x ≡ nothing (Id x)
  unfolding find entries table or_plain
  plain-above lo =
      by-range none (simp (le-leb 0x0d47 x (omega arith), lt-leb x 0x0d4e (omega arith), le-leb 0x0d4f x (omega arith), lt-leb x 0x0d55 lo))

-- the arms of several ids
pub unquoted-at : {x : ℕ} → OneOf (0x0017 ∷ 0x0d5e ∷ []) x → after x ≡ text Unquoted
unfolding after or_plain find entries table
unquoted-at h = arm after (0x0017 ∷ 0x0d5e ∷ []) (refl, (refl, tt)) h

pub lookup1-at : {x : ℕ} → OneOf (0x0d40 ∷ 0x0d43 ∷ 0x0d5a ∷ []) x → after x ≡ number 1 Lookup
unfolding after or_plain find entries table
lookup1-at h = arm after (0x0d40 ∷ 0x0d43 ∷ 0x0d5a ∷ []) (refl, (refl, (refl, tt))) h

pub lookup2-at : {x : ℕ} → OneOf (0x0d3e ∷ 0x0d44 ∷ 0x0d5b ∷ []) x → after x ≡ number 2 Lookup
unfolding after or_plain find entries table
lookup2-at h = arm after (0x0d3e ∷ 0x0d44 ∷ 0x0d5b ∷ []) (refl, (refl, (refl, tt))) h

pub lookup3-at : {x : ℕ} → OneOf (0x0d41 ∷ 0x0d45 ∷ 0x0d5c ∷ []) x → after x ≡ number 3 Lookup
unfolding after or_plain find entries table
lookup3-at h = arm after (0x0d41 ∷ 0x0d45 ∷ 0x0d5c ∷ []) (refl, (refl, (refl, tt))) h

pub lookup4-at : {x : ℕ} → OneOf (0x0d3f ∷ 0x0d46 ∷ 0x0d5d ∷ []) x → after x ≡ number 4 Lookup
unfolding after or_plain find entries table
lookup4-at h = arm after (0x0d3f ∷ 0x0d46 ∷ 0x0d5d ∷ []) (refl, (refl, (refl, tt))) h
