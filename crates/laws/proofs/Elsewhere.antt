-- The default of a `match` on an id, whichever of the table's ids its arms have. Assumes nothing.
use Prim.Native.Nat.{ℕ, zero, suc, ◌+◌, ◌-◌, ◌≤◌, ◌<◌}
use native.Mathlib.Omega.{arith}
use mathlib.Core.Path.{◌≡◌, refl, sym, ap, ◌∙◌}
use mathlib.Core.Bool.{Bool, true, false, ◌&&◌, ◌||◌}
use mathlib.Core.List.{List, [], ◌∷◌}
use lib.Dec.{leb, eqb}
use borrow.Author.Tests.{eqb-true, eqb-false, leb-true}
use types.Run.{OneOf}
use Rattle.form.specs.Table.{Entry, ◌is◌, ◌to◌is◌, entries, among, find, is_some, reserved}
use Rattle.laws.proofs.Never.{never}
use Rattle.laws.proofs.Lookups.{missed}

-- ---- a test that each of the table's ids passes

abbrev every : (ℕ → Bool) → List ℕ → Bool
every test [] = true
every test (k ∷ ks) = test k && every test ks

-- n ids from i on
abbrev through : (ℕ → Bool) → ℕ → ℕ → Bool
through test zero i = true
through test (suc n) i = test i && through test n (i + 1)

abbrev pub each_id : (ℕ → Bool) → List Entry → Bool
each_id test [] = true
each_id test (ks is p ∷ es) = every test ks && each_id test es
each_id test (lo to hi is p ∷ es) = through test (hi - lo + 1) lo && each_id test es

pub both : (a b : Bool) → a && b ≡ true → (a ≡ true) × (b ≡ true)
both true b h = (refl, h)
both false b h = never (cc)

either : {A : Type 0} (b : Bool) → (b ≡ true → A) → (b ≡ false → A) → A
either true f g = f refl
either false f g = g refl

module _ (test : ℕ → Bool) (x : ℕ) where
  in-every : (ks : List ℕ) → every test ks ≡ true → among x ks ≡ true → test x ≡ true
  in-every [] e h = cc
  in-every (k ∷ ks) e h =
      let t = both (test k) (every test ks) e in
      either (eqb x k) (λ q. ap test (eqb-true x k q) ∙ t.0) (λ q. in-every ks t.1 (rw q at h))

  in-through : (n i : ℕ) → through test n i ≡ true → i ≤ x → x < i + n → test x ≡ true
  in-through zero i e l h = absurd (omega arith)
  in-through (suc n) i e l h =
      let t = both (test i) (through test n (i + 1)) e in
      either (eqb i x) (λ q. ap test (sym (eqb-true i x q)) ∙ t.0)
      (λ q. in-through n (i + 1) t.1 (omega (arith, eqb-false i x q)) (omega arith))

  in-entries : (es : List Entry) → each_id test es ≡ true → is_some (find es x) ≡ true → test x ≡ true
  unfolding find
  in-entries [] e h = cc
  in-entries (ks is p ∷ es) e h =
      let t = both (every test ks) (each_id test es) e in
      either (among x ks) (in-every ks t.0) (λ q. in-entries es t.1 (rw q at h))
  in-entries (lo to hi is p ∷ es) e h =
      let t = both (through test (hi - lo + 1) lo) (each_id test es) e in
      either (leb lo x && leb x hi)
      (λ q. let b = both (leb lo x) (leb x hi) q in
      let l = leb-true lo x b.0 in let u = leb-true x hi b.1 in in-through (hi - lo + 1) lo t.0 l (omega arith))
      (λ q. in-entries es t.1 (rw q at h))

-- ---- the default

abbrev pub listed : ℕ → List (List ℕ) → Bool
listed x [] = false
listed x (ks ∷ kss) = among x ks || listed x kss

-- what the default of a `match` whose arms have these keys knows of its number, after N
abbrev pub MissedAll : Type 0 → List (List ℕ) → ℕ → Type 0
MissedAll N [] x = N
MissedAll N (ks ∷ kss) x = MissedAll (N × (OneOf ks x → ⊥)) kss x

first-missed : (N : Type 0) (kss : List (List ℕ)) (x : ℕ) → MissedAll N kss x → N
first-missed N [] x m = m
first-missed N (ks ∷ kss) x m = (first-missed (N × (OneOf ks x → ⊥)) kss x m).0

not_listed : (N : Type 0) (kss : List (List ℕ)) (x : ℕ) → MissedAll N kss x → listed x kss ≡ false
not_listed N [] x m = refl
not_listed N (ks ∷ kss) x m =
    rw (missed x ks (first-missed (N × (OneOf ks x → ⊥)) kss x m).1) (not_listed (N × (OneOf ks x → ⊥)) kss x m)

-- a test that plain ids pass, and the table's ids that no arm has, holds in the default
pub elsewhere : (test : ℕ → Bool) (kss : List (List ℕ)) → ((i : ℕ) → reserved i ≡ false → test i ≡ true)
    → each_id (λ k. listed k kss || test k) entries ≡ true → (x : ℕ) → MissedAll (Unit {0}) kss x → test x ≡ true
unfolding reserved
elsewhere test kss plain e x m =
    either (reserved x) (λ q. rw (not_listed (Unit {0}) kss x m) at (in-entries (λ k. listed k kss || test k) x entries e q)) (plain x)
