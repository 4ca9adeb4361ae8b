-- How tokens are spelled: what the leaves answer, the arms of the code's `match`, and runs. Assumes nothing.
use Prim.Native.Nat.{ℕ, ◌+◌, ◌-◌, ◌^◌, ◌≤◌, ◌<◌, zero-le}
use native.Mathlib.Omega.{arith}
use native.Mathlib.Nat.{add-zero}
use mathlib.Core.Path.{◌≡◌, refl, sym, ap, ◌∙◌}
use mathlib.Core.Bool.{Bool, true, false, ◌&&◌, ◌||◌, and-false, or-true}
use mathlib.Core.List.{List}
use lib.ListN.{length, take, drop, get_or, length-drop}
use lib.Seq.{drop-drop}
use lib.Dec.{leb, lit<}
use borrow.Author.Tests.{lt-leb, lt-ltb}
use mir.Syntax.{w8}
use mir.Val.{Fits}
use Rattle.std.specs.Prelude.{Option, None, Some}
use Rattle.form.specs.Numbers.{le}
use Rattle.form.specs.Values as F
use Rattle.form.specs.Values.{kind}
use Rattle.form.specs.Table as T
use Rattle.form.specs.Table.{number, entries}
use Rattle.form.specs.Readers.{Answer, Reader, found, refused, further, and_then, mapped, at}
use Rattle.form.specs.Reading.{next as next_of, num, string, rgb, payload, token}
use Rattle.form.specs.Spelling.{spell, reason, wide, writable}
use Rattle.laws.proofs.LittleEndian.{drop-bytes, bytes-all}
use Rattle.laws.proofs.Places.{took, num-there, at-giving, by-id, string-then}
use Rattle.laws.proofs.Elsewhere.{each_id, listed, MissedAll, elsewhere}
use Rattle.laws.proofs.Standing as Standing
use Rattle.laws.proofs.Standing.{KeptNumber, KeptText, KeptColour, number-stands, text-stands, colour-stands, alone, plain-alone, alone-kept}
use Rattle.token.proofs.Walks.{read}
use Rattle.laws.proofs.Never.{never}
use Rattle.normaliser.specs.declared.spelling.Spelling.{Spelling}
use Rattle.normaliser.specs.declared.spelling.Spelling.TheVariants.{Stands, Number}
use Rattle.normaliser.specs.declared.spelling.Number.TheVariants.{F64, Lookup}
use Rattle.normaliser.specs.Spellings.{Below, Within, Floats, Indexes, SpeltToken, Spelt, Stand}
use Rattle.normaliser.proofs.Joining.{spells_then, spells-none, between-then, between_none}
use Rattle.normaliser.proofs.Steps.{read-spells}

-- ---- what the leaves answer

-- the length of a text, and where it ends
record Length (s : List ℕ) (p q : ℕ) : Type 0 where
  there : 2 ≤ length (drop p s)
  fits : 2 + le (take 2 (drop p s)) ≤ length (drop p s)
  ends : q ≡ p + (2 + le (take 2 (drop p s)))

text-length : (s : List ℕ) (p : ℕ) {t : List ℕ} {q : ℕ} → at string s p ≡ found t q → Length s p q
unfolding and_then mapped num
text-length s p {t} {q} e = go (at (num 2) s p) refl (sym (string-then s p) ∙ e)
  where
    go : (x : Answer ℕ) → at (num 2) s p ≡ x → and_then x (λ n b. at (next_of n) s b) ≡ found t q → Length s p q
    go (found n b) x y =
        let a = took 2 s p x in
        let c = took n s b (at-giving (next_of n) le s b ∙ ap (mapped le) y) in
        record {
          there = a.there;
          fits = omega (arith, a.value, a.next, c.there, length-drop p s, length-drop b s);
          ends = omega (arith, a.value, a.next, c.next);
        }
    go (refused why) x y = never (cc)

-- where a reading that began at a place ends
record Ended {A : Type 0} (f : Reader A) (s : List ℕ) (p : ℕ) (a : A) (q : ℕ) : Type 0 where
  size : ℕ
  read : f (drop p s) ≡ found a size
  ends : q ≡ p + size

ended : {A : Type 0} (f : Reader A) (s : List ℕ) (p : ℕ) {a : A} {q : ℕ} → at f s p ≡ found a q → Ended f s p a q
unfolding at further
ended f s p {a} {q} e = go (f (drop p s)) refl e
  where
    go : (x : Answer _) → f (drop p s) ≡ x → further p x ≡ found a q → Ended f s p a q
    go (found c m) r e = let k : c ≡ a = cc in record { size = m; read = r ∙ ap (λ z. found z m) k; ends = cc }
    go (refused why) r e = never (cc)

-- ---- a token

module _ (s : List ℕ) (b : (j : ℕ) → Fits w8 (get_or s j 0)) (p : ℕ) where
  -- what is read there is spelled as its value is
  token-spells : {v : F.Value} {n : ℕ} → at token s p ≡ found v n → wide v ≡ false → SpeltToken s p n (spell v)
  token-spells e w = let r = read s p e in (r.on, read-spells (bytes-all s b) r w)

  stands : {n : ℕ} → Standing.Stands (drop p s) n → Spelt s p (Some (Stands (p + n)))
  unfolding at further
  stands {n} k = let less : p + n - p ≡ n = omega arith in rw (less, ← k.same) (token-spells (ap (further p) k.read) k.narrow)

  module _ {i next : ℕ} (e : at (num 2) s p ≡ found i next) where
    after : drop next s ≡ drop 2 (drop p s)
    after = ap (λ (k : ℕ). drop k s) (took 2 s p e).next ∙ sym (drop-drop 2 p s)

    -- as it stands, by the number after its id
    pub number-arm : {w m : ℕ} → KeptNumber w m i → (r : Option Spelling) → Below m w s next r → Spelt s p r
    number-arm k None h = tt
    number-arm k (Some (Number q x)) h = absurd h
    number-arm {w} {m} k (Some (Stands q)) h =
        let a = took 2 s p e in
        let c = took w s next h.2 in
        let ends : q ≡ p + (2 + w) = omega (arith, a.next, c.next) in
        rw ends
        (stands (number-stands (drop p s) (drop-bytes p s (bytes-all s b)) a.there (rw a.value at k) (rw after at c.there) (rw (c.value, after) at h.1)))

    -- by the text
    pub text-arm : KeptText i → (r : Option Spelling) → Within string s next r → Spelt s p r
    text-arm k None h = tt
    text-arm k (Some (Number q x)) h = absurd h
    text-arm k (Some (Stands q)) h =
        let a = took 2 s p e in
        let c = text-length s next h.1 in
        let ends : q ≡ p + (2 + (2 + le (take 2 (drop 2 (drop p s))))) = rw after at c.ends ∙ omega (arith, a.next) in
        rw ends (stands (text-stands (drop p s) (drop-bytes p s (bytes-all s b)) a.there (rw a.value at k) (rw after at c.there) (rw after at c.fits)))

    -- by the colour
    pub colour-arm : KeptColour i → (r : Option Spelling) → Within rgb s next r → Spelt s p r
    colour-arm k None h = tt
    colour-arm k (Some (Number q x)) h = absurd h
    colour-arm k (Some (Stands q)) h =
        let a = took 2 s p e in
        let c = ended rgb s next h.1 in
        let on : q ≡ p + (2 + c.size) = omega (arith, a.next, c.ends) in
        rw on (stands (colour-stands (drop p s) (drop-bytes p s (bytes-all s b)) a.there (rw a.value at k) (rw after at c.read)))

    -- by nothing
    pub alone-arm : alone i ≡ true → Spelt s p (Some (Stands next))
    unfolding le
    alone-arm h = number-arm (alone-kept i h) (Some (Stands next)) (0, lit< tt, num-there 0 s next zero-le ∙ ap (found 0) (add-zero next))

    -- otherwise, by the value of the number after its id
    value-spells : {w x q : ℕ} {f : ℕ → F.Value} → T.after i ≡ number w f → at (num w) s next ≡ found x q → wide (f x) ≡ false → SpeltToken s p q (spell (f x))
    unfolding payload mapped
    value-spells {w} {x} {q} {f} k h n = token-spells (by-id s p e k ∙ at-giving (num w) f s next ∙ ap (mapped f) h) n

    pub lookup-arm : {w : ℕ} → T.after i ≡ number w F.Lookup → (r : Option Spelling) → Indexes (at (num w) s next) r → Spelt s p r
    unfolding wide kind reason writable
    lookup-arm k None h = tt
    lookup-arm k (Some (Stands q)) h = absurd h
    lookup-arm k (Some (Number q (F64 x))) h = absurd h
    lookup-arm k (Some (Number q (Lookup x))) h = value-spells k h.1 (rw (lt-ltb x (2 ^ 24) h.0))

    pub float-arm : {w : ℕ} (g : ℕ → ℕ) → T.after i ≡ number w (λ n. F.F64 (g n)) → (r : Option Spelling) → Floats (mapped g (at (num w) s next)) r → Spelt s p r
    unfolding wide kind mapped
    float-arm g k None h = tt
    float-arm g k (Some (Stands q)) h = absurd h
    float-arm g k (Some (Number q (Lookup x))) h = absurd h
    float-arm {w} g k (Some (Number q (F64 x))) h = go (at (num w) s next) refl h
      where
        go : (a : Answer ℕ) → at (num w) s next ≡ a → mapped g a ≡ found x q → SpeltToken s p q (spell (F.F64 x))
        go (found y q') r h = let u : g y ≡ x = cc in let v : q' ≡ q = cc in rw (← u, ← v) (value-spells k r refl)
        go (refused why) r h = never (cc)

-- ---- the default of the `match`

abbrev lookups : ℕ → Bool
lookups i = leb 0x0d3e i && leb i 0x0d5e

-- an id that no arm has is spelled alone, outside the lookups, if each of the table's ids there is
module _ (kss : List (List ℕ)) (e : each_id (λ k. listed k kss || (lookups k || alone k)) entries ≡ true) (x : ℕ) (m : MissedAll (Unit {0}) kss x) where
  outside : lookups x || alone x ≡ true
  outside = elsewhere (λ i. lookups i || alone i) kss (λ i r. rw (plain-alone i r) (or-true (lookups i))) e x m

  pub alone-below : x < 0x0d3e → alone x ≡ true
  alone-below h = rw (lt-leb 0x0d3e x h) at outside

  pub alone-above : 0x0d5e < x → alone x ≡ true
  alone-above h = rw (lt-leb x 0x0d5e h, and-false (leb 0x0d3e x)) at outside

-- ---- a run

pub run_none : (s : List ℕ) (p : ℕ) → p ≤ length s → Stand s p p
run_none s p h = rw (between_none s p) (spells-none s p h)

-- and a token after it that stands
pub run-stands : {s : List ℕ} {p e q : ℕ} → Stand s p e → Spelt s e (Some (Stands q)) → (e < q) × Stand s p q
run-stands {s} {p} {e} {q} a t = (t.0, rw (← between-then s p e q a.on t.1.on) (spells_then a t.1))
