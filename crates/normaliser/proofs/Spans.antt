-- What follows an id, as the code's arms have it, and what that says of a token. Assumes nothing.
use Prim.Native.Nat.{ℕ, ◌-◌, ◌≤◌}
use native.Mathlib.Omega.{arith}
use mathlib.Core.Path.{◌≡◌, refl, sym, ap, ◌∙◌}
use mathlib.Core.Bool.{Bool, true, false, ◌||◌, or-true}
use mathlib.Core.List.{List}
use Rattle.std.specs.Prelude.{Option, None, Some}
use lib.Dec.{eqb}
use borrow.Author.Tests.{eqb-true, eqb-false}
use Rattle.form.specs.Numbers.{le}
use Rattle.form.specs.Values as F
use Rattle.form.specs.Values.{Value, kind}
use Rattle.form.specs.Table.{Payload, number, text, colour, table, entries, find, or_plain, after}
use Rattle.form.specs.Refusals.{Fault}
use Rattle.form.specs.Readers.{Answer, found, refused, and_then, mapped, at}
use Rattle.form.specs.Reading.{next, num, string, rgb, payload, token}
use Rattle.form.specs.Keys.{is_open, is_close}
use Rattle.laws.proofs.Never.{never}
use Rattle.laws.proofs.Lookups.{plain-after, compact-in, negated-in}
use Rattle.laws.proofs.Elsewhere.{each_id, listed, MissedAll, elsewhere}
use Rattle.laws.proofs.Places.{at-giving, at-nothing, by-id, token-then}
use Rattle.laws.proofs.ById.{open_after_lem, close-after}
use Rattle.normaliser.specs.Passings.{span_of, Ends, Past, Told}
use Rattle.normaliser.specs.declared.telling.Extent.{Extent}
use Rattle.normaliser.specs.declared.telling.Extent.TheVariants.{Bytes, Text, Colour}
use Rattle.normaliser.specs.declared.telling.Passed.TheVariants.{Open, Close, Other}

abbrev pub span_at : ℕ → Extent
span_at i = span_of (after i)

-- ---- the ids of no arm

abbrev is_empty : Extent → Bool
is_empty (Bytes n) = eqb n 0
is_empty Text = false
is_empty Colour = false

-- nothing follows an id that no arm has and that is none of some others, if each of the table's ids is in an arm, is one of them or has nothing
-- after it
pub elsewhere-none : (other : ℕ → Bool) (kss : List (List ℕ)) → each_id (λ k. listed k kss || (other k || is_empty (span_at k))) entries ≡ true
    → (i : ℕ) → MissedAll (Unit {0}) kss i → other i ≡ false → Bytes 0 ≡ span_at i
elsewhere-none other kss e i m h =
    is (span_at i) (rw h at (elsewhere (λ k. other k || is_empty (span_at k)) kss (λ k r. rw (plain-after k r) (or-true (other k))) e i m))
  where
    is : (x : Extent) → is_empty x ≡ true → Bytes 0 ≡ x
    is (Bytes n) q = rw (eqb-true n 0 q)
    is Text q = never (cc)
    is Colour q = never (cc)

pub compact-span : (i : ℕ) → 0x0d47 ≤ i → i ≤ 0x0d4e → Bytes (i - 0x0d47) ≡ span_at i
compact-span i lo hi = sym (ap span_of (compact-in i lo (omega arith)))

pub negated-span : (i : ℕ) → 0x0d4f ≤ i → i ≤ 0x0d55 → Bytes (i - 0x0d4e) ≡ span_at i
negated-span i lo hi = sym (ap span_of (negated-in i lo (omega arith)))

-- ---- what is read after an id

ends-mapped : {A B : Type 0} (g : A → B) (a : Answer A) (r : Option ℕ) → Ends a r → Ends (mapped g a) r
unfolding mapped
ends-mapped g a (Some n) h = (g h.0, ap (mapped g) h.1)
ends-mapped g a None h = (h.0, ap (mapped g) h.1)

module _ (s : List ℕ) (p : ℕ) {r : Option ℕ} where
  pub text-ends : (q : Payload) → Text ≡ span_of q → Past (at string s p) r → Past (at (payload q) s p) r
  unfolding payload
  text-ends (number w f) e h = never (cc)
  text-ends (text f) e h = record { is = rw (at-giving string f s p) (ends-mapped f (at string s p) r h.is) }
  text-ends colour e h = never (cc)

  pub colour-ends : (q : Payload) → Colour ≡ span_of q → Past (at rgb s p) r → Past (at (payload q) s p) r
  unfolding payload
  colour-ends (number w f) e h = never (cc)
  colour-ends (text f) e h = never (cc)
  colour-ends colour e h = h

  pub fixed-ends : (q : Payload) {m : ℕ} → Bytes m ≡ span_of q → Past (at (next m) s p) r → Past (at (payload q) s p) r
  unfolding payload num
  fixed-ends (number w f) {m} e h =
      let z : w ≡ m = cc in
      record { is = rw (at-giving (num w) f s p, at-giving (next w) le s p, z) (ends-mapped f (mapped le (at (next _) s p)) r (ends-mapped le (at (next _) s p) r h.is)) }
  fixed-ends (text f) e h = never (cc)
  fixed-ends colour e h = never (cc)

-- ---- the token

-- neither end of a container
above : (v : Value) → is_open v ≡ false → is_close v ≡ false → 2 ≤ kind v
unfolding is_open is_close kind
above v x y = neither (kind v) (eqb-false (kind v) 0 x) (eqb-false (kind v) 1 y)
  where
    neither : (k : ℕ) → (k ≡ 0 → ⊥) → (k ≡ 1 → ⊥) → 2 ≤ k
    neither k x y = omega arith

pub unread : (s : List ℕ) (p : ℕ) {why : Fault} → at (num 2) s p ≡ refused why → Told (at token s p) None
unfolding and_then
unread s p {why} e = record { is = (why, token-then s p ∙ rw e) }

module _ (s : List ℕ) (p : ℕ) {i n : ℕ} (f : at (num 2) s p ≡ found i n) where
  pub told-open : eqb i 0x0003 ≡ true → Told (at token s p) (Some (Open, n))
  unfolding after or_plain find entries table
  told-open e = record { is = by-id s p f refl ∙ rw (eqb-true i 0x0003 e) (at-nothing F.Open s n) }

  pub told-close : eqb i 0x0004 ≡ true → Told (at token s p) (Some (Close, n))
  unfolding after or_plain find entries table
  told-close e = record { is = by-id s p f refl ∙ rw (eqb-true i 0x0004 e) (at-nothing F.Close s n) }

  pub told-other : eqb i 0x0003 ≡ false → eqb i 0x0004 ≡ false → {m : ℕ} → Past (at (payload (after i)) s n) (Some m) → Told (at token s p) (Some (Other, m))
  told-other o c h = record { is = (h.is.0, above h.is.0 (open_after_lem i s n h.is.1 ∙ o) (close-after i s n h.is.1 ∙ c), by-id s p f refl ∙ h.is.1) }

  pub told-none : Past (at (payload (after i)) s n) None → Told (at token s p) None
  told-none h = record { is = (h.is.0, by-id s p f refl ∙ h.is.1) }
