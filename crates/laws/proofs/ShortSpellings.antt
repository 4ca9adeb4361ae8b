-- The shortest spelling of each value, and that it reads back. Assumes nothing.
use Prim.Native.Nat.{ℕ, ◌+◌, ◌-◌, ◌^◌, ◌≤◌, ◌<◌}
use native.Mathlib.Omega.{arith}
use mathlib.Core.Path.{◌≡◌, refl, sym, ap, ◌∙◌}
use mathlib.Core.Bool.{Bool, true, false}
use mathlib.Core.Option.{none}
use mathlib.Core.List.{List, [], ◌∷◌, ◌++◌, append_assoc}
use lib.ListN.{length, length-append}
use mathlib.Core.Logic.{◌⊎◌, inl, inr}
use lib.Dec.{ltb, eqb, lit<, lit≤}
use borrow.Author.Tests.{ltb-true, ltb-false, lt-ltb}
use Rattle.form.specs.Numbers.{pick, le_bytes, negated}
use Rattle.form.specs.Values.{Value, Open, Close, Equal, U32, U64, F32, F64, Lookup, Id, I32, I64, Truth, Quoted, Unquoted, Rgb, negative, kind}
use Rattle.form.specs.Table.{number, table, entries, find, or_plain, after}
use Rattle.form.specs.Readers.{found}
use Rattle.form.specs.Reading.{token}
use Rattle.form.specs.Spelling.{spell, reason, writable, InType}
use Rattle.form.specs.Shortest.{Width, held_by, first_in, otherwise, or_spelled, shortest, short_reason}
use Rattle.laws.proofs.LittleEndian.{length-bytes}
use Rattle.laws.proofs.Lookups.{compact-in, negated-in}
use Rattle.laws.proofs.ReadsBack.{number-back, reads-back}
use Rattle.laws.proofs.Widths.{width, more_bytes, first_holds, first-none}

-- ---- floats

-- compact, by as many bytes as the number has
pub float-compact : (n w : ℕ) → Width n w → w ≤ 7 → shortest (F64 n) ≡ le_bytes 2 (0x0d47 + w) ++ le_bytes w n
unfolding shortest or_spelled otherwise first_in
float-compact n w k l = rw (first_holds 0x0d47 F64 8 0x0d47 n w (omega arith) (omega arith) (omega arith) k)

-- negated, by as many as its negation has
pub float_negated : (n w : ℕ) → 2 ^ 56 ≤ n → Width (negated n) w → 1 ≤ w → w ≤ 7 → shortest (F64 n) ≡ le_bytes 2 (0x0d4e + w) ++ le_bytes w (negated n)
unfolding shortest or_spelled otherwise first_in
float_negated n w h k l m =
    rw (first-none 0x0d47 F64 7 0x0d47 n (omega arith) h, first_holds 0x0d4e negative 7 0x0d4f (negated n) w (omega arith) (omega arith) (omega arith) k)

-- or as it is
pub float_plain : (n : ℕ) → 2 ^ 56 ≤ n → 2 ^ 56 ≤ negated n → shortest (F64 n) ≡ spell (F64 n)
unfolding shortest or_spelled otherwise first_in
float_plain n h k = rw (first-none 0x0d47 F64 7 0x0d47 n (omega arith) h, first-none 0x0d4e negative 6 0x0d4f (negated n) (omega arith) k)

-- one of the three is the case
abbrev pub FloatCase : ℕ → Type 0
FloatCase n =
    ((w : ℕ) × (w ≤ 7) × Width n w)
    ⊎ ((w : ℕ) × (2 ^ 56 ≤ n) × (1 ≤ w) × (w ≤ 7) × Width (negated n) w)
    ⊎ ((2 ^ 56 ≤ n) × (2 ^ 56 ≤ negated n))

pub float-case : (n : ℕ) → n < 2 ^ 64 → FloatCase n
float-case n h = go (ltb n (256 ^ 7)) refl (ltb (negated n) (256 ^ 7)) refl
  where
    some_bytes : (w : ℕ) → 2 ^ 56 ≤ n → Width (negated n) w → 1 ≤ w
    some_bytes w l k = more_bytes {w = 0} (omega arith) k.holds

    go : (a : Bool) → ltb n (256 ^ 7) ≡ a → (b : Bool) → ltb (negated n) (256 ^ 7) ≡ b → FloatCase n
    go true e b f = let k = width 7 n (ltb-true n (256 ^ 7) e) in inl (k.0, k.1, k.2)
    go false e true f =
        let l = ltb-false n (256 ^ 7) e in
        let k = width 7 (negated n) (ltb-true (negated n) (256 ^ 7) f) in
        inr (inl (k.0, l, some_bytes k.0 l k.2, k.1, k.2))
    go false e false f = inr (inr (ltb-false n (256 ^ 7) e, ltb-false (negated n) (256 ^ 7) f))

-- ---- lookups

-- the id of a lookup of w bytes
abbrev pub lookup_id : ℕ → ℕ
lookup_id w = pick (eqb w 1) 0x0d40 (pick (eqb w 2) 0x0d3e (pick (eqb w 3) 0x0d41 0x0d3f))

-- the number n by w bytes, of which there is one at least
pub record LookupBy (n w : ℕ) : Type 0 where
  pub some : 1 ≤ w
  pub few : w ≤ 4
  pub holds : n < 256 ^ w
  pub short : lookup_id w < 2 ^ 16
  pub least : (u : ℕ) → 1 ≤ u → n < 256 ^ u → w ≤ u
  pub row : after (lookup_id w) ≡ number w Lookup
  pub is : shortest (Lookup n) ≡ le_bytes 2 (lookup_id w) ++ le_bytes w n

pub lookup-by : (n : ℕ) → n < 2 ^ 32 → (w : ℕ) × LookupBy n w
unfolding shortest or_spelled otherwise first_in held_by after find entries table or_plain
lookup-by n h = go (ltb n (256 ^ 1)) refl (ltb n (256 ^ 2)) refl (ltb n (256 ^ 3)) refl
  where
    go : (a : Bool) → ltb n (256 ^ 1) ≡ a → (b : Bool) → ltb n (256 ^ 2) ≡ b → (c : Bool) → ltb n (256 ^ 3) ≡ c → (w : ℕ) × LookupBy n w
    go true e b f c g = (1, record { some = lit≤ tt; few = lit≤ tt; holds = ltb-true n _ e; short = lit< tt; least = λ u l k. l; row = refl; is = rw e })
    go false e true f c g =
        (2, record { some = lit≤ tt; few = lit≤ tt; holds = ltb-true n _ f; short = lit< tt; least = λ u l k. more_bytes (ltb-false n _ e) k; row = refl; is = rw (e, f) })
    go false e false f true g =
        (3, record { some = lit≤ tt; few = lit≤ tt; holds = ltb-true n _ g; short = lit< tt; least = λ u l k. more_bytes (ltb-false n _ f) k; row = refl; is = rw (e, f, g) })
    go false e false f false g =
        (4, record { some = lit≤ tt; few = lit≤ tt; holds = h; short = lit< tt; least = λ u l k. more_bytes (ltb-false n _ g) k; row = refl; is = rw (e, f, g, lt-ltb n (256 ^ 4) h) })

-- ---- what is spelled so reads back

module _ (v : Value) (i w n : ℕ) (e : shortest v ≡ le_bytes 2 i ++ le_bytes w n) where
  pub held-length : length (shortest v) ≡ 2 + w
  held-length = ap length e ∙ simp (length-append, length-bytes)

  held_back : (f : ℕ → Value) → i < 2 ^ 16 → after i ≡ number w f → n < 256 ^ w → f n ≡ v → (s : List ℕ) → token (shortest v ++ s) ≡ found v (length (shortest v))
  held_back f l a h q s =
      ap (λ (bs : List ℕ). token (bs ++ s)) e ∙ ap token (append_assoc (le_bytes 2 i) (le_bytes w n) s) ∙ number-back i w n f l a h s
      ∙ ap (λ (x : Value). found x (2 + w)) q ∙ ap (found v) (sym held-length)

-- a number that is negated twice
pub negated-twice : (n : ℕ) → 1 ≤ n → n < 2 ^ 64 → negated (negated n) ≡ n
negated-twice n l h = omega arith

float_back : (n : ℕ) → n < 2 ^ 64 → (s : List ℕ) → token (shortest (F64 n) ++ s) ≡ found (F64 n) (length (shortest (F64 n)))
unfolding reason writable
float_back n h s = go (float-case n h)
  where
    go : FloatCase n → token (shortest (F64 n) ++ s) ≡ found (F64 n) (length (shortest (F64 n)))
    go (inl (w, l, k)) =
        let z : 0x0d47 + w - 0x0d47 ≡ w = omega arith in
        held_back (F64 n) (0x0d47 + w) w n (float-compact n w k l) F64 (omega arith) (rw z at (compact-in (0x0d47 + w) (omega arith) (omega arith))) k.holds refl s
    go (inr (inl (w, l, o, m, k))) =
        let z : 0x0d4e + w - 0x0d4e ≡ w = omega arith in
        held_back (F64 n) (0x0d4e + w) w (negated n) (float_negated n w l k o m) negative (omega arith) (rw z at (negated-in (0x0d4e + w) (omega arith) (omega arith))) k.holds
        (ap F64 (negated-twice n (omega arith) h)) s
    go (inr (inr (l, m))) = rw (float_plain n l m) (reads-back (F64 n) h tt s)

lookup-back : (n : ℕ) → n < 2 ^ 32 → (s : List ℕ) → token (shortest (Lookup n) ++ s) ≡ found (Lookup n) (length (shortest (Lookup n)))
lookup-back n h s = let w = (lookup-by n h).0 in let k = (lookup-by n h).1 in held_back (Lookup n) (lookup_id w) w n k.is Lookup k.short k.row k.holds refl s

pub empty-is : shortest (Quoted []) ≡ le_bytes 2 0x0d42 ++ le_bytes 0 0
unfolding shortest or_spelled otherwise first_in held_by
empty-is = refl

empty_back : (s : List ℕ) → token (shortest (Quoted []) ++ s) ≡ found (Quoted []) (length (shortest (Quoted [])))
unfolding after find entries table or_plain
empty_back s = held_back (Quoted []) 0x0d42 0 0 empty-is (λ _. Quoted []) (lit< tt) refl (lit< tt) refl s

-- a value that is spelled as the writer does
spelled_back : (v : Value) → otherwise v ≡ none → InType v → reason 0 v ≡ none → (s : List ℕ) → token (shortest v ++ s) ≡ found v (length (shortest v))
unfolding shortest or_spelled writable
spelled_back v e h r s = rw e (reads-back v h (rw r tt) s)

pub short_back : (v : Value) → InType v → short_reason 0 v ≡ none → (s : List ℕ) → token (shortest v ++ s) ≡ found v (length (shortest v))
unfolding short_reason otherwise first_in held_by kind
short_back Open h r s = spelled_back Open refl h r s
short_back Close h r s = spelled_back Close refl h r s
short_back Equal h r s = spelled_back Equal refl h r s
short_back (U32 n) h r s = spelled_back (U32 n) refl h r s
short_back (U64 n) h r s = spelled_back (U64 n) refl h r s
short_back (F32 n) h r s = spelled_back (F32 n) refl h r s
short_back (F64 n) h r s = float_back n h s
short_back (Lookup n) h r s = lookup-back n h s
short_back (Id i) h r s = spelled_back (Id i) refl h r s
short_back (I32 z) h r s = spelled_back (I32 z) refl h r s
short_back (I64 z) h r s = spelled_back (I64 z) refl h r s
short_back (Truth b) h r s = spelled_back (Truth b) refl h r s
short_back (Quoted []) h r s = empty_back s
short_back (Quoted (b ∷ t)) h r s = spelled_back (Quoted (b ∷ t)) refl h r s
short_back (Unquoted t) h r s = spelled_back (Unquoted t) refl h r s
short_back (Rgb r g b a) h q s = spelled_back (Rgb r g b a) refl h q s
