-- Why a value cannot be written: each reason is given exactly in its own case, and a value has at most one. Assumes nothing.
use Prim.Native.Nat.{ℕ, ◌^◌, ◌≤◌, ◌<◌}
use mathlib.Core.Path.{◌≡◌, refl, sym, ◌∙◌}
use mathlib.Core.Bool.{Bool, true, false, not, ◌&&◌}
use mathlib.Core.Option.{Option, none, some}
use mathlib.Core.List.{List}
use mathlib.Core.Logic.{◌⊎◌, inl, inr}
use lib.ListN.{length}
use lib.Dec.{T, ltb, eqb}
use borrow.Author.Tests.{le-ltb, ltb-false}
use Rattle.form.specs.Numbers.{pick}
use Rattle.form.specs.Values.{Value, Open, Close, Equal, U32, U64, F32, F64, Lookup, Id, I32, I64, Truth, Quoted, Unquoted, Rgb, kind}
use Rattle.form.specs.Table.{is_some, reserved}
use Rattle.form.specs.Refusals.{Refusal, LongString, WideLookup, ReservedId}
use Rattle.form.specs.Spelling.{reason, writable, wide}
use Rattle.laws.proofs.Never.{never}

-- ---- the three cases

-- a string of more than 65,535 bytes
abbrev pub Long : Value → Type 0
Long v = (t : List ℕ) × ((v ≡ Quoted t) ⊎ (v ≡ Unquoted t)) × (65535 < length t)

-- a lookup of 2 ^ 24 or more
abbrev pub Wide : Value → Type 0
Wide v = (n : ℕ) × (v ≡ Lookup n) × (2 ^ 24 ≤ n)

-- a reserved id
abbrev pub Reserved : Value → Type 0
Reserved v = (i : ℕ) × (v ≡ Id i) × (reserved i ≡ true)

module _ (p : ℕ) where
  pub long-refused : {v : Value} → Long v → reason p v ≡ some (LongString p)
  unfolding reason
  long-refused (t, inl e, h) = rw (e, le-ltb (length t) 65536 h)
  long-refused (t, inr e, h) = rw (e, le-ltb (length t) 65536 h)

  pub wide-refused : {v : Value} → Wide v → reason p v ≡ some (WideLookup p)
  unfolding reason
  wide-refused (n, e, h) = rw (e, le-ltb n (2 ^ 24) h)

  pub reserved-refused : {v : Value} → Reserved v → reason p v ≡ some (ReservedId p)
  unfolding reason
  reserved-refused (i, e, h) = rw (e, h)

  -- a value's reason, with its case
  abbrev pub Given : Value → Option Refusal → Type 0
  Given v o = (o ≡ none) ⊎ (Long v × (o ≡ some (LongString p))) ⊎ (Wide v × (o ≡ some (WideLookup p))) ⊎ (Reserved v × (o ≡ some (ReservedId p)))

  long-or-not : (v : Value) (t : List ℕ) → ((v ≡ Quoted t) ⊎ (v ≡ Unquoted t)) → (b : Bool) → ltb (length t) 65536 ≡ b → Given v (pick b none (some (LongString p)))
  long-or-not v t e true h = inl refl
  long-or-not v t e false h = inr (inl ((t, e, ltb-false (length t) 65536 h), refl))

  wide-or-not : (n : ℕ) (b : Bool) → ltb n (2 ^ 24) ≡ b → Given (Lookup n) (pick b none (some (WideLookup p)))
  wide-or-not n true h = inl refl
  wide-or-not n false h = inr (inr (inl ((n, refl, ltb-false n (2 ^ 24) h), refl)))

  reserved-or-not : (i : ℕ) (b : Bool) → reserved i ≡ b → Given (Id i) (pick b (some (ReservedId p)) none)
  reserved-or-not i true h = inr (inr (inr ((i, refl, h), refl)))
  reserved-or-not i false h = inl refl

  -- there is no other reason, and none is given in another case
  pub reason-given : (v : Value) → Given v (reason p v)
  unfolding reason
  reason-given Open = inl refl
  reason-given Close = inl refl
  reason-given Equal = inl refl
  reason-given (U32 n) = inl refl
  reason-given (U64 n) = inl refl
  reason-given (F32 n) = inl refl
  reason-given (F64 n) = inl refl
  reason-given (Lookup n) = wide-or-not n (ltb n (2 ^ 24)) refl
  reason-given (Id i) = reserved-or-not i (reserved i) refl
  reason-given (I32 z) = inl refl
  reason-given (I64 z) = inl refl
  reason-given (Truth b) = inl refl
  reason-given (Quoted t) = long-or-not (Quoted t) t (inl refl) (ltb (length t) 65536) refl
  reason-given (Unquoted t) = long-or-not (Unquoted t) t (inr refl) (ltb (length t) 65536) refl
  reason-given (Rgb r g b a) = inl refl

-- at most one of the three is the case
pub one-reason : (v : Value) → (Long v → Wide v → ⊥) × (Long v → Reserved v → ⊥) × (Wide v → Reserved v → ⊥)
one-reason v = (
  (λ l w. apart (long-refused 0 l) (wide-refused 0 w) (λ e. never (cc))),
  (λ l r. apart (long-refused 0 l) (reserved-refused 0 r) (λ e. never (cc))),
  (λ w r. apart (wide-refused 0 w) (reserved-refused 0 r) (λ e. never (cc))),
)
  where
    apart : {a b : Refusal} → reason 0 v ≡ some a → reason 0 v ≡ some b → (some a ≡ some b → ⊥) → ⊥
    apart e f k = k (sym e ∙ f)

-- ---- by tests

-- what a test that is passed says of a value that can be written
pub passed : (b : Bool) (r : Refusal) → T (not (is_some (pick b none (some r)))) → T b
passed true r t = tt
passed false r t = absurd t

pub passes : (b : Bool) (r : Refusal) → T b → T (not (is_some (pick b none (some r))))
passes true r t = tt
passes false r t = absurd t

short : (p : ℕ) (b : Bool) → T (not (is_some (pick b none (some (LongString 0))))) → pick b none (some (LongString p)) ≡ none
short p true t = refl
short p false t = absurd t

-- a value that can be written wherever it is no wide lookup has no other reason
pub only-wide : (p : ℕ) (v : Value) → (T (not (wide v)) → T (writable v)) → reason p v ≡ pick (wide v) (some (WideLookup p)) none
unfolding reason writable wide kind
only-wide p Open h = refl
only-wide p Close h = refl
only-wide p Equal h = refl
only-wide p (U32 n) h = refl
only-wide p (U64 n) h = refl
only-wide p (F32 n) h = refl
only-wide p (F64 n) h = refl
only-wide p (Lookup n) h = go (ltb n (2 ^ 24))
  where
    go : (b : Bool) → pick b none (some (WideLookup p)) ≡ pick (not (not (is_some (pick b none (some (WideLookup 0)))))) (some (WideLookup p)) none
    go true = refl
    go false = refl
only-wide p (Id i) h = go (reserved i) (h tt)
  where
    go : (b : Bool) → T (not (is_some (pick b (some (ReservedId 0)) none))) → pick b (some (ReservedId p)) none ≡ none
    go true t = absurd t
    go false t = refl
only-wide p (I32 z) h = refl
only-wide p (I64 z) h = refl
only-wide p (Truth b) h = refl
only-wide p (Quoted t) h = short p (ltb (length t) 65536) (h tt)
only-wide p (Unquoted t) h = short p (ltb (length t) 65536) (h tt)
only-wide p (Rgb r g b a) h = refl

-- ---- whether there is a reason does not depend on the position

pub writable-none : (p : ℕ) (v : Value) → T (writable v) → reason p v ≡ none
unfolding writable
writable-none p v w = go (reason-given p v)
  where
    cannot : {r : Refusal} {A : Type 0} → reason 0 v ≡ some r → A
    cannot e = absurd (rw e at w)

    go : Given p v (reason p v) → reason p v ≡ none
    go (inl e) = e
    go (inr (inl (l, e))) = cannot (long-refused 0 l)
    go (inr (inr (inl (l, e)))) = cannot (wide-refused 0 l)
    go (inr (inr (inr (l, e)))) = cannot (reserved-refused 0 l)

pub none-narrow : (p : ℕ) (v : Value) → reason p v ≡ none → wide v ≡ false
unfolding wide writable
none-narrow p v n = go (reason-given 0 v)
  where
    cannot : {r : Refusal} {A : Type 0} → reason p v ≡ some r → A
    cannot e = never (cc)

    both : (b : Bool) → b && false ≡ false
    both true = refl
    both false = refl

    go : Given 0 v (reason 0 v) → wide v ≡ false
    go (inl e) = rw e (both (eqb (kind v) (kind (Lookup 0))))
    go (inr (inl (l, e))) = cannot (long-refused p l)
    go (inr (inr (inl (l, e)))) = cannot (wide-refused p l)
    go (inr (inr (inr (l, e)))) = cannot (reserved-refused p l)
