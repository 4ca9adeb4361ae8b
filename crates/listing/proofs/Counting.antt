-- The tally, which looks back, and the definition's counts, which look ahead. Assumes nothing.
use Prim.Native.Nat.{ℕ, ◌+◌, ◌-◌, ◌≤◌}
use native.Mathlib.Nat.{zero-add, add-zero, add_assoc}
use native.Mathlib.Omega.{arith}
use mathlib.Core.Path.{◌≡◌, refl, sym, ap, ◌∙◌}
use mathlib.Core.Bool.{Bool, true, false, not, ◌&&◌}
use mathlib.Core.Option.{some}
use mathlib.Core.List.{List, [], ◌∷◌}
use lib.Dec.{eqb}
use borrow.Author.Tests.{ne_eqb}
use types.Run.{OneOf, miss}
use denote.Enum.Declared.{tag_of}
use Rattle.form.specs.Numbers.{pick}
use Rattle.form.specs.Values.{Value, Open, Close, Equal, kind}
use Rattle.form.specs.Spelling.{bit}
use Rattle.form.specs.Saves.{Walk, done, then}
use Rattle.form.specs.Keys.{Counts, is_open, is_close, is_equal, deeper, ahead, Test, any_token, is_container, is_stray, makes_key, is_key, those, keys_of, count, counts}
use Rattle.laws.proofs.Tests.{around, after_equal, Near, any-near, container-near, stray-near, key-near, near_step}
use Rattle.token.specs.Tokens.{value_of}
use Rattle.token.specs.declared.Token.{Token}
use Rattle.token.specs.declared.Token.TheVariants as T
use Rattle.token.specs.contracts.Token.{the_type}
use Rattle.listing.specs.declared.tally.Tally.{Tally}
use Rattle.listing.specs.Tallies.{none_yet, tallied, counted, Sound}

-- the derived default has counted nothing
pub default-none : (c : Tally)
    → (c.tokens ≡ 0) × ((c.containers ≡ 0) × ((c.keys ≡ 0) × ((c.strays ≡ 0) × ((c.depth ≡ 0) × ((c.equal ≡ false) × ((c.value ≡ false) × (c.candidate ≡ false)))))))
    → c ≡ none_yet
default-none c e = λ i. record {
  tokens = e.0 i;
  containers = e.1.0 i;
  keys = e.1.1.0 i;
  strays = e.1.1.1.0 i;
  depth = e.1.1.1.1.0 i;
  equal = e.1.1.1.1.1.0 i;
  value = e.1.1.1.1.1.1.0 i;
  candidate = e.1.1.1.1.1.1.1 i;
}

-- what has been counted, and what is still to be counted
abbrev pub total : Tally → Walk → Counts
total c w = record {
  tokens = c.tokens + count any_token (around c.equal c.depth) w;
  containers = c.containers + count is_container (around c.equal c.depth) w;
  keys = c.keys + (bit (c.candidate && makes_key c.value (ahead w)) + count is_key (around c.equal c.depth) w);
  strays = c.strays + count is_stray (around c.equal c.depth) w;
}

-- a count goes on by a token
counts-on : (test : Test) → Near test → (n : ℕ) (e : Bool) (d p k : ℕ) (v : Value) (w : Walk)
    → n + count test (around e d) (then p k v w) ≡ n + bit (test (around e d) v w) + count test (around (is_equal v) (deeper v d)) w
counts-on test t n e d p k v w =
    ap (λ (x : ℕ). n + x) (near_step test t e d p k v w) ∙ sym (add_assoc n (bit (test (around e d) v w)) (count test (around (is_equal v) (deeper v d)) w))

-- a candidate is counted when it is made a key, or before
keys_on : (c : Tally) (p k : ℕ) (v : Value) (w : Walk) → (total c (then p k v w)).keys ≡ (total (tallied c v) w).keys
unfolding ahead is_key
keys_on c p k v w =
    let rest = count is_key (around (is_equal v) (deeper v c.depth)) w in
    let made = bit (c.candidate && makes_key c.value (some v)) in
    ap (λ (x : ℕ). c.keys + (made + x)) (near_step is_key key-near c.equal c.depth p k v w)
    ∙ ap (λ (b : Bool). c.keys + (made + (bit ((tallied c v).candidate && makes_key b (ahead w)) + rest))) (after_equal c.equal)
    ∙ sym (add_assoc c.keys made (bit ((tallied c v).candidate && makes_key c.equal (ahead w)) + rest))

-- counting a token leaves the total
pub total-step : (c : Tally) (p n : ℕ) (v : Value) (w : Walk) → total c (then p n v w) ≡ total (tallied c v) w
total-step c p n v w = λ i. record {
  tokens = counts-on any_token any-near c.tokens c.equal c.depth p n v w i;
  containers = counts-on is_container container-near c.containers c.equal c.depth p n v w i;
  keys = keys_on c p n v w i;
  strays = counts-on is_stray stray-near c.strays c.equal c.depth p n v w i;
}

zero-add₂ : (n : ℕ) → 0 + (0 + n) ≡ n
zero-add₂ n = omega arith

pub total-none : (w : Walk) → total none_yet w ≡ counts w
unfolding counts count keys_of
total-none w = λ i. record {
  tokens = zero-add (count any_token (around false 0) w) i;
  containers = zero-add (count is_container (around false 0) w) i;
  keys = zero-add₂ (count is_key (around false 0) w) i;
  strays = zero-add (count is_stray (around false 0) w) i;
}

no_key : (b : Bool) (n : ℕ) → n + (bit (b && false) + 0) ≡ n
no_key true n = omega arith
no_key false n = omega arith

pub total-done : (c : Tally) → total c done ≡ counted c
unfolding count those ahead makes_key
total-done c = λ i. record {
  tokens = add-zero c.tokens i;
  containers = add-zero c.containers i;
  keys = no_key c.candidate c.keys i;
  strays = add-zero c.strays i;
}

-- ---- no count is above that of the tokens

bit-one : (b : Bool) → bit b ≤ 1
bit-one true = omega arith
bit-one false = omega arith

deeper-one : (v : Value) (d : ℕ) → deeper v d ≤ d + 1
unfolding deeper
deeper-one v d = go (is_open v) (is_close v)
  where
    go : (o c : Bool) → pick o (d + 1) (pick c (d - 1) d) ≤ d + 1
    go true c = omega arith
    go false true = omega arith
    go false false = omega arith

pub sound_none : Sound none_yet
sound_none = record { containers = omega arith; keys = omega arith; strays = omega arith; depth = omega arith }

pub sound-step : (c : Tally) (v : Value) → Sound c → Sound (tallied c v)
sound-step c v s = record {
  containers = omega (arith, s.containers, bit-one (is_open v));
  keys = omega (arith, s.keys, bit-one (c.candidate && makes_key c.value (some v)));
  strays = omega (arith, s.strays, bit-one (is_close v && eqb c.depth 0));
  depth = omega (arith, s.depth, deeper-one v c.depth);
}

-- ---- the tally by the code's arms

-- Open makes a key of what is no value
pub open-makes : (value : Bool) → not value ≡ makes_key value (some Open)
unfolding makes_key is_open is_equal kind
open-makes true = refl
open-makes false = refl

-- Equal of any, and no other token of one
equal-key : (value : Bool) → makes_key value (some Equal) ≡ true
unfolding makes_key is_equal kind
equal-key value = refl

other_key : (b value : Bool) (v : Value) → is_equal v ≡ false → is_open v ≡ false → (b && makes_key value (some v)) ≡ false
unfolding makes_key
other_key true value v e o = rw (e, o)
other_key false value v e o = refl

module _ (c : Tally) where
  -- the tally with a token more
  abbrev more : ℕ → ℕ → ℕ → ℕ → Bool → Bool → Tally
  more containers keys strays depth equal candidate = record {
    tokens = c.tokens + 1;
    containers = containers;
    keys = keys;
    strays = strays;
    depth = depth;
    equal = equal;
    value = c.equal;
    candidate = candidate;
  }

  pub tally-bracket : (c.candidate && makes_key c.value (some Open)) ≡ true → more (c.containers + 1) (c.keys + 1) c.strays (c.depth + 1) false false ≡ tallied c Open
  unfolding is_open is_close is_equal deeper kind
  tally-bracket h = simp (h, add-zero)

  pub tally-open : (c.candidate && makes_key c.value (some Open)) ≡ false → more (c.containers + 1) c.keys c.strays (c.depth + 1) false false ≡ tallied c Open
  unfolding is_open is_close is_equal deeper kind
  tally-open h = simp (h, add-zero)

  pub tally-stray : c.depth ≡ 0 → more c.containers c.keys (c.strays + 1) c.depth false false ≡ tallied c Close
  unfolding is_open is_close is_equal deeper kind
  tally-stray h = simp (h, add-zero, other_key c.candidate c.value Close refl refl)

  pub tally-close : (c.depth ≡ 0 → ⊥) → more c.containers c.keys c.strays (c.depth - 1) false false ≡ tallied c Close
  unfolding is_open is_close is_equal deeper kind
  tally-close h = simp (ne_eqb _ _ h, add-zero, other_key c.candidate c.value Close refl refl)

  pub tally-key : c.candidate ≡ true → more c.containers (c.keys + 1) c.strays c.depth true false ≡ tallied c Equal
  unfolding is_open is_close is_equal deeper kind
  tally-key h = simp (equal-key c.value, h, add-zero)

  pub tally-equal : c.candidate ≡ false → more c.containers c.keys c.strays c.depth true false ≡ tallied c Equal
  unfolding is_open is_close is_equal deeper kind
  tally-equal h = simp (h, add-zero)

  pub tally-plain : (v : Value) → 3 ≤ kind v → more c.containers c.keys c.strays c.depth false (eqb c.depth 0) ≡ tallied c v
  unfolding is_open is_close is_equal deeper kind
  tally-plain v h =
      let e = ne_eqb (kind v) 2 (λ e. omega arith) in
      let o = ne_eqb (kind v) 0 (λ e. omega arith) in
      simp (o, ne_eqb (kind v) 1 (λ e. omega arith), e, add-zero, other_key c.candidate c.value v e o)

-- what the code's last arm knows: the token is none of Open, Close and Equal
pub plain-kind : (s : List ℕ) (t : Token) → OneOf (3 ∷ 4 ∷ 5 ∷ 6 ∷ 7 ∷ 8 ∷ 9 ∷ 10 ∷ 11 ∷ 12 ∷ 13 ∷ 14 ∷ []) (tag_of the_type t) → 3 ≤ kind (value_of s t)
unfolding kind value_of
plain-kind s T.Open q = absurd (miss (3 ∷ 4 ∷ 5 ∷ 6 ∷ 7 ∷ 8 ∷ 9 ∷ 10 ∷ 11 ∷ 12 ∷ 13 ∷ 14 ∷ []) 0 tt q)
plain-kind s T.Close q = absurd (miss (3 ∷ 4 ∷ 5 ∷ 6 ∷ 7 ∷ 8 ∷ 9 ∷ 10 ∷ 11 ∷ 12 ∷ 13 ∷ 14 ∷ []) 1 tt q)
plain-kind s T.Equal q = absurd (miss (3 ∷ 4 ∷ 5 ∷ 6 ∷ 7 ∷ 8 ∷ 9 ∷ 10 ∷ 11 ∷ 12 ∷ 13 ∷ 14 ∷ []) 2 tt q)
plain-kind s (T.U32 n) q = omega arith
plain-kind s (T.U64 n) q = omega arith
plain-kind s (T.I32 z) q = omega arith
plain-kind s (T.Bool b) q = omega arith
plain-kind s (T.Quoted t) q = omega arith
plain-kind s (T.Unquoted t) q = omega arith
plain-kind s (T.F32 n) q = omega arith
plain-kind s (T.F64 n) q = omega arith
plain-kind s (T.Rgb c) q = omega arith
plain-kind s (T.I64 z) q = omega arith
plain-kind s (T.Lookup n) q = omega arith
plain-kind s (T.Id i) q = omega arith
