-- Seeking keys, a token at a time: what is found from a place on, at a depth. Assumes nothing.
use Prim.Native.Nat.{ℕ, ◌+◌, ◌-◌, ◌<◌}
use native.Mathlib.Omega.{arith}
use mathlib.Core.Path.{◌≡◌, refl, sym, ap, ◌∙◌}
use mathlib.Core.Bool.{Bool, true, false, not, ◌&&◌, ◌||◌, and-true, and_comm}
use mathlib.Core.Option.{Option, none, some}
use mathlib.Core.List.{List, [], ◌∷◌}
use lib.ListN.{length, drop}
use lib.Dec.{eqb, ltb}
use borrow.Author.Tests.{eqb-true, ne_eqb, ltb-true, ltb-false}
use Rattle.form.specs.Numbers.{pick}
use Rattle.form.specs.Values.{Value, Open, Close, Equal, kind}
use Rattle.form.specs.Table.{nothing, table, entries, find, or_plain, after}
use Rattle.form.specs.Refusals.{Fault, Refusal}
use Rattle.form.specs.Readers.{Answer, found, refused, further, and_then, at}
use Rattle.form.specs.Reading.{num, payload, token}
use Rattle.form.specs.Saves.{Walk, done, cut, then, step, from}
use Rattle.form.specs.Keys.{is_open, is_close, is_equal, Around, at_top, deeper, onward, ahead, holds, makes_key, is_key, key_that, kept_if, those, keys_of}
use Rattle.form.specs.Finding.{is_plain, first_plain, cut_by, firstly, sought}
use Rattle.laws.proofs.Never.{never}
use Rattle.laws.proofs.Places.{at-nothing, by-id, token-then}
use Rattle.laws.proofs.Inside.{num-inside}
use Rattle.laws.proofs.Walking.{from_end, from_step}
use Rattle.laws.proofs.Tests.{around, after_equal, Near, those-onward, key-near}
use Rattle.laws.proofs.ById.{open_after_lem, equal-after}
use Rattle.laws.proofs.FirstKey.{first-kept}

-- in a walk that goes on directly after an Equal or not, at depth d: the keys that are wanted, and the refusal that ends it
pub seeking : (Value → Bool) → Bool → ℕ → Walk → List (ℕ × Value) × Option Refusal
seeking t e d w = (those (key_that t) (around e d) w, cut_by w)

-- what a key asks, but for the token itself
abbrev pub key_here : Bool → ℕ → Walk → Bool
key_here e d w = eqb d 0 && makes_key e (ahead w)

that-near : (t : Value → Bool) → Near (key_that t)
unfolding key_that
that-near t a b e v w = ap (λ (k : Bool). k && t v) (key-near a b e v w)

module _ (t : Value → Bool) where
  pub seeking-start : (w : Walk) → seeking t false 0 w ≡ (those (key_that t) at_top w, cut_by w)
  unfolding seeking
  seeking-start w = refl

  pub seeking-done : (e : Bool) (d : ℕ) → seeking t e d done ≡ ([], none)
  unfolding seeking those cut_by
  seeking-done e d = refl

  pub seeking-cut : (e : Bool) (d : ℕ) (r : Refusal) → seeking t e d (cut r) ≡ ([], some r)
  unfolding seeking those cut_by
  seeking-cut e d r = refl

  -- ---- after a token

  module _ (e : Bool) (d p n : ℕ) (v : Value) (w : Walk) where
    after-token : {b : Bool} → key_that t (around e d) v w ≡ b → seeking t e d (then p n v w) ≡ (kept_if b (p, v) (those (key_that t) (around (is_equal v) (deeper v d)) w), cut_by w)
    unfolding seeking those cut_by
    after-token {b} f = rw (f, those-onward (key_that t) (that-near t) e d v w)

    passes : key_that t (around e d) v w ≡ false → seeking t e d (then p n v w) ≡ seeking t (is_equal v) (deeper v d) w
    unfolding seeking
    passes f = after-token f

  -- ---- by what the token is

  module _ (e : Bool) (d p n : ℕ) (w : Walk) where
    pub past_open : seeking t e d (then p n Open w) ≡ seeking t false (d + 1) w
    unfolding key_that is_key kind deeper is_open is_equal
    past_open = passes e d p n Open w refl

    pub past-close : seeking t e d (then p n Close w) ≡ seeking t false (d - 1) w
    unfolding key_that is_key kind deeper is_open is_close is_equal
    past-close = passes e d p n Close w refl

    pub past_equal : seeking t e d (then p n Equal w) ≡ seeking t true d w
    unfolding key_that is_key kind deeper is_open is_close is_equal
    past_equal = passes e d p n Equal w refl

    -- neither a container's end nor Equal
    module _ (v : Value) (l : 2 < kind v) where
      that-value : key_that t (around e d) v w ≡ (key_here e d w && t v)
      unfolding key_that is_key kind is_open is_close is_equal
      that-value =
          rw (ne_eqb (kind v) 0 (λ q. omega arith), ne_eqb (kind v) 1 (λ q. omega arith), ne_eqb (kind v) 2 (λ q. omega arith), after_equal e)

      goes_on : {b : Bool} → key_that t (around e d) v w ≡ b → seeking t e d (then p n v w) ≡ (kept_if b (p, v) (those (key_that t) (around false d) w), cut_by w)
      unfolding kind deeper is_open is_close is_equal
      goes_on f =
          after-token e d p n v w f
          ∙ rw (ne_eqb (kind v) 0 (λ q. omega arith), ne_eqb (kind v) 1 (λ q. omega arith), ne_eqb (kind v) 2 (λ q. omega arith))

      -- it is not wanted, or no key
      pub past_value : t v && key_here e d w ≡ false → seeking t e d (then p n v w) ≡ seeking t false d w
      unfolding seeking
      past_value f = goes_on (that-value ∙ and_comm (key_here e d w) (t v) ∙ f)

      pub at_key : t v ≡ true → key_here e d w ≡ true → seeking t e d (then p n v w) ≡ ((p, v) ∷ those (key_that t) at_top w, cut_by w)
      at_key f g = goes_on {b = true} (that-value ∙ rw (f, g)) ∙ top (eqb d 0) refl g
        where
          top : (b : Bool) → eqb d 0 ≡ b → b && makes_key e (ahead w) ≡ true
              → ◌≡◌ {A = List (ℕ × Value) × Option Refusal} (kept_if true (p, v) (those (key_that t) (around false d) w), cut_by w) ((p, v) ∷ those (key_that t) at_top w, cut_by w)
          top true h q = rw (eqb-true d 0 h)
          top false h q = never (cc)

-- ---- every key, and those that are a plain id

pub every-key : (a : Around) (w : Walk) → those (key_that (λ _. true)) a w ≡ those is_key a w
unfolding those key_that
every-key a done = refl
every-key a (cut r) = refl
every-key a (then p n v w) = rw (and-true (is_key a v w), every-key (onward v a) w)

-- the position of the first
abbrev pub head_position : List (ℕ × Value) → Option ℕ
head_position [] = none
head_position ((p, v) ∷ l) = some p

plain-keys : (i : ℕ) (a : Around) (w : Walk) → first_plain i (those is_key a w) ≡ head_position (those (key_that (is_plain i)) a w)
unfolding those key_that first_plain
plain-keys i a done = refl
plain-keys i a (cut r) = refl
plain-keys i a (then p n v w) =
    first-kept i (is_key a v w) p v (those is_key (onward v a) w) ∙ go (plain-keys i (onward v a) w) (is_key a v w && is_plain i v)
  where
    go : first_plain i (those is_key (onward v a) w) ≡ head_position (those (key_that (is_plain i)) (onward v a) w) → (b : Bool)
        → pick b (some p) (first_plain i (those is_key (onward v a) w)) ≡ head_position (kept_if b (p, v) (those (key_that (is_plain i)) (onward v a) w))
    go h true = refl
    go h false = h

-- what is sought is the first, or what ended the walk
pub sought-first : (i : ℕ) (w : Walk) → sought i w ≡ firstly (head_position (those (key_that (is_plain i)) at_top w)) (cut_by w)
unfolding sought keys_of
sought-first i w = ap (λ (o : Option ℕ). firstly o (cut_by w)) (plain-keys i at_top w)

-- ---- the token at a place makes a key exactly if its id does

-- by what stands there
ahead-by : (s : List ℕ) (p : ℕ) → p < length s → (test : Value → Bool) (b : Bool) → ((v : Value) (n : ℕ) → at token s p ≡ found v n → test v ≡ b)
    → ((why : Fault) → at token s p ≡ refused why → b ≡ false) → holds test (ahead (from s p)) ≡ b
unfolding ahead step at further
ahead-by s p h test b f g = ap (λ (w : Walk). holds test (ahead w)) (from_step s p h) ∙ go (token (drop p s)) refl
  where
    go : (x : Answer Value) → token (drop p s) ≡ x → holds test (ahead (step p x (λ n. from s (p + n)))) ≡ b
    go (found v n) e = f v (p + n) (rw e)
    go (refused why) e = sym (g why (rw e))

module _ (s : List ℕ) (p : ℕ) where
  -- a token without a payload
  ahead-bare : {i n : ℕ} → at (num 2) s p ≡ found i n → (test : Value → Bool) (u : Value) (j : ℕ) → after j ≡ nothing u
      → ((v : Value) (m : ℕ) → at (payload (after i)) s n ≡ found v m → test v ≡ eqb i j) → holds test (ahead (from s p)) ≡ eqb i j
  ahead-bare {i} {n} e test u j own only =
      ahead-by s p (num-inside 2 (omega arith) s p i n e) test (eqb i j) (λ v m f. only v m (sym (by-id s p e refl) ∙ f))
      (λ why f. go (eqb i j) refl (sym (by-id s p e refl) ∙ f))
    where
      go : (b : Bool) → eqb i j ≡ b → {why : Fault} → at (payload (after i)) s n ≡ refused why → b ≡ false
      go true q f = let z : at (payload (after i)) s n ≡ found u n = rw (eqb-true i j q, own) (at-nothing u s n) in cc
      go false q f = refl

  pub ahead-id : (e : Bool) {i n : ℕ} → at (num 2) s p ≡ found i n → makes_key e (ahead (from s p)) ≡ (eqb i 0x0001 || (eqb i 0x0003 && not e))
  unfolding makes_key after or_plain find entries table
  ahead-id e {i} {n} f = rw (ahead-bare f is_equal Equal 0x0001 refl (λ v m. equal-after i s n), ahead-bare f is_open Open 0x0003 refl (λ v m. open_after_lem i s n))

  ahead-empty : {why : Fault} → at (num 2) s p ≡ refused why → ahead (from s p) ≡ none
  unfolding and_then ahead step at further
  ahead-empty {why} e = go (ltb p (length s)) refl
    where
      of : (x : Answer Value) → further p x ≡ refused why → ahead (step p x (λ n. from s (p + n))) ≡ none
      of (found v n) f = cc
      of (refused r) f = refl

      go : (b : Bool) → ltb p (length s) ≡ b → ahead (from s p) ≡ none
      go true h = ap ahead (from_step s p (ltb-true p (length s) h)) ∙ of (token (drop p s)) (rw e at (token-then s p))
      go false h = ap ahead (from_end s p (ltb-false p (length s) h))

  pub ahead_none : (e : Bool) {why : Fault} → at (num 2) s p ≡ refused why → makes_key e (ahead (from s p)) ≡ false
  unfolding makes_key
  ahead_none e f = rw (ahead-empty f)
