-- What the writer's answer says of a token that was read, and of what is left of the save. Assumes nothing.
use Prim.Native.Nat.{ℕ, ◌+◌, ◌≤◌, ◌<◌}
use native.Mathlib.Omega.{arith}
use mathlib.Core.Path.{◌≡◌, refl, sym, ap, ◌∙◌}
use mathlib.Core.Bool.{Bool, true, false}
use mathlib.Core.Option.{none, some}
use Rattle.std.specs.Prelude.{Result, Ok, Err, None, Some}
use mathlib.Core.List.{List}
use lib.ListN.{length, get_or}
use mir.Syntax.{w8}
use mir.Val.{Fits}
use Rattle.form.specs.Numbers.{pick, MAX}
use Rattle.form.specs.Values.{Value}
use Rattle.form.specs.Refusals as R
use Rattle.form.specs.Readers.{found, refused}
use Rattle.form.specs.Spelling.{spell, wide}
use Rattle.form.specs.Shortest.{shortest}
use Rattle.form.specs.Saves.{Walk, cut}
use Rattle.form.specs.Writing.{Output, unwritten, Outcome, declined, outcome, leaves, Follows, fitted, first_refusal, unless}
use Rattle.laws.proofs.Never.{never}
use Rattle.laws.proofs.LittleEndian.{bytes-all}
use Rattle.token.specs.declared.Token.{Token}
use Rattle.token.specs.Tokens.{value_of, token_at}
use Rattle.token.proofs.Walks.{Read, token-read, token-refused}
use Rattle.writer.specs.declared.WriteError.{WriteError}
use Rattle.writer.specs.declared.WriteError.TheVariants as W
use Rattle.writer.specs.Writes.{write_token, write_shortest_token, wrote_outcome}
use Rattle.writer.proofs.Fitting.{fitted-written, fitted-refused}
use Rattle.normaliser.specs.Stretches.{Style, normal_style, short_style, output_of, Placed, Appends, count_of, Respelt, Stopped, HasSpelling}
use Rattle.normaliser.proofs.Joining.{rest_from}
use Rattle.normaliser.proofs.Steps.{read-reason, read-spells, token-writes, short-spells, spellable-writes}
use Rattle.normaliser.proofs.Passing.{part, back, appends, Going, went_on}

-- ---- the writer's answer for bytes: it counts them, where they fit and where they don't

no-room-same : {m n : ℕ} → R.NoRoom m ≡ R.NoRoom n → m ≡ n
no-room-same e = cc

module _ (room : ℕ) (bs : List ℕ) where
  fits-count : (x : Result ℕ WriteError) → wrote_outcome x ≡ outcome (fitted room bs) → count_of x ≡ Some (length bs)
  fits-count (Ok n) e = ap Some (fitted-written room bs e).0
  fits-count (Err (W.NoRoom n)) e = ap Some (no-room-same (fitted-refused room bs e).0)
  fits-count (Err (W.LongString p)) e = let f : R.LongString p ≡ R.NoRoom (length bs) = (fitted-refused room bs e).0 in never (cc)
  fits-count (Err (W.WideLookup p)) e = let f : R.WideLookup p ≡ R.NoRoom (length bs) = (fitted-refused room bs e).0 in never (cc)
  fits-count (Err (W.ReservedId p)) e = let f : R.ReservedId p ≡ R.NoRoom (length bs) = (fitted-refused room bs e).0 in never (cc)
  fits-count (Err (W.BadPlace p)) e = let f : R.BadPlace p ≡ R.NoRoom (length bs) = (fitted-refused room bs e).0 in never (cc)

-- they are counted and put after so many others of the output d
appended : {o : Output} {a : Outcome} {d bs ys : List ℕ} {need at n : ℕ} → length d ≤ MAX → Placed need (length d) at → Follows o a (part d at) ys
    → o ≡ fitted (length (part d at)) bs → n ≡ length bs → Appends d need bs (back d at ys) (need + n)
appended {d = d} {at = at} m p f e k = appends m p (f.output ∙ ap (λ (x : Output). leaves x (part d at)) e) (omega (arith, k))

-- ---- a token that was read, in normal form: w tells whether it is a wide lookup, and bs are its bytes

abbrev judged : Bool → ℕ → List ℕ → Output
judged w room bs = unless (pick w (some (R.WideLookup 0)) none) (fitted room bs)

some-same : {m n : ℕ} → Some m ≡ Some n → m ≡ n
some-same e = cc

is-count : (w : Bool) (room : ℕ) (bs : List ℕ) (x : Result ℕ WriteError) → wrote_outcome x ≡ outcome (judged w room bs) → count_of x ≡ pick w None (Some (length bs))
unfolding outcome unless
is-count true room bs (Ok n) e = never (cc)
is-count true room bs (Err (W.NoRoom n)) e = never (cc)
is-count true room bs (Err (W.LongString p)) e = refl
is-count true room bs (Err (W.WideLookup p)) e = refl
is-count true room bs (Err (W.ReservedId p)) e = refl
is-count true room bs (Err (W.BadPlace p)) e = refl
is-count false room bs x e = fits-count room bs x e

some-narrow : (w : Bool) {n m : ℕ} → Some n ≡ pick w None (Some m) → (w ≡ false) × (n ≡ m)
some-narrow true e = never (cc)
some-narrow false e = (refl, cc)

none-wide : (w : Bool) (m : ℕ) → None ≡ pick w None (Some m) → w ≡ true
none-wide true m e = refl
none-wide false m e = never (cc)

-- what the writer does with it in a part of the output
abbrev doing : List ℕ → List ℕ → ℕ → Token → Output
doing s d at t = write_token (length (part d at)) s t

module _ (s : List ℕ) (b : (j : ℕ) → Fits w8 (get_or s j 0)) (i : ℕ) {t : Token} {next : ℕ} (e : token_at s i ≡ found t next) where
  abbrev v : Value
  v = value_of s t

  r : Read s i v next
  r = token-read s i e

  writes : (room : ℕ) → write_token room s t ≡ judged (wide v) room (spell v)
  writes = token-writes s i (bytes-all s b) e

  said : {d d' : List ℕ} {a : Outcome} → Follows (write_token (length d) s t) a d d' → a ≡ outcome (judged (wide v) (length d) (spell v))
  said {d} f = f.answer ∙ ap outcome (writes (length d))

  -- it can be written
  respelt : {d ys : List ℕ} {need at n : ℕ} {a : Outcome} → length d ≤ MAX → Placed need (length d) at → Follows (doing s d at t) a (part d at) ys
      → (wide v ≡ false) × (n ≡ length (spell v)) → Respelt normal_style s i next n d need (back d at ys)
  unfolding unless
  respelt {d} {at = at} m p f k = record {
    bytes = spell v;
    more = r.on;
    spells = read-spells (bytes-all s b) r k.0;
    appends = appended m p f (writes (length (part d at)) ∙ ap (λ (w : Bool). judged w (length (part d at)) (spell v)) k.0) k.1;
  }

  module _ (y : Result ℕ WriteError) (d : List ℕ) {ys : List ℕ} {need at : ℕ} (m : length d ≤ MAX) (p : Placed need (length d) at)
      (f : Follows (doing s d at t) (wrote_outcome y) (part d at) ys) where
    counts : count_of y ≡ pick (wide v) None (Some (length (spell v)))
    counts = is-count (wide v) _ (spell v) y (said f)

    pub next-counted : {n : ℕ} → count_of y ≡ Some n → Respelt normal_style s i next n d need (back d at ys)
    next-counted q = respelt m p f (some-narrow (wide v) (sym q ∙ counts))

    -- or it cannot
    pub next-wide : count_of y ≡ None → Stopped normal_style s i (declined (R.WideLookup i))
    unfolding output_of first_refusal unless
    next-wide q =
        let w : wide v ≡ true = none-wide (wide v) _ (sym q ∙ counts) in
        record { why = R.WideLookup i; is = rest_from normal_style s i ∙ ap (output_of normal_style) r.walks ∙ rw (read-reason (bytes-all s b) r i, w); answer = refl }

-- ---- a token that has a shortest spelling

module _ {s : List ℕ} {t : Token} (x : Result ℕ WriteError) (d : List ℕ) {ys : List ℕ} {need at : ℕ} (k : HasSpelling short_style s t) (m : length d ≤ MAX) (p : Placed need (length d) at)
    (f : Follows (write_shortest_token (length (part d at)) s t) (wrote_outcome x) (part d at) ys) where
  pub short-count : count_of x ≡ Some (length (shortest (value_of s t)))
  short-count = fits-count (length (part d at)) (shortest (value_of s t)) x (f.answer ∙ ap outcome (spellable-writes k (length (part d at))))

  pub short-appends : {n : ℕ} → count_of x ≡ Some n → Appends d need (shortest (value_of s t)) (back d at ys) (need + n)
  short-appends q = appended m p f (spellable-writes k _) (some-same (sym q ∙ short-count))

-- and one that was read is what the pass goes on by
pub short_on : {s : List ℕ} (b : (j : ℕ) → Fits w8 (get_or s j 0)) {d₀ d d' : List ℕ} {i need next n : ℕ} {t : Token} → token_at s i ≡ found t next
    → Going short_style s d₀ d i need → Appends d need (shortest (value_of s t)) d' n → (i < next) × Going short_style s d₀ d' next n
short_on {s} b {i = i} e g a = let r = token-read s i e in (r.on, went_on g (short-spells (bytes-all s b) r) a)

-- ---- a token that was refused

gives_cut : (y : Style) {w : Walk} {r : R.Refusal} → w ≡ cut r → output_of y w ≡ unwritten r
unfolding output_of first_refusal unless
gives_cut y e = rw e

pub next-refused : {y : Style} {s : List ℕ} {i p : ℕ} {e : R.Fault} → i < length s → p ≡ i → token_at s i ≡ refused e → Stopped y s i (declined (R.refusal_at p e))
next-refused {y} {s} {i} {p} {e} l k q = record { why = R.refusal_at i e; is = rest_from y s i ∙ gives_cut y (token-refused s i l q); answer = ap (λ (j : ℕ). declined (R.refusal_at j e)) k }
