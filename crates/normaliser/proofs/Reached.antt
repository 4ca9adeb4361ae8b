-- A rescue, token by token and stretch by stretch. Assumes nothing.
use Prim.Native.Nat.{ℕ, ◌+◌, ◌-◌, ◌*◌, ◌≤◌}
use native.Mathlib.Nat.{zero-add, add_assoc}
use native.Mathlib.Omega.{arith}
use mathlib.Core.Path.{◌≡◌, refl, sym, ap, ◌∙◌}
use mathlib.Core.Bool.{Bool, true, false, ◌&&◌}
use mathlib.Core.List.{List, [], ◌++◌, append-nil, append_assoc}
use lib.ListN.{length, drop}
use lib.Dec.{eqb, ltb}
use borrow.Author.Tests.{ne_eqb, ltb-true, ltb-false}
use Rattle.form.specs.Numbers.{pick, le_bytes, MAX}
use Rattle.form.specs.Values.{Value, Open, Close, kind}
use Rattle.form.specs.Refusals.{Fault}
use Rattle.form.specs.Readers.{refused, at, placed}
use Rattle.form.specs.Reading.{token}
use Rattle.form.specs.Spelling.{bit, tag, body, spell}
use Rattle.form.specs.Saves.{Walk, then, from, values, spell_all}
use Rattle.form.specs.Keys.{is_open, is_close, deeper, onward, is_stray, those, count}
use Rattle.form.specs.Rescue.{open_after, read_to, at_depth, kept_of, closes}
use Rattle.laws.proofs.Found.{Within, token-in}
use Rattle.laws.proofs.Walking.{from_end}
use Rattle.laws.proofs.Tests.{count-step}
use Rattle.laws.proofs.Rescuing.{close-two, strays-at, closes-add}
use Rattle.token.specs.Tokens.{token_of, token_at}
use Rattle.token.proofs.Walks.{Read, token-refused}
use Rattle.writer.specs.Layouts.{id_number}
use Rattle.normaliser.specs.Stretches.{between, Appends}
use Rattle.normaliser.specs.Rescues.{ToCome, to_come, behind, ToStray, ToEnd}
use Rattle.normaliser.proofs.Passing.{appends-none, appends-then}
use Rattle.normaliser.proofs.Joining.{between_none, between-then}

-- ---- what is to come, after what has come

pub behind-none : (r : ToCome) → behind [] 0 r ≡ r
behind-none r = ap (λ (k : ℕ). record { kept = r.kept; strays = k; deep = r.deep; end = r.end }) (zero-add r.strays)

pub behind-behind : (a b : List ℕ) (j k : ℕ) (r : ToCome) → behind a j (behind b k r) ≡ behind (a ++ b) (j + k) r
behind-behind a b j k r = λ i. record { kept = sym (append_assoc a b r.kept) i; strays = sym (add_assoc j k r.strays) i; deep = r.deep; end = r.end }

-- ---- by a token

module _ (s : List ℕ) (d p : ℕ) {v : Value} {n : ℕ} (r : Read s p v n) where
  pub two-on : p + 2 ≤ n
  two-on = let w : Within (drop p s) (n - p) = rw r.reads at (token-in (drop p s)) in omega (arith, w.some)

  -- by whether it is a stray
  token-on : {b : Bool} → is_close v && eqb d 0 ≡ b → to_come s d p ≡ behind (pick b [] (between s p n)) (bit b) (to_come s (deeper v d) n)
  unfolding kept_of open_after read_to values
  token-on {b} e =
      let w = from s n in
      let x : p + (n - p) ≡ n = omega (arith, r.on) in
      let k : count is_stray (at_depth d) (then p (n - p) v w) ≡ bit b + count is_stray (at_depth (deeper v d)) w =
      count-step is_stray (at_depth d) p (n - p) v w ∙ rw (e, strays-at (onward v (at_depth d)) (at_depth (deeper v d)) w refl)
      in
      let a : kept_of s d (from s p) ≡ pick b [] (between s p n) ++ kept_of s (deeper v d) w = ap (kept_of s d) r.walks ∙ ap (λ (c : Bool). pick c [] (between s p n) ++ kept_of s (deeper v d) w) e in
      let c : open_after d (values (from s p)) ≡ open_after (deeper v d) (values w) = ap (λ (u : Walk). open_after d (values u)) r.walks in
      let q : read_to p (from s p) ≡ read_to n w = ap (read_to p) r.walks ∙ ap (λ (m : ℕ). read_to m w) x in
      λ i. record { kept = a i; strays = (ap (count is_stray (at_depth d)) r.walks ∙ k) i; deep = c i; end = q i }

  pub kept_on : is_close v && eqb d 0 ≡ false → to_come s d p ≡ behind (between s p n) 0 (to_come s (deeper v d) n)
  kept_on e = token-on e

-- a stray
pub stray-on : (s : List ℕ) (p : ℕ) {v : Value} {n : ℕ} → Read s p v n → v ≡ Close → (n ≡ p + 2) × (to_come s 0 p ≡ behind [] 1 (to_come s 0 (p + 2)))
unfolding is_open is_close deeper kind
stray-on s p {v} {n} r e =
    let c : is_close v ≡ true = rw e in
    let x : n ≡ p + 2 = omega (arith, close-two s p r.reads c, r.on) in
    let z : to_come s 0 p ≡ behind [] 1 (to_come s 0 n) = token-on s 0 p r {b = true} (rw e) ∙ rw e in
    (x, rw (← x) z)

-- and where nothing can be read
pub ends_there : (s : List ℕ) (d p : ℕ) {why : Fault} → at token s p ≡ refused why → to_come s d p ≡ record { kept = []; strays = 0; deep = d; end = p }
unfolding kept_of open_after read_to values count those token_at placed
ends_there s d p {why} e = go (ltb p (length s)) refl
  where
    go : (b : Bool) → ltb p (length s) ≡ b → to_come s d p ≡ record { kept = []; strays = 0; deep = d; end = p }
    go true l = rw (token-refused s p (ltb-true p (length s) l) (ap (placed token_of) e))
    go false l = rw (from_end s p (ltb-false p (length s) l))

-- ---- a stretch from place p₀ has come to place p, with d containers open

pub record Reaches (s : List ℕ) (p₀ p d : ℕ) : Type 0 where
  pub on : p₀ ≤ p
  pub there : p ≤ length s
  pub shallow : 2 * d ≤ p - p₀
  pub is : to_come s 0 p₀ ≡ behind (between s p₀ p) 0 (to_come s d p)

pub sets-out : (s : List ℕ) (p : ℕ) → p ≤ length s → Reaches s p p 0
sets-out s p h = record {
  on = omega arith;
  there = h;
  shallow = omega arith;
  is = sym (rw (between_none s p) (behind-none (to_come s 0 p)));
}

-- over a token that is kept
module _ {s : List ℕ} {p₀ p d : ℕ} (h : Reaches s p₀ p d) {v : Value} {n : ℕ} (r : Read s p v n) where
  goes_on : {d₂ : ℕ} → is_close v && eqb d 0 ≡ false → deeper v d ≡ d₂ → d₂ ≤ d + 1 → Reaches s p₀ n d₂
  goes_on {d₂} e q l = record {
    on = omega (arith, h.on, r.on);
    there = r.there;
    shallow = omega (arith, h.on, h.shallow, two-on s d p r);
    is = h.is
        ∙ ap (behind (between s p₀ p) 0) (kept_on s d p r e ∙ ap (λ (k : ℕ). behind (between s p n) 0 (to_come s k n)) q)
        ∙ behind-behind (between s p₀ p) (between s p n) 0 0 (to_come s d₂ n)
        ∙ ap (λ (bs : List ℕ). behind bs 0 (to_come s d₂ n)) (between-then s p₀ p n h.on (omega (arith, r.on)));
  }

  pub over-open : v ≡ Open → Reaches s p₀ n (d + 1)
  unfolding is_open is_close deeper kind
  over-open e = goes_on (rw e) (rw e) (omega arith)

  pub over-close : v ≡ Close → (d ≡ 0 → ⊥) → Reaches s p₀ n (d - 1)
  unfolding is_open is_close deeper kind
  over-close e z = goes_on (rw (e, ne_eqb d 0 z)) (rw e) (omega arith)

  pub over-other : 2 ≤ kind v → Reaches s p₀ n d
  unfolding is_open is_close deeper kind
  over-other k =
      let c : is_close v ≡ false = ne_eqb (kind v) 1 (λ q. omega arith) in
      let o : is_open v ≡ false = ne_eqb (kind v) 0 (λ q. omega arith) in
      goes_on (rw c) (rw (o, c)) (omega arith)

-- it ends at a stray, or where nothing can be read
pub at-stray : {s : List ℕ} {p₀ p d : ℕ} → Reaches s p₀ p d → d ≡ 0 → {v : Value} {n : ℕ} → Read s p v n → v ≡ Close → ToStray s p₀ p
at-stray {s} {p₀} {p} g z r e =
    let h : Reaches s p₀ p 0 = rw z at g in
    let t = stray-on s p r e in
    record {
      on = h.on;
      there = omega (arith, r.there, t.0);
      is = h.is ∙ ap (behind (between s p₀ p) 0) t.1 ∙ behind-behind (between s p₀ p) [] 0 1 (to_come s 0 (p + 2))
          ∙ ap (λ (bs : List ℕ). behind bs 1 (to_come s 0 (p + 2))) (append-nil (between s p₀ p));
    }

pub at-end : {s : List ℕ} {p₀ p d : ℕ} → Reaches s p₀ p d → {why : Fault} → at token s p ≡ refused why → ToEnd s p₀ p d
at-end {s} {p₀} {p} {d} h e = record {
  on = h.on;
  there = h.there;
  shallow = h.shallow;
  is = h.is ∙ ap (behind (between s p₀ p) 0) (ends_there s d p e) ∙ ap (λ (bs : List ℕ). record { kept = bs; strays = 0; deep = d; end = p }) (append-nil (between s p₀ p));
}

-- ---- the Closes

-- one more after so many
pub one_more : (j : ℕ) {d₀ d d' : List ℕ} {need r r' : ℕ} → Appends d₀ need (closes j) d r → Appends d r (id_number 0x0004 0 0) d' r' → Appends d₀ need (closes (j + 1)) d' r'
unfolding closes spell_all spell le_bytes tag body
one_more j p q = rw (closes-add j 1) (appends-then p q)

-- none yet
pub no-close : (d : List ℕ) (need : ℕ) → length d ≤ MAX → Appends d need (closes 0) d need
unfolding closes spell_all
no-close d need m = appends-none d need m
