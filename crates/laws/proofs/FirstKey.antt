-- A key that is found is found by the bytes up to the end of the token that follows it, whatever comes after them. Assumes nothing.
use Prim.Native.Nat.{ℕ, zero, suc, ◌+◌, ◌≤◌}
use native.Mathlib.Omega.{arith}
use mathlib.Core.Path.{◌≡◌, refl, sym, ap, ◌∙◌}
use mathlib.Core.Bool.{Bool, true, false, not, ◌&&◌, ◌||◌}
use mathlib.Core.Option.{Option, none, some}
use mathlib.Core.List.{List, [], ◌∷◌}
use lib.ListN.{length, drop, length-drop}
use lib.Seq.{drop-drop}
use lib.Dec.{eqb}
use borrow.Author.Tests.{eqb-true}
use Rattle.form.specs.Numbers.{pick}
use Rattle.form.specs.Values.{Value, Open, Close, Equal, U32, U64, F32, F64, Lookup, Id, I32, I64, Truth, Quoted, Unquoted, Rgb, kind}
use Rattle.form.specs.Refusals.{Refusal}
use Rattle.form.specs.Readers.{Answer, found, refused, further, at}
use Rattle.form.specs.Reading.{token}
use Rattle.form.specs.Spelling.{tag}
use Rattle.form.specs.Saves.{Walk, then, step, walk_f}
use Rattle.form.specs.Calls.{Cursor, position_of, Call, gives, fits}
use Rattle.form.specs.Keys.{is_open, is_close, is_equal, Around, at_top, onward, ahead, holds, makes_key, is_key, kept_if, those, keys_of}
use Rattle.form.specs.Finding.{is_plain, first_plain, cut_by, firstly, sought, staying, walk_at, finds}
use Rattle.laws.proofs.Never.{never}
use Rattle.laws.proofs.Found.{Within, token-in}
use Rattle.laws.proofs.Elsewhere.{both}
use Rattle.laws.proofs.Cursors.{fits-true, by_place, within_in}
use Rattle.laws.proofs.Local.{Begins, begins-front, begins-back, begins-length, token_begins}

-- ---- the plain id

pub plain-is : (i : ℕ) (v : Value) → is_plain i v ≡ true → v ≡ Id i
unfolding is_plain kind tag
plain-is i Open e = cc
plain-is i Close e = cc
plain-is i Equal e = cc
plain-is i (U32 n) e = cc
plain-is i (U64 n) e = cc
plain-is i (F32 n) e = cc
plain-is i (F64 n) e = cc
plain-is i (Lookup n) e = cc
plain-is i (Id j) e = ap Id (eqb-true j i e)
plain-is i (I32 z) e = cc
plain-is i (I64 z) e = cc
plain-is i (Truth b) e = cc
plain-is i (Quoted t) e = cc
plain-is i (Unquoted t) e = cc
plain-is i (Rgb r g b a) e = cc

-- the first among tokens of which the foremost is there if a test holds
pub first-kept : (i : ℕ) (b : Bool) (p : ℕ) (v : Value) (l : List (ℕ × Value)) → first_plain i (kept_if b (p, v) l) ≡ pick (b && is_plain i v) (some p) (first_plain i l)
unfolding first_plain
first-kept i true p v l = refl
first-kept i false p v l = refl

-- a key is told by the token ahead
key-ahead : (a : Around) (v : Value) (w u : Walk) → ahead w ≡ ahead u → is_key a v w ≡ is_key a v u
unfolding is_key
key-ahead a v w u e = ap (λ (o : Option Value). not (is_open v || is_close v || is_equal v) && eqb a.depth 0 && makes_key (holds is_equal a.before) o) e

-- ---- the walk over bytes that begin with a token

pub record Goes (m q : ℕ) (t : List ℕ) (v : Value) (n : ℕ) : Type 0 where
  pub less : ℕ
  pub walks : walk_f m q t ≡ then q n v (walk_f less (q + n) (drop n t))
  pub enough : length (drop n t) ≤ less

pub goes : (m q : ℕ) (t : List ℕ) {v : Value} {n : ℕ} → length t ≤ m → token t ≡ found v n → Goes m q t v n
unfolding walk_f step
goes m q t {v} {n} h e = go m t h e (rw e at (token-in t))
  where
    go : (m : ℕ) (t : List ℕ) → length t ≤ m → token t ≡ found v n → Within t n → Goes m q t v n
    go m [] h e w = absurd (omega (arith, w.some, w.there))
    go zero (b ∷ t) h e w = absurd (omega arith)
    go (suc m) (b ∷ t) h e w = record {
      less = m;
      walks = rw e;
      enough = rw length-drop (omega (arith, w.some));
    }

ahead-goes : (m q : ℕ) (t : List ℕ) {v : Value} {n : ℕ} → length t ≤ m → token t ≡ found v n → ahead (walk_f m q t) ≡ some v
unfolding ahead
ahead-goes m q t h e = ap ahead (goes m q t h e).walks

-- the token ahead is the one that the bytes begin with
record Front (k q : ℕ) (s : List ℕ) : Type 0 where
  value : Value
  size : ℕ
  reads : token s ≡ found value size
  is : ahead (walk_f k q s) ≡ some value

front : (test : Option Value → Bool) → test none ≡ false → (k q : ℕ) (s : List ℕ) → test (ahead (walk_f k q s)) ≡ true → Front k q s
unfolding walk_f step ahead
front test z zero q s e = never (cc)
front test z (suc k) q [] e = never (cc)
front test z (suc k) q (b ∷ s) e = go (token (b ∷ s)) refl e
  where
    go : (x : Answer Value) → token (b ∷ s) ≡ x → test (ahead (step q x (λ n. walk_f k (q + n) (drop n (b ∷ s))))) ≡ true → Front (suc k) q (b ∷ s)
    go (found v n) f e = record { value = v; size = n; reads = f; is = rw f }
    go (refused why) f e = never (cc)

-- ---- the first key of a walk

-- where it stands and what follows it; and bytes that begin as far as that have the same
record Shown (i : ℕ) (a : Around) (k q : ℕ) (s : List ℕ) (p : ℕ) : Type 0 where
  key : ℕ
  size : ℕ
  more : ℕ
  follower : Value
  is : p ≡ q + key
  stands : token (drop key s) ≡ found (Id i) size
  followed : token (drop (key + size) s) ≡ found follower more
  alike : (m : ℕ) (t : List ℕ) → length t ≤ m → Begins (key + (size + more)) s t
      → (ahead (walk_f m q t) ≡ ahead (walk_f k q s)) × (first_plain i (those is_key a (walk_f m q t)) ≡ some p)

-- the walk begins with the token v of n bytes
module _ (i : ℕ) (a : Around) (k q : ℕ) (s : List ℕ) {v : Value} {n : ℕ} (reads : token s ≡ found v n) (w : Walk) (walks : walk_f k q s ≡ then q n v w) where
  -- so does that of any bytes that begin with it
  alike-first : (m : ℕ) (t : List ℕ) → (e : token t ≡ found v n) (h : length t ≤ m) {p : ℕ} → ahead (walk_f (goes m q t h e).less (q + n) (drop n t)) ≡ ahead w
      → pick (is_key a v w && is_plain i v) (some q) (first_plain i (those is_key (onward v a) (walk_f (goes m q t h e).less (q + n) (drop n t)))) ≡ some p
      → (ahead (walk_f m q t) ≡ ahead (walk_f k q s)) × (first_plain i (those is_key a (walk_f m q t)) ≡ some p)
  unfolding ahead those
  alike-first m t e h same first =
      let g = goes m q t h e in
      let u = walk_f g.less (q + n) (drop n t) in
      (rw (g.walks, walks), rw g.walks (first-kept i (is_key a v u) q v (those is_key (onward v a) u) ∙ ap (λ (b : Bool). pick (b && is_plain i v) (some q) (first_plain i (those is_key (onward v a) u))) (key-ahead a v u w same) ∙ first))

-- a key has a token ahead
key-front : (a : Around) (v : Value) (k q : ℕ) (s : List ℕ) → is_key a v (walk_f k q s) ≡ true → Front k q s
unfolding is_key makes_key
key-front a v k q s h =
    let made = makes_key (holds is_equal a.before) in
    front made refl k q s (both (not (is_open v || is_close v || is_equal v) && eqb a.depth 0) (made (ahead (walk_f k q s))) h).1

here : (i : ℕ) (a : Around) (k q : ℕ) (s : List ℕ) {v : Value} {n : ℕ} (reads : token s ≡ found v n) (j : ℕ) → walk_f k q s ≡ then q n v (walk_f j (q + n) (drop n s))
    → is_key a v (walk_f j (q + n) (drop n s)) && is_plain i v ≡ true → Front j (q + n) (drop n s) → Shown i a k q s q
here i a k q s {v} {n} reads j walks h f =
    record {
      key = 0;
      size = n;
      more = f.size;
      follower = f.value;
      is = omega arith;
      stands = reads ∙ ap (λ (u : Value). found u n) (plain-is i v (both (is_key a v (walk_f j (q + n) (drop n s))) (is_plain i v) h).1);
      followed = let z : 0 + n ≡ n = omega arith in rw z f.reads;
      alike = λ m t l b.
          let z : 0 + (n + f.size) ≡ n + f.size = omega arith in
          let c : Begins (n + f.size) s t = rw z at b in
          let e = token_begins s t reads (begins-front n f.size s t c) in
          let e₂ = token_begins (drop n s) (drop n t) f.reads (begins-back n f.size s t c) in
          let g = goes m q t l e in
          alike-first i a k q s reads (walk_f j (q + n) (drop n s)) walks m t e l (ahead-goes g.less (q + n) (drop n t) g.enough e₂ ∙ sym f.is) (rw h);
    }

later : (i : ℕ) (a : Around) (k q : ℕ) (s : List ℕ) {v : Value} {n : ℕ} (reads : token s ≡ found v n) (j : ℕ) → walk_f k q s ≡ then q n v (walk_f j (q + n) (drop n s))
    → is_key a v (walk_f j (q + n) (drop n s)) && is_plain i v ≡ false → {p : ℕ} → Shown i (onward v a) j (q + n) (drop n s) p → Shown i a k q s p
later i a k q s {v} {n} reads j walks h {p} r =
    record {
      key = n + r.key;
      size = r.size;
      more = r.more;
      follower = r.follower;
      is = omega (arith, r.is);
      stands = ap token (sym (drop-drop r.key n s)) ∙ r.stands;
      followed = let z : n + r.key + r.size ≡ n + (r.key + r.size) = omega arith in rw z (ap token (sym (drop-drop (r.key + r.size) n s)) ∙ r.followed);
      alike = λ m t l b.
          let z : n + r.key + (r.size + r.more) ≡ n + (r.key + (r.size + r.more)) = omega arith in
          let c : Begins (n + (r.key + (r.size + r.more))) s t = rw z at b in
          let e = token_begins s t reads (begins-front n (r.key + (r.size + r.more)) s t c) in
          let g = goes m q t l e in
          let x = r.alike g.less (drop n t) g.enough (begins-back n (r.key + (r.size + r.more)) s t c) in
          alike-first i a k q s reads (walk_f j (q + n) (drop n s)) walks m t e l x.0 (rw h x.1);
    }

shown : (i : ℕ) (a : Around) (k q : ℕ) (s : List ℕ) {p : ℕ} → first_plain i (those is_key a (walk_f k q s)) ≡ some p → Shown i a k q s p
unfolding walk_f step those first_plain
shown i a zero q s e = never (cc)
shown i a (suc k) q [] e = never (cc)
shown i a (suc k) q (b ∷ s) {p} e = go (token (b ∷ s)) refl (λ v n. shown i (onward v a) k (q + n) (drop n (b ∷ s))) e
  where
    Rest : Value → ℕ → Type 0
    Rest v n = first_plain i (those is_key (onward v a) (walk_f k (q + n) (drop n (b ∷ s)))) ≡ some p → Shown i (onward v a) k (q + n) (drop n (b ∷ s)) p

    by : (v : Value) (n : ℕ) → token (b ∷ s) ≡ found v n → Rest v n → (x : Bool) → is_key a v (walk_f k (q + n) (drop n (b ∷ s))) && is_plain i v ≡ x
        → pick x (some q) (first_plain i (those is_key (onward v a) (walk_f k (q + n) (drop n (b ∷ s))))) ≡ some p → Shown i a (suc k) q (b ∷ s) p
    by v n f rest true h e = let z : q ≡ p = cc in rw (← z) (here i a (suc k) q (b ∷ s) f k (rw f) h (key-front a v k (q + n) (drop n (b ∷ s)) (both (is_key a v (walk_f k (q + n) (drop n (b ∷ s)))) (is_plain i v) h).0))
    by v n f rest false h e = later i a (suc k) q (b ∷ s) f k (rw f) h (rest e)

    go : (x : Answer Value) → token (b ∷ s) ≡ x → ((v : Value) (n : ℕ) → Rest v n)
        → first_plain i (those is_key a (step q x (λ n. walk_f k (q + n) (drop n (b ∷ s))))) ≡ some p → Shown i a (suc k) q (b ∷ s) p
    go (found v n) f rest e =
        by v n f (rest v n) (is_key a v (walk_f k (q + n) (drop n (b ∷ s))) && is_plain i v) refl
        (sym (first-kept i (is_key a v (walk_f k (q + n) (drop n (b ∷ s)))) q v (those is_key (onward v a) (walk_f k (q + n) (drop n (b ∷ s))))) ∙ e)
    go (refused why) f rest e = never (cc)

-- ---- the call

-- the key at position p stands at a place, and the token that follows it ends at another; all bytes that begin so far, and are not too long for
-- the offset, give the same answer
pub record NoFurther (i : ℕ) (s : List ℕ) (c : Cursor) (p : ℕ) : Type 0 where
  pub key : ℕ
  pub next : ℕ
  pub end : ℕ
  pub follower : Value
  pub position : p ≡ position_of c key
  pub stands : at token s key ≡ found (Id i) next
  pub followed : at token s next ≡ found follower end
  pub alike : (t : List ℕ) → fits t c ≡ true → Begins end s t → finds i t c ≡ finds i s c

-- a position is answered from a place of the input, of a key
given : (i : ℕ) (s : List ℕ) (c : Cursor) {p : ℕ} → finds i s c ≡ gives (some p) c → (c.at ≤ length s) × (first_plain i (keys_of (walk_at s c)) ≡ some p)
unfolding finds staying sought firstly
given i s c {p} e =
    by_place s c (λ (x : Call (Option ℕ)). x ≡ gives (some p) c → (c.at ≤ length s) × (first_plain i (keys_of (walk_at s c)) ≡ some p))
    (λ h e. (h.there, of (first_plain i (keys_of (walk_at s c))) (cut_by (walk_at s c)) e)) (λ _ _ e. never (cc)) (λ _ e. never (cc)) e
  where
    of : (o : Option ℕ) (r : Option Refusal) → staying c (firstly o r) ≡ gives (some p) c → o ≡ some p
    of (some q) r e = cc
    of none (some r) e = cc
    of none none e = cc

pub no-further : (i : ℕ) (s : List ℕ) (c : Cursor) {p : ℕ} → finds i s c ≡ gives (some p) c → NoFurther i s c p
unfolding finds walk_at keys_of staying sought firstly at further
no-further i s c {p} e =
    let g = given i s c e in
    let r = shown i at_top (length s) (position_of c c.at) (drop c.at s) g.1 in
    let key = c.at + r.key in
    let from : drop key s ≡ drop r.key (drop c.at s) = sym (drop-drop r.key c.at s) in
    let z : key + r.size ≡ c.at + (r.key + r.size) = omega arith in
    let then : drop (key + r.size) s ≡ drop (r.key + r.size) (drop c.at s) = ap (λ (k : ℕ). drop k s) z ∙ sym (drop-drop (r.key + r.size) c.at s) in
    record {
      key = key;
      next = key + r.size;
      end = key + r.size + r.more;
      follower = r.follower;
      position = omega (arith, r.is);
      stands = rw (from, r.stands);
      followed = rw (then, r.followed);
      alike = λ t f b.
          let x : key + r.size + r.more ≡ c.at + (r.key + (r.size + r.more)) = omega arith in
          let d : Begins (c.at + (r.key + (r.size + r.more))) s t = rw x at b in
          let l = begins-length c.at s t g.0 (begins-front c.at (r.key + (r.size + r.more)) s t d) in
          let y = r.alike (length t) (drop c.at t) (rw length-drop (omega arith)) (begins-back c.at (r.key + (r.size + r.more)) s t d) in
          within_in t c (record { fitting = fits-true t c f; there = l }) ∙ rw y.1 (sym e);
    }
