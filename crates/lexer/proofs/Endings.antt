-- Laws of the calls, for every read: how they end where the read is found, where it is refused, where the offset is too large, and where the cursor
-- is past the input. Assumes nothing.
use Prim.Native.Nat.{ℕ, ◌≤◌, ◌<◌}
use native.Mathlib.Omega.{arith}
use mathlib.Core.Path.{◌≡◌, refl, sym, ap, ◌∙◌}
use mathlib.Core.Bool.{Bool, true, false, ◌&&◌}
use mathlib.Core.Option.{Option, none, some}
use mathlib.Core.List.{List}
use Rattle.std.specs.Prelude.{Result, Ok, Err, Option as MayBe}
use Rattle.std.proofs.Common.{ControlFlow, Continue, to_z-of_z}
use Rattle.std.specs.Result.{result_or, result_and, result_from_control_flow}
use lib.ListN.{length}
use lib.Dec.{eqb}
use borrow.Author.Tests.{eqb-true, ne_eqb}
use Rattle.form.specs.Numbers.{pick, MAX}
use Rattle.form.specs.Refusals as F
use Rattle.form.specs.Refusals.{Fault, too_short, bad_colour}
use Rattle.form.specs.Readers.{Answer, found, refused, ByPlace, at, mapped}
use Rattle.form.specs.Reading.{num, token}
use Rattle.form.specs.Skipping.{Skip, stopped}
use Rattle.form.specs.Calls.{Cursor, moved_to, position_of, Call, gives, refuses, fits, within, ended, reads, optional, nexts, if_found, peeks, landed, skips}
use Rattle.laws.proofs.Never.{never}
use Rattle.laws.proofs.Elsewhere.{both}
use Rattle.laws.proofs.Inside.{Inside as Begins, inside-placed, inside-mapped, num-inside, token-inside}
use Rattle.laws.proofs.Cursors.{Placed, fits-true, le-fits, by_place, within_in, within-unfit, within-out}
use Rattle.laws.proofs.SkipSteps.{StopsBy}
use Rattle.payload.specs.Answers.{fault_of, option_as, read_as, lexed_as}
use Rattle.payload.specs.declared.answers.Eof.{Eof}
use Rattle.payload.specs.declared.answers.LexError.{LexError}
use Rattle.payload.specs.declared.answers.LexError.TheVariants.{Eof as Lacks}
use Rattle.payload.specs.declared.answers.LexErrorAt.{LexErrorAt}
use Rattle.token.specs.Tokens.{token_of, token_at}
use Rattle.token.specs.declared.Token.{Token}
use Rattle.skip.specs.Skips.{skip_answer}
use Rattle.lexer.specs.Calls.{cursor_of, refusal_of, read_call, next_call, staying_call, Lands}
use Rattle.lexer.specs.Twins.{Ends, Ended, next_of, peek_of}
use Rattle.lexer.specs.declared.Lexer.{Lexer}
use Rattle.lexer.specs.declared.answers.Refusal.{Refusal}
use Rattle.lexer.specs.declared.answers.Refusal.TheVariants.{Lexed, BadPlace}

-- ---- the place of a cursor

module _ (s : List ℕ) (c : Cursor) where
  pub inside : ◌≡◌ {A = Call (Unit {0})} (gives tt c) (within s c (gives tt c)) → Placed s c
  inside q =
      by_place s c (λ (y : Call (Unit {0})). gives tt c ≡ y → Placed s c) (λ h _. h) (λ _ _ q. never (cc)) (λ _ q. never (cc)) q

  -- a refusal that all calls share, or that of a call from a place of the input
  refusal : {r : F.Refusal} {A B : Type 0} (x : Call A) (y : Call B) → (Placed s c → refuses r c ≡ y → refuses r c ≡ x) → refuses r c ≡ within s c y → refuses r c ≡ within s c x
  refusal {r} {B = B} x y f q =
      by_place s c (λ (z : Call B). refuses r c ≡ z → refuses r c ≡ within s c x) (λ h q. f h q ∙ sym (within_in s c h))
      (λ h l q. let e : r ≡ F.BadPlace c.at = cc in rw e (sym (within-out s c h l x)))
      (λ h q. let e : r ≡ F.BadPlace c.offset = cc in rw e (sym (within-unfit s c h x))) q

  pub outside : {r : F.Refusal} → ◌≡◌ {A = Call (Unit {0})} (refuses r c) (within s c (gives tt c)) → {A : Type 0} (x : Call A) → refuses r c ≡ within s c x
  outside {r} q x = refusal x (gives tt c) (λ h (q : ◌≡◌ {A = Call (Unit {0})} (refuses r c) (gives tt c)). never (cc)) q

-- by what `place` answered
module _ (c : Lexer) (s : List ℕ) {p : Result (Unit {0}) Refusal} (h : staying_call (λ x. x) c p ≡ within s (cursor_of c) (gives tt (cursor_of c))) where
  pub told-inside : {x : Unit {0}} → p ≡ Ok x → Placed s (cursor_of c)
  told-inside e = inside s (cursor_of c) (rw e at h)

  pub told-outside : {e : Refusal} → p ≡ Err e → {A : Type 0} (x : Call A) → refuses (refusal_of e) (cursor_of c) ≡ within s (cursor_of c) x
  told-outside e x = outside s (cursor_of c) (rw e at h) x

-- a place of the input has a position
pub reaches : (s : List ℕ) (c : Cursor) → Placed s c → {d : Cursor} {n : ℕ} → d ≡ moved_to c n → n ≤ length s → position_of d d.at ≤ MAX
reaches s c h e l = rw e (omega (arith, h.fitting))

-- and so has the cursor
pub stands : (s : List ℕ) (c : Cursor) → Placed s c → position_of c c.at ≤ MAX
stands s c h = omega (arith, h.fitting, h.there)

-- ---- reads

-- a fault is no bad place
no_place : (p n : ℕ) (e : Fault) → F.refusal_at p e ≡ F.BadPlace n → ⊥
unfolding F.refusal_at
no_place p n (too_short m) q = never (cc)
no_place p n bad_colour q = never (cc)

-- a token begins inside the bytes
pub token_begins : Begins token_at
unfolding token_at
token_begins = inside-placed (at token) token_of token-inside

-- from a place of the input
module _ {A : Type 0} (f : ByPlace A) (s : List ℕ) (c : Cursor) (h : Placed s c) where
  inside-got : {x : A} {n : ℕ} {d : Cursor} → f s c.at ≡ found x n → d ≡ moved_to c n → gives x d ≡ reads f s c
  unfolding reads ended
  inside-got {x} {n} {d} e m = let z : gives x d ≡ ended c (f s c.at) = rw (e, m) in z ∙ sym (within_in s c h)

module _ {A : Type 0} (f : ByPlace A) (s : List ℕ) (c : Cursor) where
  pub cut : {e : Fault} {r : F.Refusal} → f s c.at ≡ refused e → ◌≡◌ {A = Call (Unit {0})} (refuses r c) (reads (λ _ _. refused e) s c) → refuses r c ≡ reads f s c
  unfolding reads ended
  cut {e} {r} h q = refusal s c (ended c (f s c.at)) (ended {A = Unit {0}} c (refused e)) (λ _ q. rw h (cc)) q

  -- how a read ends, and a peek of the same: by what is found, by a fault, or refused as every call is
  ends : (P : Call A → Call (Option A) → Type 0)
      → ((a : A) (n : ℕ) → f s c.at ≡ found a n → P (gives a (moved_to c n)) (gives (some a) c))
      → ((e : Fault) → P (refuses (F.refusal_at (position_of c c.at) e) c) (gives none c))
      → ((p : ℕ) → P (refuses (F.BadPlace p) c) (refuses (F.BadPlace p) c))
      → P (reads f s c) (peeks f s c)
  unfolding reads peeks ended if_found
  ends P x y z =
      by_place s c (λ (r : Call A). P r (peeks f s c)) (λ h. rw (within_in s c h {x = gives (if_found (f s c.at)) c}) (go (f s c.at) refl))
      (λ h l. rw (within-out s c h l (gives (if_found (f s c.at)) c)) (z c.at)) (λ h. rw (within-unfit s c h (gives (if_found (f s c.at)) c)) (z c.offset))
    where
      go : (a : Answer A) → f s c.at ≡ a → P (ended c a) (gives (if_found a) c)
      go (found a n) e = x a n e
      go (refused w) e = y w

  -- ---- the next one

  began : Begins f → {x : A} {d : Cursor} → gives x d ≡ reads f s c → c.at < length s
  began i {x} {d} =
      ends (λ r _. gives x d ≡ r → c.at < length s) (λ a n e q. i s c.at a n e) (λ e q. never (cc)) (λ p q. never (cc))

  next-got : Begins f → {x : A} {d : Cursor} → gives x d ≡ reads f s c → gives (some x) d ≡ nexts f s c
  unfolding reads nexts optional
  next-got i {x} {d} q =
      by_place s c (λ (y : Call A). gives x d ≡ y → gives (some x) d ≡ nexts f s c)
      (λ h q. let z : gives (some x) d ≡ pick (eqb c.at (length s)) (gives none c) (optional (ended c (f s c.at))) = rw (ne_eqb c.at (length s) (λ e. omega (arith, b)), ← q) in z ∙ sym (within_in s c h))
      (λ _ _ q. never (cc)) (λ _ q. never (cc)) q
    where
      b : c.at < length s
      b = began i q

  next-end : fits s c && eqb c.at (length s) ≡ true → gives none c ≡ nexts f s c
  unfolding nexts
  next-end h =
      let t = both (fits s c) (eqb c.at (length s)) h in
      let e : c.at ≡ length s = eqb-true c.at (length s) t.1 in
      let z : gives none c ≡ pick (eqb c.at (length s)) (gives none c) (optional (ended c (f s c.at))) = rw t.1 in
      z ∙ sym (within_in s c (record { fitting = fits-true s c t.0; there = omega arith }))

  next-cut : fits s c && eqb c.at (length s) ≡ false → {r : F.Refusal} → refuses r c ≡ reads f s c → refuses r c ≡ nexts f s c
  unfolding reads nexts optional
  next-cut h {r} q =
      refusal s c (pick (eqb c.at (length s)) (gives none c) (optional (ended c (f s c.at)))) (ended c (f s c.at))
      (λ p q. let e : eqb c.at (length s) ≡ false = rw (le-fits s c p.fitting) at h in rw (e, ← q)) q

  -- ---- a peek

  peek-got : {x : A} {d : Cursor} → gives x d ≡ reads f s c → gives (some x) c ≡ peeks f s c
  peek-got {x} {d} =
      ends (λ r p. gives x d ≡ r → gives (some x) c ≡ p) (λ a n e q. cc) (λ e q. cc) (λ p q. cc)

  peek-none : (p : ℕ) (e : Fault) → refuses (F.refusal_at p e) c ≡ reads f s c → gives none c ≡ peeks f s c
  peek-none p e =
      ends (λ y z. refuses (F.refusal_at p e) c ≡ y → gives none c ≡ z) (λ a n _ q. cc) (λ w q. refl) (λ n q. absurd (no_place p n e (cc)))

  peek-bad : {p : ℕ} → refuses (F.BadPlace p) c ≡ reads f s c → refuses (F.BadPlace p) c ≡ peeks f s c
  peek-bad {p} =
      ends (λ y z. refuses (F.BadPlace p) c ≡ y → refuses (F.BadPlace p) c ≡ z) (λ a n _ q. cc)
      (λ w q. absurd (no_place (position_of c c.at) p w (cc))) (λ n q. cc)

-- ---- what the generic functions answer, as the calls say it

module _ {V A : Type 0} (value : V → A) (f : ByPlace A) (s : List ℕ) (c : Lexer) where
  -- the same of what a value stands for
  valued-gives : (r : Result (V × Lexer) Refusal) {v : V} {d : Cursor} → read_call (λ v. v) c r ≡ gives v d → read_call value c r ≡ gives (value v) d
  valued-gives (Ok x) e = cc
  valued-gives (Err w) e = cc

  valued-refuses : (r : Result (V × Lexer) Refusal) {w : F.Refusal} {d : Cursor} → read_call (λ v. v) c r ≡ refuses w d → read_call value c r ≡ refuses w d
  valued-refuses (Ok x) e = cc
  valued-refuses (Err w) e = cc

  ended-found : {v : V} {n : ℕ} → f s c.at ≡ found (value v) n → (r : Result (V × Lexer) Refusal) → Placed s (cursor_of c)
      → read_call (λ v. v) c r ≡ gives v (moved_to (cursor_of c) n) → read_call value c r ≡ reads f s (cursor_of c)
  ended-found e r h q = valued-gives r q ∙ inside-got f s (cursor_of c) h e refl

  ended-refused : {w : Fault} → f s c.at ≡ refused w → (r : Result (V × Lexer) Refusal) → read_call (λ v. v) c r ≡ reads (λ _ _. refused w) s (cursor_of c)
      → read_call value c r ≡ reads f s (cursor_of c)
  unfolding reads ended
  ended-refused {w} e r q =
      by_place s (cursor_of c) (λ (z : Call V). read_call (λ v. v) c r ≡ z → read_call value c r ≡ reads f s (cursor_of c))
      (λ h q. valued-refuses r q ∙ ap (ended (cursor_of c)) (sym e) ∙ sym (within_in s (cursor_of c) h))
      (λ h l q. valued-refuses r q ∙ sym (within-out s (cursor_of c) h l _))
      (λ h q. valued-refuses r q ∙ sym (within-unfit s (cursor_of c) h _)) q

  -- whether the offset fits or not
  by-fit : {E : Type 0} {kind : E → LexError → Type 0} {read : Result (V × ℕ) E} {r : Result (V × Lexer) Refusal} → Ended kind s c read r
      → (fits s (cursor_of c) ≡ true → Ends kind s c read r → read_call value c r ≡ reads f s (cursor_of c)) → read_call value c r ≡ reads f s (cursor_of c)
  unfolding reads
  by-fit {r = r} h go = by (fits s (cursor_of c)) refl
    where
      by : (b : Bool) → fits s (cursor_of c) ≡ b → read_call value c r ≡ reads f s (cursor_of c)
      by true t = go t (h.fit t)
      by false t = valued-refuses r (h.unfit t) ∙ sym (within-unfit s (cursor_of c) t _)

  eof-ended : ((a : A) (n : ℕ) → f s c.at ≡ found a n → c.at ≤ length s) → (read : Result (V × ℕ) Eof) → read_as value read ≡ f s c.at
      → (r : Result (V × Lexer) Refusal) → Ended (λ e k. k ≡ Lacks e.0) s c read r → read_call value c r ≡ reads f s (cursor_of c)
  eof-ended l (Ok x) q r h = by-fit h (λ t e. ended-found (sym q) r (record { fitting = fits-true s (cursor_of c) t; there = l (value x.0) x.1 (sym q) }) e)
  eof-ended l (Err w) q r h = by-fit h (λ t e. let k = ap fault_of e.1 in ended-refused (sym q) r (rw k at e.2))

  -- of a read that only lacking bytes refuse, and that finds nothing outside the bytes
  pub read-ended : Begins f → {read : Result (V × ℕ) Eof} → read_as value read ≡ f s c.at → {r : Result (V × Lexer) Refusal} → Ended (λ e k. k ≡ Lacks e.0) s c read r
      → read_call value c r ≡ reads f s (cursor_of c)
  read-ended i {read} q {r} h = eof-ended (λ a n e. let l : c.at < length s = i s c.at a n e in omega arith) read q r h

  -- of one from a place of the input
  pub placed-ended : Placed s (cursor_of c) → {read : Result (V × ℕ) Eof} → read_as value read ≡ f s c.at → {r : Result (V × Lexer) Refusal} → Ended (λ e k. k ≡ Lacks e.0) s c read r
      → read_call value c r ≡ reads f s (cursor_of c)
  placed-ended p {read} q {r} h = eof-ended (λ _ _ _. p.there) read q r h

  -- of one that may find no colour
  pub lexed-ended : Begins f → (read : Result (V × ℕ) LexError) → lexed_as value read ≡ f s c.at → (r : Result (V × Lexer) Refusal) → Ended (λ e k. k ≡ e) s c read r
      → read_call value c r ≡ reads f s (cursor_of c)
  lexed-ended i (Ok x) q r h =
      by-fit h (λ t e. let l : c.at < length s = i s c.at (value x.0) x.1 (sym q) in ended-found (sym q) r (record { fitting = fits-true s (cursor_of c) t; there = omega arith }) e)
  lexed-ended i (Err w) q r h = by-fit h (λ t e. let k = ap fault_of e.1 in ended-refused (sym q) r (rw k at e.2))

  nexted : Begins f → (q : Result (V × Lexer) Refusal) → read_call value c q ≡ reads f s (cursor_of c)
      → next_call value c (next_of (fits s (cursor_of c) && eqb c.at (length s)) q) ≡ nexts f s (cursor_of c)
  nexted i (Ok x) e = next-got f s (cursor_of c) i e
  nexted i (Err w) e = go (fits s (cursor_of c) && eqb c.at (length s)) refl
    where
      go : (b : Bool) → fits s (cursor_of c) && eqb c.at (length s) ≡ b → next_call value c (next_of b (Err w)) ≡ nexts f s (cursor_of c)
      go true t = next-end f s (cursor_of c) t
      go false t = next-cut f s (cursor_of c) t e

  peeked : (q : Result (V × Lexer) Refusal) → read_call value c q ≡ reads f s (cursor_of c) → staying_call (option_as value) c (peek_of q) ≡ peeks f s (cursor_of c)
  unfolding refusal_of
  peeked (Ok x) e = peek-got f s (cursor_of c) e
  peeked (Err (Lexed l)) e = peek-none f s (cursor_of c) l.position (fault_of l.kind) e
  peeked (Err (BadPlace p)) e = peek-bad f s (cursor_of c) e

  -- by what the code calls
  pub nexted-by : Begins f → (q : Result (V × Lexer) Refusal) → read_call value c q ≡ reads f s (cursor_of c) → {n : Result (MayBe (V × Lexer)) Refusal}
      → n ≡ next_of (fits s (cursor_of c) && eqb c.at (length s)) q → next_call value c n ≡ nexts f s (cursor_of c)
  nexted-by i q h e = rw e (nexted i q h)

  pub peeked-by : (q : Result (V × Lexer) Refusal) → read_call value c q ≡ reads f s (cursor_of c) → {p : Result (MayBe V) Refusal}
      → p ≡ peek_of q → staying_call (option_as value) c p ≡ peeks f s (cursor_of c)
  peeked-by q h e = rw e (peeked q h)

-- ---- `or` and `and` of two answers: what both stand for

module _ {V A : Type 0} (value : V → A) where
  pub lacks-or : {y : Answer A} {r : Result (V × ℕ) Eof} (a b : Result (V × ℕ) Eof) → r ≡ result_or a b → read_as value a ≡ y → read_as value b ≡ y → read_as value r ≡ y
  lacks-or (Ok x) b e h i = rw e h
  lacks-or (Err w) b e h i = rw e i

  pub lexed-or : {y : Answer A} {r : Result (V × ℕ) LexError} (a b : Result (V × ℕ) LexError) → r ≡ result_or a b → lexed_as value a ≡ y → lexed_as value b ≡ y → lexed_as value r ≡ y
  lexed-or (Ok x) b e h i = rw e h
  lexed-or (Err w) b e h i = rw e i

  module _ (c : Lexer) where
    pub read-or : {y : Call A} {r : Result (V × Lexer) Refusal} (a b : Result (V × Lexer) Refusal) → r ≡ result_or a b → read_call value c a ≡ y → read_call value c b ≡ y → read_call value c r ≡ y
    read-or (Ok x) b e h i = rw e h
    read-or (Err w) b e h i = rw e i

    -- what `?` finds in it
    pub read-got : {y : Call A} {r : Result (V × Lexer) Refusal} → read_call value c r ≡ y → {a : A} {e : Cursor} (b : ControlFlow _ (V × Lexer)) (v : V) (d : Lexer)
        → r ≡ result_from_control_flow b → b ≡ Continue (v, d) → a ≡ value v → e ≡ cursor_of d → gives a e ≡ y
    read-got h b v d p q i j = rw (i, j) (sym (ap (read_call value c) (p ∙ ap result_from_control_flow q)) ∙ h)

    pub stays-or : {y : Call A} {r : Result V Refusal} (a b : Result V Refusal) → r ≡ result_or a b → staying_call value c a ≡ y → staying_call value c b ≡ y → staying_call value c r ≡ y
    stays-or (Ok x) b e h i = rw e h
    stays-or (Err w) b e h i = rw e i

    pub stays-and : {y : Call A} {r : Result V Refusal} (a b : Result V Refusal) → r ≡ result_and a b → staying_call value c a ≡ y → staying_call value c b ≡ y → staying_call value c r ≡ y
    stays-and (Ok x) b e h i = rw e i
    stays-and (Err w) b e h i = rw e h

    -- the place is looked at first
    pub placed-and : (f : ByPlace A) (s : List ℕ) {r : Result (V × Lexer) Refusal} (p : Result (Unit {0}) Refusal) (q : Result (V × Lexer) Refusal) → r ≡ result_and p q
        → staying_call (λ x. x) c p ≡ within s (cursor_of c) (gives tt (cursor_of c)) → read_call value c q ≡ reads f s (cursor_of c) → read_call value c r ≡ reads f s (cursor_of c)
    unfolding reads
    placed-and f s (Ok y) q e h i = rw e i
    placed-and f s (Err w) q e h i = rw e (told-outside c s h refl _)

    pub placed-peek : (f : ByPlace A) (s : List ℕ) {r : Result (MayBe V) Refusal} (p : Result (Unit {0}) Refusal) (q : Result (MayBe V) Refusal) → r ≡ result_and p q
        → staying_call (λ x. x) c p ≡ within s (cursor_of c) (gives tt (cursor_of c)) → staying_call (option_as value) c q ≡ peeks f s (cursor_of c)
        → staying_call (option_as value) c r ≡ peeks f s (cursor_of c)
    unfolding peeks
    placed-peek f s (Ok y) q e h i = rw e i
    placed-peek f s (Err w) q e h i = rw e (told-outside c s h refl _)

-- a read of a token ends so, as the code's answer has the token itself
pub token-ended : (s : List ℕ) (c : Lexer) (read : Result (Token × ℕ) LexError) → lexed_as (λ t. t) read ≡ token_at s c.at → (r : Result (Token × Lexer) Refusal) → Ended (λ e k. k ≡ e) s c read r
    → read_call (λ t. t) c r ≡ reads token_at s (cursor_of c)
token-ended s c = lexed-ended (λ t. t) token_at s c token_begins

-- what is found of it by a pattern, and by `?`
pub token-got : (s : List ℕ) (c : Lexer) {a : Token} {e : Cursor} (r : Result (Token × Lexer) Refusal) (v : Token) (d : Lexer) → r ≡ Ok (v, d)
    → read_call (λ t. t) c r ≡ reads token_at s (cursor_of c) → a ≡ v → e ≡ cursor_of d → gives a e ≡ reads token_at s (cursor_of c)
token-got s c r v d p h i j = rw (i, j) (sym (ap (read_call (λ t. t) c) p) ∙ h)

pub token-tried : (s : List ℕ) (c : Lexer) {a : Token} {e : Cursor} (r : Result (Token × Lexer) Refusal) (b : ControlFlow _ (Token × Lexer)) (v : Token) (d : Lexer) → r ≡ result_from_control_flow b
    → b ≡ Continue (v, d) → read_call (λ t. t) c r ≡ reads token_at s (cursor_of c) → a ≡ v → e ≡ cursor_of d → gives a e ≡ reads token_at s (cursor_of c)
token-tried s c r b v d p q = token-got s c r v d (p ∙ ap result_from_control_flow q)

-- ---- what an answer goes by: of a token, and of a read or a peek that is made of two

pub ruleset of_token = (token-ended, token-got, token-tried)

pub ruleset either = (to_z-of_z, lacks-or, lexed-or, read-or, read-got, stays-or, stays-and, placed-and, placed-peek)

-- a number of so many bytes, and what is made of it
pub num-ended : {V : Type 0} (value : V → ℕ) (w : ℕ) → 0 < w → (s : List ℕ) (c : Lexer) {read : Result (V × ℕ) Eof} → read_as value read ≡ at (num w) s c.at → {r : Result (V × Lexer) Refusal}
    → Ended (λ e k. k ≡ Lacks e.0) s c read r → read_call value c r ≡ reads (at (num w)) s (cursor_of c)
num-ended value w h s c = read-ended value (at (num w)) s c (num-inside w h)

pub mapped-ended : {A : Type 0} (g : ℕ → A) (w : ℕ) → 0 < w → (s : List ℕ) (c : Lexer) {read : Result (A × ℕ) Eof} → read_as (λ x. x) read ≡ mapped g (at (num w) s c.at) → {r : Result (A × Lexer) Refusal}
    → Ended (λ e k. k ≡ Lacks e.0) s c read r → read_call (λ x. x) c r ≡ reads (λ s p. mapped g (at (num w) s p)) s (cursor_of c)
mapped-ended g w h s c = read-ended (λ x. x) (λ s p. mapped g (at (num w) s p)) s c (inside-mapped (at (num w)) g (num-inside w h))

-- ---- skips

-- a refused one is left, and its position given, where it stopped
pub land-cut : (c : Cursor) {d : Cursor} {n : ℕ} (e : Fault) {r : F.Refusal} → r ≡ F.refusal_at (position_of d d.at) e → d ≡ moved_to c n → refuses r d ≡ landed c (stopped e n)
unfolding landed
land-cut c e q m = rw (q, m)

-- from inside the input
pub skipped : (f : List ℕ → ℕ → Skip) (s : List ℕ) (c : Cursor) → Placed s c → {x : Skip} {y : Call (Unit {0})} → x ≡ f s c.at → y ≡ landed c x → y ≡ skips f s c
unfolding skips
skipped f s c h e q = q ∙ ap (landed c) e ∙ sym (within_in s c h)

-- where one stopped there is a position
pub lands : (s : List ℕ) (c : Lexer) → Placed s (cursor_of c) → {f : Skip} (r : Result ℕ LexErrorAt) → skip_answer r ≡ f → StopsBy (length s) f → Lands c r
lands s c h (Ok n) e b = tt
lands s c h (Err why) e b = let l : why.at ≤ length s = rw (← e) at b in omega (arith, h.fitting)

pub stopped-lands : (c : Lexer) {r : Result ℕ LexErrorAt} → Lands c r → {why : LexErrorAt} {d : Cursor} → r ≡ Err why → d ≡ moved_to (cursor_of c) why.at → position_of d d.at ≤ MAX
stopped-lands c h {why} e m = let k : Lands c (Err why) = rw e at h in rw m k
