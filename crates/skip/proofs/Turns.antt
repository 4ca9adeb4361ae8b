-- The walk a turn at a time, with an id just read, and what it has to do with the definition's skips. Assumes nothing.
use Prim.Native.Nat.{ℕ, ◌+◌, ◌-◌, ◌*◌, ◌≤◌, ◌<◌}
use native.Mathlib.Omega.{arith}
use mathlib.Core.Path.{◌≡◌, refl, sym, ap, ◌∙◌, subst}
use mathlib.Core.Bool.{Bool, true, false}
use mathlib.Core.List.{List, [], ◌∷◌}
use lib.ListN.{length, length-drop}
use lib.Dec.{eqb, leb}
use borrow.Author.Tests.{eqb-true, ne_eqb, le-leb, leb-false}
use Rattle.form.specs.Numbers.{pick}
use Rattle.form.specs.Ids.{OPEN, CLOSE}
use Rattle.form.specs.Table.{Payload, number, text, colour, table, entries, find, or_plain, after}
use Rattle.form.specs.Refusals.{Fault}
use Rattle.form.specs.Readers.{Answer, found, refused, mapped, at}
use Rattle.form.specs.Reading.{num, rgb, payload}
use Rattle.form.specs.Skipping.{past, stopped, stepped, passing, or_stop, closed, turned, skipping, skip_container, skip_value}
use Rattle.laws.proofs.Lookups.{open_is, close-is, plain-after}
use Rattle.laws.proofs.Places.{took}
use Rattle.laws.proofs.SkipSteps.{cut-id, cut-payload, turn, turned-open, turned_up, turned_on}
use Rattle.laws.proofs.Elsewhere.{elsewhere}
use Rattle.lexeme.specs.declared.LexemeId.{LexemeId}
use Rattle.std.specs.Prelude.{Result, Ok, Err}
use Rattle.payload.specs.Answers.{fault_of, read_as, lexed_as, colour_of}
use Rattle.payload.specs.declared.answers.Eof.{Eof}
use Rattle.payload.specs.declared.answers.LexError.{LexError}
use Rattle.payload.specs.declared.answers.LexError.TheVariants.{Eof as Lacks}
use Rattle.payload.specs.declared.answers.LexErrorAt.{LexErrorAt}
use Rattle.payload.specs.declared.answers.Rgb.{Rgb}
use Rattle.skip.specs.Walks.{steps_over, walk_from, walk_after, Turned}
use Rattle.skip.specs.declared.walk.Turn.{Turn}
use Rattle.skip.specs.declared.walk.Turn.TheVariants.{On}
use Rattle.skip.proofs.Passing.{passed-nothing}

-- ---- a turn

module _ (i d : ℕ) (s : List ℕ) (p : ℕ) where
  after-pass : {m : ℕ} → passing i s p ≡ found tt m → walk_after i d s p ≡ turned i d m (λ c. walk_from c s m)
  unfolding walk_after or_stop
  after-pass f = rw f

  pub cut_short : {why : Fault} → passing i s p ≡ refused why → walk_after i d s p ≡ stopped why p
  unfolding walk_after or_stop
  cut_short f = rw f

  pub deeper : i ≡ 0x0003 → walk_after i d s p ≡ walk_from (d + 1) s p
  unfolding after or_plain find entries table
  deeper e = after-pass (sym (passed-nothing i s p (ap steps_over e))) ∙ rw e (turned-open d p (λ c. walk_from c s p))

  pub out : i ≡ 0x0004 → d < 2 → walk_after i d s p ≡ past p
  unfolding after or_plain find entries table turned closed
  out e h = after-pass (sym (passed-nothing i s p (ap steps_over e))) ∙ rw (e, open_is, close-is, le-leb d 1 (omega arith))

  pub higher : i ≡ 0x0004 → 2 ≤ d → walk_after i d s p ≡ walk_from (d - 1) s p
  unfolding after or_plain find entries table
  higher e h = after-pass (sym (passed-nothing i s p (ap steps_over e))) ∙ rw e (turned_up d p (λ c. walk_from c s p) h)

  pub onward : {m : ℕ} → (i ≡ 0x0003 → ⊥) → (i ≡ 0x0004 → ⊥) → passing i s p ≡ found tt m → walk_after i d s p ≡ walk_from d s m
  onward {m} o c f = after-pass f ∙ turned_on i d m (λ c. walk_from c s m) (ne_eqb i 0x0003 o) (ne_eqb i 0x0004 c)

pub over-at : (d : ℕ) (s : List ℕ) (p : ℕ) → d ≡ 0 → walk_from d s p ≡ past p
unfolding walk_from
over-at d s p e = rw e

-- ---- on to the next id

inside : (d : ℕ) (s : List ℕ) (p : ℕ) → 1 ≤ d → walk_from d s p ≡ skipping d s p
unfolding walk_from
inside d s p l = rw (ne_eqb d 0 (λ e. omega arith))

-- inside a container a turn leads nowhere but inside, or out
turned-inside : (i d : ℕ) (s : List ℕ) (p : ℕ) → 1 ≤ d → turned i d p (λ c. skipping c s p) ≡ turned i d p (λ c. walk_from c s p)
unfolding turned closed
turned-inside i d s p l =
    let o = inside (d + 1) s p (omega arith) in
    let here = inside d s p l in
    rw (o, here) (go (leb d 1) refl)
  where
    go : (b : Bool) → leb d 1 ≡ b → pick (eqb i OPEN) (skipping (d + 1) s p) (pick (eqb i CLOSE) (pick b (past p) (skipping (d - 1) s p)) (skipping d s p))
        ≡ pick (eqb i OPEN) (skipping (d + 1) s p) (pick (eqb i CLOSE) (pick b (past p) (walk_from (d - 1) s p)) (skipping d s p))
    go true h = refl
    go false h = let m = leb-false d 1 h in rw (inside (d - 1) s p (omega arith))

module _ (d : ℕ) (s : List ℕ) (p : ℕ) (l : 1 ≤ d) where
  no-id : {why : Fault} → at (num 2) s p ≡ refused why → walk_from d s p ≡ stopped why p
  no-id e = inside d s p l ∙ cut-id d s p e

  next-id : {i n : ℕ} → at (num 2) s p ≡ found i n → walk_from d s p ≡ walk_after i d s n
  unfolding walk_after or_stop
  next-id {i} {n} e = inside d s p l ∙ go (passing i s n) refl
    where
      go : (x : Answer (Unit {0})) → passing i s n ≡ x → skipping d s p ≡ or_stop n x (λ _ m. turned i d m (λ c. walk_from c s m))
      go (found t m) f = turn d s p e f ∙ turned-inside i d s m l
      go (refused why) f = cut-payload d s p e f

-- ---- the skips

abbrev no_colour : Payload → Bool
no_colour (number w f) = true
no_colour (text f) = true
no_colour colour = false

-- what is no colour is stepped over as it is read
stepped_same : (i : ℕ) → (i ≡ 0x0243 → ⊥) → stepped i (after i) ≡ after i
unfolding stepped after or_plain find entries table
stepped_same i h = go (after i) (elsewhere (λ k. no_colour (after k)) ((0x0243 ∷ []) ∷ []) (λ k r. rw (plain-after k r)) refl i (tt, h))
  where
    go : (q : Payload) → no_colour q ≡ true → stepped i q ≡ q
    go (number w f) e = refl
    go (text f) e = refl
    go colour e = cc

stop-mapped : {A : Type 0} (p : ℕ) (x : Answer A) → or_stop p (mapped (λ _. tt {0}) x) (λ _ m. past m) ≡ or_stop p x (λ _ m. past m)
unfolding or_stop mapped
stop-mapped p (found a n) = refl
stop-mapped p (refused why) = refl

-- outside a container, what is no container stands alone
turned-alone : (i : ℕ) (s : List ℕ) (p : ℕ) → eqb i OPEN ≡ false → turned i 0 p (λ c. walk_from c s p) ≡ past p
unfolding turned closed walk_from
turned-alone i s p o = rw o (go (eqb i CLOSE))
  where
    go : (b : Bool) → pick b (past p) (past p) ≡ past p
    go true = refl
    go false = refl

pub container-is : (s : List ℕ) (p : ℕ) → walk_after 0x0003 0 s p ≡ skip_container s p
unfolding skip_container
container-is s p = deeper 0x0003 0 s p refl ∙ inside 1 s p (omega arith)

-- a value that is no colour
pub value-is : (i : ℕ) (s : List ℕ) (p : ℕ) → (i ≡ 0x0243 → ⊥) → walk_after i 0 s p ≡ skip_value i s p
unfolding walk_after skip_value passing or_stop
value-is i s p h = go (eqb i OPEN) refl
  where
    alone : (x : Answer (Unit {0})) → eqb i OPEN ≡ false → or_stop p x (λ _ m. turned i 0 m (λ c. walk_from c s m)) ≡ or_stop p x (λ _ m. past m)
    alone (found t m) o = turned-alone i s m o
    alone (refused why) o = refl

    go : (b : Bool) → eqb i OPEN ≡ b → walk_after i 0 s p ≡ pick b (skip_container s p) (or_stop p (at (payload (after i)) s p) (λ v n. past n))
    go true e = let q : i ≡ 0x0003 = eqb-true i OPEN e ∙ open_is in rw q (container-is s p)
    go false e =
        alone (passing i s p) e
        ∙ stop-mapped p (at (payload (stepped i (after i))) s p)
        ∙ ap (λ q. or_stop p (at (payload q) s p) (λ v n. past n)) (stepped_same i h)

-- a colour
module _ (i : ℕ) (s : List ℕ) (p : ℕ) (is : eqb i 0x0243 ≡ true) where
  colour-is : skip_value i s p ≡ or_stop p (at rgb s p) (λ v n. past n)
  unfolding skip_value after or_plain find entries table payload
  colour-is = rw (eqb-true i 0x0243 is, open_is)

  -- by what the code reads there
  module _ {r : Result (Rgb × ℕ) LexError} (k : lexed_as colour_of r ≡ at rgb s p) where
    pub past-colour : {x : Rgb} {n : ℕ} → r ≡ Ok (x, n) → past n ≡ skip_value i s p
    unfolding or_stop
    past-colour e = sym (colour-is ∙ rw (sym k, e))

    pub no-colour : {e : LexError} {d : LexErrorAt} → r ≡ Err e → d ≡ record { at = p; kind = e } → stopped (fault_of d.kind) d.at ≡ skip_value i s p
    unfolding or_stop
    no-colour h f = rw f (sym (colour-is ∙ rw (sym k, h)))

-- ---- what a contract says of a turn whose answer is known

pub known : (i d : ℕ) (s : List ℕ) (p : ℕ) {r t : Result Turn Eof} → Turned i d s p r → r ≡ t → Turned i d s p t
known i d s p m q = subst (Turned i d s p) q m

-- the error that `cut` makes
abbrev pub cut_at : ℕ → Eof → LexErrorAt
cut_at p e = record { at = p; kind = Lacks e.0 }

-- of a turn that was refused
pub refused-turn : (i d : ℕ) (s : List ℕ) (p : ℕ) {r : Result Turn Eof} {e : Eof} {x : LexErrorAt}
    → Turned i d s p r → r ≡ Err e → x ≡ cut_at p e → stopped (fault_of x.kind) x.at ≡ walk_after i d s p
refused-turn i d s p t h f = rw f (known i d s p t h).answer

-- after a turn that goes on: the next id is not there, or it is
module _ (i d : ℕ) (s : List ℕ) (p : ℕ) {n e : ℕ} (t : Turned i d s p (Ok (On n e))) where
  pub ends : {r : Result (LexemeId × ℕ) Eof} {k : Eof} {x : LexErrorAt} → read_as (λ y. y.0) r ≡ at (num 2) s n → r ≡ Err k → x ≡ cut_at n k
      → stopped (fault_of x.kind) x.at ≡ walk_after i d s p
  ends q h f = rw f (sym (no-id e s n t.moves.1 (sym q ∙ rw h)) ∙ t.answer)

  pub goes_on : {j m : ℕ} → at (num 2) s n ≡ found j m → (2 * e ≤ m) × (walk_after j e s m ≡ walk_after i d s p) × (length s - m < length s - p)
  goes_on h =
      let k = took 2 s n h in
      (omega (arith, k.next, t.moves.2), sym (next-id e s n t.moves.1 h) ∙ t.answer, omega (arith, k.next, k.there, t.moves.0, length-drop n s))
