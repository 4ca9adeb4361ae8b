-- What is said of a token by its id, as the code's arms have it; and where that leads a walk. Assumes nothing.
use Prim.Native.Nat.{ℕ, ◌+◌, ◌-◌, ◌≤◌, ◌<◌}
use native.Mathlib.Omega.{arith}
use mathlib.Core.Path.{◌≡◌, refl, sym, ap, subst, ◌∙◌}
use mathlib.Core.Bool.{Bool, true, false, not, ◌&&◌, ◌||◌, or-true, and-true}
use mathlib.Core.Option.{Option, none, some}
use mathlib.Core.List.{List, []}
use lib.ListN.{length}
use mathlib.Core.Logic.{◌⊎◌, inl, inr}
use lib.Dec.{eqb, ltb}
use borrow.Author.Tests.{ltb-true, eq-eqb, ne_eqb}
use Rattle.form.specs.Numbers.{pick, le}
use Rattle.form.specs.Values as F
use Rattle.form.specs.Values.{Value, kind}
use Rattle.form.specs.Table.{Payload, number, text, colour, table, entries, find, or_plain, after, reserved}
use Rattle.form.specs.Refusals.{Fault, refusal_at}
use Rattle.form.specs.Readers.{Answer, found, refused, mapped, placed, at}
use Rattle.form.specs.Reading.{next, num, string, rgb, payload, token}
use Rattle.form.specs.Keys.{makes_key}
use Rattle.form.specs.Finding.{is_plain}
use Rattle.form.specs.Saves.{then, from}
use Rattle.laws.proofs.Never.{never}
use Rattle.laws.proofs.Lookups.{plain-after, compact-in, negated-in}
use Rattle.laws.proofs.Elsewhere.{both, each_id, listed, MissedAll, elsewhere}
use Rattle.laws.proofs.Places.{at-giving, at-nothing}
use Rattle.laws.proofs.ById.{OneKind, after-kind}
use Rattle.laws.proofs.Walking.{from_end}
use Rattle.laws.proofs.Seeking.{key_here, seeking, seeking-start, seeking-done, seeking-cut, ahead-id, ahead_none, past_open, past-close, past_equal, past_value, at_key}
use Rattle.std.specs.Prelude.{Result, Ok, Err, Option as MayBe, Some, None, is_some}
use Rattle.payload.specs.Answers.{fault_of}
use Rattle.payload.specs.declared.answers.LexError.{LexError}
use Rattle.token.specs.Tokens.{token_of, token_at}
use Rattle.token.proofs.Walks.{Read, read, token-refused}
use Rattle.lexeme.specs.declared.LexemeId.{LexemeId}
use Rattle.keys.specs.Seeking.{wants, NextKey}
use Rattle.keys.specs.Passing.{stood, Ends, Past, Tells, Told, ToldAfter, ahead_at, asked}
use Rattle.keys.specs.declared.Passed.{Passed}
use Rattle.keys.specs.declared.Passed.TheVariants.{Open, Close, Equal, Plain, Other}

-- what a read of a token answers
abbrev Step : Type 0
Step = Result (Passed × ℕ) LexError

-- what is known of a token
pub after-id : (i : ℕ) (s : List ℕ) (p : ℕ) {a : Answer Value} {r : Step} → a ≡ at (payload (after i)) s p → ToldAfter i s p r → Told a r
after-id i s p {r = r} e h = record { is = subst (λ x. Tells x r) (sym e) h.is }

pub known : {a : Answer Value} {r t : Step} → Told a r → r ≡ t → Told a t
known {a} h e = subst (Told a) e h

-- the same, by what the walk goes by
pub known-as : {a : Answer Value} {r : Step} {q t : Passed} {n : ℕ} → Told a r → r ≡ Ok (q, n) → q ≡ t → Told a (Ok (t, n))
known-as {a} {n = n} h e f = subst (λ x. Told a (Ok (x, n))) f (known h e)

-- ---- what follows an id

-- neither an end of a container nor Equal nor an id
abbrev middle : ℕ → Bool
middle k = ltb 2 k && ltb k 14

-- what follows, by itself, for such a value
abbrev pub spans : Payload → Option (Option ℕ)
spans (number w f) = pick (middle (kind (f 0))) (some (some w)) none
spans (text f) = pick (middle (kind (f []))) (some none) none
spans colour = none

abbrev pub spans_at : ℕ → Option (Option ℕ)
spans_at i = spans (after i)

-- the value of those bytes
record Made (q : Payload) (o : Option ℕ) : Type 0 where
  value : List ℕ → Value
  reads : (s : List ℕ) (p : ℕ) → at (payload q) s p ≡ mapped value (stood o s p)
  between : (t : List ℕ) → middle (kind (value t)) ≡ true

mapped-twice : {A B C : Type 0} (f : B → C) (g : A → B) (x : Answer A) → mapped f (mapped g x) ≡ mapped (λ a. f (g a)) x
unfolding mapped
mapped-twice f g (found a n) = refl
mapped-twice f g (refused why) = refl

made : (q : Payload) → OneKind q → (o : Option ℕ) → spans q ≡ some o → Made q o
unfolding payload num
made (number w f) k o e = go (middle (kind (f 0))) refl e
  where
    go : (b : Bool) → middle (kind (f 0)) ≡ b → pick b (some (some w)) none ≡ some o → Made (number w f) o
    go true h e =
        let z : some w ≡ o = cc in
        subst (Made (number w f)) z
        (record {
          value = λ t. f (le t);
          reads = λ s p. at-giving (num w) f s p ∙ ap (mapped f) (at-giving (next w) le s p) ∙ mapped-twice f le (at (next w) s p);
          between = λ t. ap middle (k (le t)) ∙ h;
        })
    go false h e = never (cc)
made (text f) k o e = go (middle (kind (f []))) refl e
  where
    go : (b : Bool) → middle (kind (f [])) ≡ b → pick b (some none) none ≡ some o → Made (text f) o
    go true h e =
        let z : none ≡ o = cc in
        subst (Made (text f)) z
        (record { value = f; reads = λ s p. at-giving string f s p; between = λ t. ap middle (k t) ∙ h })
    go false h e = never (cc)
made colour k o e = never (cc)

made_tells : {q : Payload} {o : Option ℕ} → Made q o → (s : List ℕ) (p : ℕ) (r : Step) → Ends (stood o s p) r → Tells (at (payload q) s p) r
unfolding mapped
made_tells m s p (Ok (Open, n)) h = absurd h
made_tells m s p (Ok (Close, n)) h = absurd h
made_tells m s p (Ok (Equal, n)) h = absurd h
made_tells m s p (Ok (Plain i, n)) h = absurd h
made_tells m s p (Ok (Other, n)) h =
    let b = both (ltb 2 (kind (m.value h.0))) (ltb (kind (m.value h.0)) 14) (m.between h.0) in
    (m.value h.0, ltb-true 2 (kind (m.value h.0)) b.0, ltb-true (kind (m.value h.0)) 14 b.1, m.reads s p ∙ ap (mapped m.value) h.1)
made_tells m s p (Err e) h = m.reads s p ∙ ap (mapped m.value) h

-- ---- the arms

module _ (i : ℕ) (s : List ℕ) (p : ℕ) where
  pub by_span : (o : Option ℕ) → spans_at i ≡ some o → {r : Step} → Past o s p r → ToldAfter i s p r
  by_span o e {r} h = record { is = made_tells (made (after i) (after-kind i) o e) s p r h.is }

  pub by-open : i ≡ 0x0003 → ToldAfter i s p (Ok (Open, p))
  unfolding after or_plain find entries table
  by-open e = record { is = rw e (at-nothing F.Open s p) }

  pub by-close : i ≡ 0x0004 → ToldAfter i s p (Ok (Close, p))
  unfolding after or_plain find entries table
  by-close e = record { is = rw e (at-nothing F.Close s p) }

  pub by_equal : i ≡ 0x0001 → ToldAfter i s p (Ok (Equal, p))
  unfolding after or_plain find entries table
  by_equal e = record { is = rw e (at-nothing F.Equal s p) }

  pub by-colour : i ≡ 0x0243 → {r : Step} → Told (at rgb s p) r → ToldAfter i s p r
  unfolding after or_plain find entries table payload
  by-colour e h = record { is = rw e h.is }

  pub by-compact : 0x0d47 ≤ i → i ≤ 0x0d4e → {r : Step} → Past (some (i - 0x0d47)) s p r → ToldAfter i s p r
  unfolding kind
  by-compact lo hi = by_span (some (i - 0x0d47)) (ap spans (compact-in i lo (omega arith)))

  pub by-negated : 0x0d4f ≤ i → i ≤ 0x0d55 → {r : Step} → Past (some (i - 0x0d4e)) s p r → ToldAfter i s p r
  unfolding kind
  by-negated lo hi = by_span (some (i - 0x0d4e)) (ap spans (negated-in i lo (omega arith)))

  by-plain : reserved i ≡ false → ToldAfter i s p (Ok (Plain (record { 0 = i }), p))
  by-plain e = record { is = rw (plain-after i e) (at-nothing (F.Id i) s p) }

-- an id that no arm has and that is none of some others is plain, if each of the table's ids is in an arm or is one of them
pub elsewhere-plain : (other : ℕ → Bool) (kss : List (List ℕ)) → each_id (λ k. listed k kss || (other k || not (reserved k))) entries ≡ true
    → (i : ℕ) → MissedAll (Unit {0}) kss i → other i ≡ false → (s : List ℕ) (p : ℕ) → ToldAfter i s p (Ok (Plain (record { 0 = i }), p))
elsewhere-plain other kss e i m h s p =
    by-plain i s p (no (reserved i) (rw h at (elsewhere (λ k. other k || not (reserved k)) kss (λ k r. rw r (or-true (other k))) e i m)))
  where
    no : (b : Bool) → not b ≡ true → b ≡ false
    no true e = cc
    no false e = refl

-- ---- what is asked of an id that is to be a key

module _ (e : Bool) (s : List ℕ) (p : ℕ) where
  pub before-none : {why : Fault} → at (num 2) s p ≡ refused why → false ≡ makes_key e (ahead_at s p)
  unfolding ahead_at
  before-none f = sym (ahead_none s p e f)

  -- by the id that stands there: Equal, Open after no Equal, or neither
  module _ {k n : ℕ} (f : at (num 2) s p ≡ found k n) where
    before-id : (eqb k 0x0001 || (eqb k 0x0003 && not e)) ≡ makes_key e (ahead_at s p)
    unfolding ahead_at
    before-id = sym (ahead-id s p e f)

    pub before-equal : eqb k 0x0001 ≡ true → true ≡ makes_key e (ahead_at s p)
    before-equal g = rw g at before-id

    pub before-value : eqb k 0x0001 ≡ false → e ≡ true → false ≡ makes_key e (ahead_at s p)
    before-value g h = sym (rw (g, h) (none (eqb k 0x0003))) ∙ before-id
      where
        none : (b : Bool) → b && false ≡ false
        none true = refl
        none false = refl

    pub before-open : eqb k 0x0001 ≡ false → e ≡ false → eqb k 0x0003 ≡ makes_key e (ahead_at s p)
    before-open g h = sym (rw (g, h) (and-true (eqb k 0x0003))) ∙ before-id

module _ (b e : Bool) (d : ℕ) (s : List ℕ) (p : ℕ) where
  pub unwanted : b ≡ false → false ≡ asked b e d s p
  unfolding asked
  unwanted f = rw f

  pub inner : b ≡ true → (d ≡ 0 → ⊥) → false ≡ asked b e d s p
  unfolding asked
  inner f h = rw (f, ne_eqb d 0 h)

  pub at_top_lem : b ≡ true → d ≡ 0 → {k : Bool} → k ≡ makes_key e (ahead_at s p) → k ≡ asked b e d s p
  unfolding asked
  at_top_lem f h q = rw (f, eq-eqb d 0 h) q

-- of a token that is wanted: a test of both is not met by its depth
pub below-top : {b : Bool} {d : ℕ} → (b ≡ true × (d ≡ 0 → ⊥)) ⊎ (b ≡ false) → b ≡ true → d ≡ 0 → ⊥
below-top (inl h) k = h.1
below-top (inr h) k = let q : true ≡ false = sym k ∙ h in never (cc)

-- ---- a token that may be a key, and is wanted or not

pub record May (t : Value → Bool) (s : List ℕ) (p n : ℕ) (x : Bool) : Type 0 where
  pub value : Value
  pub token : at token s p ≡ found value n
  pub above : 2 < kind value
  pub wanted : x ≡ t value

-- where none is named, every token is wanted; where one is, none but that id
other-wanted : (w : MayBe LexemeId) (v : Value) → kind v < 14 → (x : Bool) → is_some w ≡ not x → x ≡ wants w v
unfolding wants is_plain kind
other-wanted None v l true e = refl
other-wanted None v l false e = never (cc)
other-wanted (Some i) v l true e = never (cc)
other-wanted (Some i) v l false e = rw (ne_eqb (kind v) 14 (λ q. omega arith))

module _ (w : MayBe LexemeId) (s : List ℕ) (p : ℕ) {n : ℕ} {x : Bool} where
  pub plain-may : {j : LexemeId} → Told (at token s p) (Ok (Plain j, n)) → x ≡ wants w (F.Id j.0) → May (wants w) s p n x
  unfolding kind
  plain-may {j} h f = record { value = F.Id j.0; token = h.is; above = omega arith; wanted = f }

  pub other-may : Told (at token s p) (Ok (Other, n)) → is_some w ≡ not x → May (wants w) s p n x
  other-may h f =
      let k = h.is in
      record { value = k.0; token = k.3; above = k.1; wanted = other-wanted w k.0 k.2 x f }

-- ---- where the walk goes

-- what is sought from place p, directly after an Equal or not and at depth d, is sought from place n and so on, with fewer bytes left; the
-- depth stays below the place
pub record Leads (t : Value → Bool) (e : Bool) (d : ℕ) (s : List ℕ) (p : ℕ) (e₂ : Bool) (d₂ n : ℕ) : Type 0 where
  pub same : seeking t e₂ d₂ (from s n) ≡ seeking t e d (from s p)
  pub on : p < n
  pub less : length s - n < length s - p
  pub deep : d ≤ p → d₂ ≤ n

module _ (t : Value → Bool) (e : Bool) (d : ℕ) (s : List ℕ) (p : ℕ) where
  leads : {v : Value} {n d₂ : ℕ} {e₂ : Bool} → at token s p ≡ found v n → seeking t e d (then p (n - p) v (from s n)) ≡ seeking t e₂ d₂ (from s n) → d₂ ≤ d + 1 → Leads t e d s p e₂ d₂ n
  leads {v} {n} h q l =
      let r : Read s p v n = read s p h in
      record {
        same = sym (ap (seeking t e d) r.walks ∙ q);
        on = r.on;
        less = omega (arith, r.on, r.there);
        deep = λ k. omega (arith, r.on);
      }

  pub to-open : {n : ℕ} → Told (at token s p) (Ok (Open, n)) → Leads t e d s p false (d + 1) n
  to-open {n} h = leads h.is (past_open t e d p (n - p) (from s n)) (omega arith)

  pub to-close : {n : ℕ} → Told (at token s p) (Ok (Close, n)) → Leads t e d s p false (d - 1) n
  to-close {n} h = leads h.is (past-close t e d p (n - p) (from s n)) (omega arith)

  pub to-equal : {n : ℕ} → Told (at token s p) (Ok (Equal, n)) → Leads t e d s p true d n
  to-equal {n} h = leads h.is (past_equal t e d p (n - p) (from s n)) (omega arith)

  -- by what is asked of a token that may be a key
  module _ {n : ℕ} {x : Bool} (m : May t s p n x) {b : Bool} (q : b ≡ asked x e d s n) where
    asked_of : {k : Bool} → b ≡ k → t m.value && key_here e d (from s n) ≡ k
    unfolding asked ahead_at
    asked_of f = sym (q ∙ rw m.wanted) ∙ f

    pub to-value : b ≡ false → Leads t e d s p false d n
    to-value f = leads m.token (past_value t e d p (n - p) (from s n) m.value m.above (asked_of f)) (omega arith)

    pub to-key : {p₀ : ℕ} → p₀ ≤ p → seeking t e d (from s p) ≡ seeking t false 0 (from s p₀) → b ≡ true → NextKey t s p₀ (Ok (Some (record { at = p; end = n })))
    to-key {p₀} o same f =
        let x = both (t m.value) (key_here e d (from s n)) (asked_of f) in
        let k = sym (seeking-start t (from s p₀)) ∙ sym same ∙ ap (seeking t e d) (read s p m.token).walks ∙ at_key t e d p (n - p) (from s n) m.value m.above x.0 x.1 in
        record { is = (m.value, record { onward = o; token = m.token; keys = ap (λ r. r.0) k; ending = ap (λ r. r.1) k }) }

  pub to-refused : p < length s → {f : LexError} → Told (at token s p) (Err f) → {p₀ : ℕ} → seeking t e d (from s p) ≡ seeking t false 0 (from s p₀)
      → NextKey t s p₀ (Err (record { at = p; kind = f }))
  unfolding token_at placed
  to-refused l {f} h {p₀} same =
      let k = sym (seeking-start t (from s p₀)) ∙ sym same ∙ ap (seeking t e d) (token-refused s p l (ap (placed token_of) h.is)) ∙ seeking-cut t e d (refusal_at p (fault_of f)) in
      record { is = (ap (λ r. r.0) k, ap (λ r. r.1) k) }

  pub to_end : length s ≤ p → {p₀ : ℕ} → seeking t e d (from s p) ≡ seeking t false 0 (from s p₀) → NextKey t s p₀ (Ok None)
  to_end h {p₀} same =
      let k = sym (seeking-start t (from s p₀)) ∙ sym same ∙ ap (seeking t e d) (from_end s p h) ∙ seeking-done t e d in
      record { is = (ap (λ r. r.0) k, ap (λ r. r.1) k) }
