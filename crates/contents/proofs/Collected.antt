-- The entries of a save, as they come from its keys, and what a list holds then. Assumes nothing.
use Prim.Native.Nat.{ℕ, ◌+◌, ◌≤◌, ◌<◌}
use native.Mathlib.Omega.{arith}
use mathlib.Core.Path.{◌≡◌, refl, sym, ap, ◌∙◌}
use mathlib.Core.Bool.{true, false}
use mathlib.Core.Option.{Option, none, some}
use mathlib.Core.List.{List, [], ◌∷◌, ◌++◌, map}
use lib.Dec.{leb}
use borrow.Author.Tests.{le-leb, lt-leb}
use lib.ListN.{length, take, drop}
use Rattle.std.proofs.lemmas.List.{take-append-le}
use Rattle.std.specs.Prelude.{Ok, Err, Option as MayBe, Some, None}
use Rattle.form.specs.Values.{Value}
use Rattle.form.specs.Refusals as R
use Rattle.form.specs.Refusals.{Refusal}
use Rattle.form.specs.Saves.{walk, from, LIMIT}
use Rattle.form.specs.Writing.{wrote, declined}
use Rattle.form.specs.Keys.{at_top, keys_of}
use Rattle.form.specs.Finding.{cut_by}
use Rattle.form.specs.Contents as F
use Rattle.form.specs.Contents.{span, first_or, entries_to, contents, filled, filling_outcome, unless_cut, room_for}
use Rattle.laws.proofs.Never.{never}
use Rattle.laws.proofs.Walking.{from_start}
use Rattle.laws.proofs.Seeking.{every-key}
use Rattle.laws.proofs.InOrder.{length-entries, contents-from}
use Rattle.payload.specs.Answers.{refusal_of}
use Rattle.payload.specs.declared.answers.LexErrorAt.{LexErrorAt}
use Rattle.token.proofs.Walks.{Read, read}
use Rattle.keys.specs.declared.Key.{Key}
use Rattle.keys.specs.Seeking.{wants, wanted_from, NextKey}
use Rattle.contents.specs.declared.Entry.{Entry}
use Rattle.contents.specs.Answers.{entry_of}
use Rattle.contents.specs.Slots.{record_put, put_all}
use Rattle.contents.specs.Collecting.{end_by, Collects}
use Rattle.contents.proofs.Kept.{length-records, records-front}

all-keys : (s : List ℕ) (p : ℕ) → wanted_from (wants None) s p ≡ keys_of (from s p)
unfolding wants keys_of
all-keys s p = every-key at_top (from s p)

-- ---- the keys that are still to come, by the first of them

-- that one is k
pub record Next (s : List ℕ) (k : Key) (keys : List (ℕ × Value)) : Type 0 where
  pub value : Value
  pub first : keys ≡ (k.at, value) ∷ keys_of (from s k.end)
  pub ending : cut_by (from s k.end) ≡ cut_by (walk s)
  pub on : k.at < k.end
  pub there : k.end ≤ length s

-- if there is one; otherwise all was read
abbrev pub Stands : List ℕ → MayBe Key → List (ℕ × Value) → Type 0
Stands s None keys = (keys ≡ []) × (cut_by (walk s) ≡ none)
Stands s (Some k) keys = Next s k keys

module _ (s : List ℕ) where
  stands : (p : ℕ) → cut_by (from s p) ≡ cut_by (walk s) → (key : MayBe Key) → NextKey (wants None) s p (Ok key) → Stands s key (keys_of (from s p))
  stands p h None k = (sym (all-keys s p) ∙ k.is.0, sym h ∙ k.is.1)
  stands p h (Some q) k =
      let v = k.is.0 in
      let f = k.is.1 in
      let x : Read s q.at v q.end = read s q.at f.token in
      record {
        value = v;
        first = sym (all-keys s p) ∙ f.keys ∙ ap (λ l. (q.at, v) ∷ l) (all-keys s q.end);
        ending = sym f.ending ∙ h;
        on = x.on;
        there = x.there;
      }

  -- so an entry before it ends there
  ends : (key : MayBe Key) (keys : List (ℕ × Value)) → Stands s key keys → first_or (length s) keys ≡ end_by key (length s)
  ends None keys x = ap (first_or (length s)) x.0
  ends (Some k) keys x = ap (first_or (length s)) x.first

  -- which lies in the save
  pub end-inside : (p : ℕ) (key : MayBe Key) → NextKey (wants None) s p (Ok key) → end_by key (length s) ≤ length s
  end-inside p None k = omega arith
  end-inside p (Some q) k = let x : Read s q.at k.is.0 q.end = read s q.at k.is.1.token in omega (arith, x.on, x.there)

  start : cut_by (from s 0) ≡ cut_by (walk s)
  start = ap cut_by (from_start s)

-- ---- from key to key

module _ {A : Type 0} (put : ℕ → F.Entry → A → A) (entries : A → List F.Entry) (s : List ℕ) (d₀ : A) where
  -- after n entries, before a key, with the list d where it was d₀ in the beginning: what is still to come
  pub record Coming (key : MayBe Key) (n : ℕ) (d : A) : Type 0 where
    pub keys : List (ℕ × Value)
    pub stands : Stands s key keys
    pub count : n + length keys ≡ length (contents s)
    pub room : length (entries d) ≡ length (entries d₀)
    pub list : length (contents s) ≤ length (entries d₀) → put_all put n (entries_to (length s) keys) d ≡ put_all put 0 (contents s) d₀

  pub at-first : (key : MayBe Key) → NextKey (wants None) s 0 (Ok key) → Coming key 0 d₀
  at-first key h =
      record {
        keys = keys_of (from s 0);
        stands = stands s 0 (start s) key h;
        count = omega (arith, length-entries (length s) (keys_of (from s 0)), ap length (contents-from s));
        room = refl;
        list = λ _. ap (λ (l : List F.Entry). put_all put 0 l d₀) (sym (contents-from s));
      }

  pub fewer : (k : Key) (n : ℕ) (d : A) → Coming (Some k) n d → n < length (contents s)
  fewer k n d c = omega (arith, c.count, ap length c.stands.first)

  pub next : (k : Key) (n : ℕ) (d : A) → Coming (Some k) n d → (key : MayBe Key) → NextKey (wants None) s k.end (Ok key) → (d' : A)
      → (n < length (entries d) → d' ≡ put n (span k.at (end_by key (length s))) d) → length (entries d') ≡ length (entries d) → Coming key (n + 1) d'
  unfolding entries_to put_all
  next k n d c key h d' puts same =
      let keys = keys_of (from s k.end) in
      let x = stands s k.end c.stands.ending key h in
      let few = fewer k n d c in
      record {
        keys = keys;
        stands = x;
        count = omega (arith, c.count, ap length c.stands.first);
        room = same ∙ c.room;
        list = λ r. rw (puts (omega (arith, few, c.room)), ← ends s key keys x) (rw c.stands.first at (c.list r));
      }

  pub at-last : (n : ℕ) (d : A) → Coming None n d → Collects put (length (entries d₀)) s (Ok n) d₀ d
  unfolding entries_to put_all unless_cut filling_outcome
  at-last n d c =
      record {
        answer = rw c.stands.1 (ap wrote (omega (arith, c.count, ap length c.stands.0)));
        list = λ _ r. rw c.stands.0 at (c.list r);
      }

  refused : (p : ℕ) → cut_by (from s p) ≡ cut_by (walk s) → (e : LexErrorAt) → NextKey (wants None) s p (Err e) → (d : A)
      → Collects put (length (entries d₀)) s (Err e) d₀ d
  unfolding unless_cut filling_outcome
  refused p h e k d =
      let z : cut_by (walk s) ≡ some (refusal_of e) = sym h ∙ k.is.1 in
      record { answer = rw z; list = λ o _. never (cc) }

  pub first-refused : (e : LexErrorAt) → NextKey (wants None) s 0 (Err e) → Collects put (length (entries d₀)) s (Err e) d₀ d₀
  first-refused e k = refused 0 (start s) e k d₀

  pub next-refused : (k : Key) (n : ℕ) (d : A) → Coming (Some k) n d → (e : LexErrorAt) → NextKey (wants None) s k.end (Err e)
      → Collects put (length (entries d₀)) s (Err e) d₀ d
  next-refused k n d c e h = refused k.end c.stands.ending e h d

-- ---- what is said

module _ (s : List ℕ) (room : ℕ) where
  pub over-limit : LIMIT < length s → declined (R.TooLong (length s)) ≡ filling_outcome (F.fill room s)
  unfolding F.fill filling_outcome
  over-limit h = rw (lt-leb (length s) LIMIT h)

  within : length s ≤ LIMIT → F.fill room s ≡ unless_cut (cut_by (walk s)) (room_for room (contents s))
  unfolding F.fill
  within h = rw (le-leb (length s) LIMIT h)

module _ {A : Type 0} {put : ℕ → F.Entry → A → A} {had : ℕ} {s : List ℕ} {d d' : A} where
  pub cut-so : {e : LexErrorAt} → Collects put had s (Err e) d d' → (room : ℕ) → length s ≤ LIMIT → declined (refusal_of e) ≡ filling_outcome (F.fill room s)
  unfolding unless_cut filling_outcome
  cut-so {e} c room h = go (cut_by (walk s)) refl c.answer
    where
      go : (o : Option Refusal) → cut_by (walk s) ≡ o → declined (refusal_of e) ≡ filling_outcome (unless_cut o (filled (contents s)))
          → declined (refusal_of e) ≡ filling_outcome (F.fill room s)
      go none z a = never (cc)
      go (some r) z a = a ∙ rw (within s room h, z)

  module _ {n : ℕ} (c : Collects put had s (Ok n) d d') where
    -- all was read
    pub uncut : cut_by (walk s) ≡ none
    unfolding unless_cut filling_outcome
    uncut = go (cut_by (walk s)) c.answer
      where
        go : (o : Option Refusal) → wrote n ≡ filling_outcome (unless_cut o (filled (contents s))) → o ≡ none
        go none a = refl
        go (some r) a = never (cc)

    pub counted : n ≡ length (contents s)
    unfolding unless_cut filling_outcome
    counted = let a : wrote n ≡ wrote (length (contents s)) = c.answer ∙ rw uncut in cc

    pub too_many : (room : ℕ) → length s ≤ LIMIT → room < n → declined (R.ListFull n) ≡ filling_outcome (F.fill room s)
    unfolding unless_cut room_for filling_outcome
    too_many room h k =
        let z : leb (length (contents s)) room ≡ false = lt-leb (length (contents s)) room (omega (arith, counted)) in
        rw (within s room h, uncut, z, counted)

    pub in-room : (room : ℕ) → length s ≤ LIMIT → n ≤ room → F.fill room s ≡ filled (contents s)
    unfolding unless_cut room_for
    in-room room h k =
        let z : leb (length (contents s)) room ≡ true = le-leb (length (contents s)) room (omega (arith, counted)) in
        rw (within s room h, uncut, z)

    pub put-so : n ≤ had → d' ≡ put_all put 0 (contents s) d
    put-so h = c.list uncut (omega (arith, counted))

    -- of the same save as many are told again
    pub told-twice : {had' : ℕ} {B : Type 0} {put' : ℕ → F.Entry → B → B} {b b' : B} {m : ℕ} → Collects put' had' s (Ok m) b b' → {k : ℕ} → n ≤ k → m ≤ k
    told-twice {m = m} x h = let z : wrote m ≡ wrote n = x.answer ∙ sym c.answer in let y : m ≡ n = cc in rw y h

-- the records that were kept
pub kept : {s : List ℕ} {n : ℕ} {d d' : List Entry} → Collects record_put (length (map entry_of d)) s (Ok n) d d' → n ≤ length d
    → take n (map entry_of d') ≡ take n (contents s)
kept {s} {n} {d} {d'} c h =
    let same : map entry_of d' ≡ contents s ++ drop (length (contents s)) (map entry_of d) =
    ap (map entry_of) (put-so c (omega (arith, length-records d))) ∙ records-front (contents s) d (omega (arith, counted c)) in
    rw same (take-append-le n (contents s) (drop (length (contents s)) (map entry_of d)) (omega (arith, counted c)))
