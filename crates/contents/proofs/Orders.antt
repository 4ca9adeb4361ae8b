-- A search, an entry at a time: what is left of it after some entries. Assumes nothing.
use Prim.Native.Nat.{ℕ, ◌+◌, ◌≤◌, ◌<◌}
use native.Mathlib.Omega.{arith}
use mathlib.Core.Path.{◌≡◌, refl, sym, ap, ◌∙◌}
use mathlib.Core.Bool.{Bool, true, false, ◌&&◌}
use mathlib.Core.Option.{Option, none, some}
use mathlib.Core.List.{List, [], ◌∷◌}
use lib.ListN.{length, drop, drop_of_length-le}
use lib.Dec.{eqb, leb, ltb}
use borrow.Author.Tests.{lt-ltb, le-ltb, le-leb, lt-leb}
use Rattle.std.specs.Prelude.{Result, Ok, Err, Option as MayBe, Some, None}
use Rattle.std.specs.Option.{option_or}
use Rattle.form.specs.Numbers.{pick}
use Rattle.form.specs.Refusals as R
use Rattle.form.specs.Contents as F
use Rattle.form.specs.Contents.{goes_on_at, in_order, holds_at, one_on, holder, search, or_nowhere, unsearched}
use Rattle.contents.specs.declared.Entry.{Entry}
use Rattle.contents.specs.declared.searching.Seen.{Seen}
use Rattle.contents.specs.declared.searching.BadIndex.{BadIndex}
use Rattle.contents.specs.Answers.{entry_of, searched_answer}
use Rattle.contents.specs.Searches.{begun, follows_on, held_by, past_of, answer_of}

-- ---- what is left

-- entries are in order, after one that ends at an edge or from the first on
abbrev ordered_from : MayBe ℕ → List F.Entry → Bool
ordered_from None l = in_order l
ordered_from (Some edge) l = goes_on_at edge l && in_order l

-- the same, i further on
abbrev further_on : ℕ → Option ℕ → Option ℕ
further_on i none = none
further_on i (some j) = some (i + j)

-- what was found, or else what is left to be
abbrev found_or : MayBe ℕ → Option ℕ → Option ℕ
found_or None o = o
found_or (Some i) o = some i

-- what is said in the end, if the entries l are left
pub said : Seen → ℕ → List F.Entry → F.Search
said s i l = pick (s.ordered && ordered_from s.edge l) (or_nowhere (found_or s.found (further_on i (holder s.position l)))) (unsearched R.BadIndex)

pub said-first : (p : ℕ) (l : List F.Entry) → said (begun p) 0 l ≡ search l p
unfolding said search
said-first p l = ap (λ (o : Option ℕ). pick (in_order l) (or_nowhere o) (unsearched R.BadIndex)) (go (holder p l))
  where
    go : (o : Option ℕ) → further_on 0 o ≡ o
    go none = refl
    go (some j) = ap some (omega arith)

-- an entry more
module _ (s : Seen) (e : Entry) (l : List F.Entry) where
  ordered-step : s.ordered && ordered_from s.edge (entry_of e ∷ l) ≡ (s.ordered && follows_on s.edge e) && ordered_from (Some e.end) l
  unfolding follows_on in_order
  ordered-step = go s.ordered s.edge
    where
      by : (o a b g k : Bool) → o && (a && (b && g && k)) ≡ (o && (b && a)) && (g && k)
      by true true true g k = refl
      by true true false g k = refl
      by true false true g k = refl
      by true false false g k = refl
      by false a b g k = refl

      at-first : (o b g k : Bool) → o && (b && g && k) ≡ (o && b) && (g && k)
      at-first true true g k = refl
      at-first true false g k = refl
      at-first false b g k = refl

      go : (o : Bool) (edge : MayBe ℕ) → o && ordered_from edge (entry_of e ∷ l) ≡ (o && follows_on edge e) && ordered_from (Some e.end) l
      go o None = at-first o (ltb e.start e.end) (goes_on_at e.end l) (in_order l)
      go o (Some edge) = by o (eqb e.start edge) (ltb e.start e.end) (goes_on_at e.end l) (in_order l)

  found-step : (i : ℕ) → found_or s.found (further_on i (holder s.position (entry_of e ∷ l)))
      ≡ found_or (option_or s.found (held_by i e s.position)) (further_on (i + 1) (holder s.position l))
  unfolding holder
  found-step i = go s.found (holds_at s.position (entry_of e)) (holder s.position l)
    where
      go : (f : MayBe ℕ) (h : Bool) (o : Option ℕ)
          → found_or f (further_on i (pick h (some 0) (one_on o))) ≡ found_or (option_or f (pick h (Some i) None)) (further_on (i + 1) o)
      go (Some j) h o = refl
      go None true o = ap some (omega arith)
      go None false none = refl
      go None false (some j) = ap some (omega arith)

  said-past : (i : ℕ) → said (past_of s i e) (i + 1) l ≡ said s i (entry_of e ∷ l)
  unfolding said
  said-past i = rw (← ordered-step, ← found-step i)

pub said-next : (s : Seen) (i : ℕ) {r : Seen} {e : Entry} {l rest : List F.Entry} {x : F.Search} → r ≡ past_of s i e → l ≡ entry_of e ∷ rest → said s i l ≡ x
    → said r (i + 1) rest ≡ x
said-next s i {e = e} {rest = rest} p q h = rw p (said-past s e rest i ∙ ap (said s i) (sym q) ∙ h)

-- the last is past
said-none : (s : Seen) (i : ℕ) → searched_answer (answer_of s) ≡ said s i []
unfolding said in_order holder
said-none s i = go s.ordered s.edge s.found
  where
    go : (o : Bool) (edge f : MayBe ℕ)
        → searched_answer (pick o (Ok f) (Err (record {}))) ≡ pick (o && ordered_from edge []) (or_nowhere (found_or f none)) (unsearched R.BadIndex)
    go true None None = refl
    go true None (Some j) = refl
    go true (Some x) None = refl
    go true (Some x) (Some j) = refl
    go false edge f = refl

pub said-last : (s : Seen) (i : ℕ) (l : List F.Entry) {x : F.Search} {r : Result (MayBe ℕ) BadIndex} → r ≡ answer_of s → length l ≤ i → said s i (drop i l) ≡ x
    → searched_answer r ≡ x
said-last s i l p q h = ap searched_answer p ∙ said-none s i ∙ ap (said s i) (sym (drop_of_length-le l {i = i} q)) ∙ h

-- ---- one entry

module _ (e : Entry) where
  pub no_span : e.end ≤ e.start → (edge : MayBe ℕ) → false ≡ follows_on edge e
  unfolding follows_on
  no_span h None = sym (le-ltb e.start e.end h)
  no_span h (Some edge) = rw (le-ltb e.start e.end h)

  module _ (h : e.start < e.end) where
    pub first-span : true ≡ follows_on None e
    unfolding follows_on
    first-span = sym (lt-ltb e.start e.end h)

    pub next-span : (edge : ℕ) → eqb e.start edge ≡ follows_on (Some edge) e
    unfolding follows_on
    next-span edge = rw (lt-ltb e.start e.end h)

  module _ (p : ℕ) where
    pub too-early : p < e.start → leb e.start p ≡ holds_at p (entry_of e)
    unfolding holds_at
    too-early h = rw (lt-leb e.start p h)

    pub within_end : e.start ≤ p → ltb p e.end ≡ holds_at p (entry_of e)
    unfolding holds_at
    within_end h = rw (le-leb e.start p h)
