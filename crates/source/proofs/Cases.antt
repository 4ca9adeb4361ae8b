-- The calls by their cases: what each test of the code decides. Assumes nothing.
use mathlib.Core.Path.{◌≡◌, refl, sym, ap, ◌∙◌, subst}
use mathlib.Core.Bool.{Bool, true, false}
use mathlib.Core.List.{List, [], ◌++◌}
use Prim.Native.Nat.{ℕ, ◌+◌, ◌-◌, ◌≤◌, ◌<◌}
use native.Mathlib.Omega.{arith}
use lib.Dec.{leb}
use lib.ListN.{length, take, drop, length-drop}
use lib.Seq.{sets, length-sets}
use borrow.Author.Tests.{le-leb, lt-leb, leb-true}
use Rattle.form.specs.Numbers.{pick, MAX}
use Rattle.form.specs.Refusals.{Refusal, Eof, BufferTooSmall, ReadFailed, BadPlace}
use Rattle.laws.proofs.Runs.{part_length}
use Rattle.source.specs.declared.ParserSource.{ParserSource}
use Rattle.std.specs.Prelude.{Ok, Err, Option as MayBe, Some, None}
use Rattle.source.specs.declared.reads.Reads.{Reads}
use Rattle.source.specs.Reads.{one, fill}
use Rattle.source.specs.Window.{unread, unread_in, held_in, checked, checked_in, read_past, filled, filled_in, Drawn, drawn, halted, Draw, fitting, if_fine, if_given, topped_by, topped, ensured, once_by, once, refilled, advanced, window_len, window_of}
use Rattle.source.specs.declared.answers.ParserError.TheVariants as E
use Rattle.source.specs.declared.answers.Stop.{Stop}
use Rattle.source.specs.Answers.{stop_answer, refusal_of, judged}
use Rattle.source.specs.Good.{Good}
use Rattle.laws.proofs.Never.{never}
use borrow.Rule.Slice.PartMut.{put_mid}
use Rattle.source.proofs.Stores.{sets_then, onwards, onwards-is, put_tail}
use Rattle.source.proofs.Filling.{Within, one-within, fill-within}
use Rattle.source.proofs.States.{good}

-- what the code's check found: all numbers fit, or one does not
fits : (s : ParserSource) (k : MayBe ℕ) → Ok tt ≡ judged s k → k ≡ None
unfolding judged
fits s None e = refl
fits s (Some p) e = never (cc)

record Misfit (s : ParserSource) (k : MayBe ℕ) (x : Stop) : Type 0 where
  place : ℕ
  is : k ≡ Some place
  stop : x ≡ record { error = E.BadPlace place; next = s }

misfit : (s : ParserSource) (k : MayBe ℕ) (x : Stop) → Err x ≡ judged s k → Misfit s k x
unfolding judged
misfit s None x e = never (cc)
misfit s (Some p) x e = record { place = p; is = refl; stop = cc }

module _ (supply schedule : List ℕ) (s : ParserSource) (buffer : List ℕ) where
  stream-checked : s.streaming ≡ true → checked_in supply schedule s buffer ≡ checked s (length buffer) (length supply) (length schedule)
  stream-checked t = ap (λ (b : Bool). checked s (length (pick b buffer supply)) (length supply) (length schedule)) t

  -- all numbers fit
  module _ (e : checked_in supply schedule s buffer ≡ None) where
    fit : {A : Type 0} (f : Draw A) → fitting supply schedule f s buffer ≡ f s buffer
    unfolding fitting if_fine
    fit f = rw e

    pub sound : s.streaming ≡ true → Good s (length buffer) (length supply) (length schedule)
    sound t = good s (length buffer) (length supply) (length schedule) (sym (stream-checked t) ∙ e)

    pub held : Good s (length (held_in supply s buffer)) (length supply) (length schedule)
    held = good s (length (held_in supply s buffer)) (length supply) (length schedule) e

  bad : {A : Type 0} (f : Draw A) (p : ℕ) → checked_in supply schedule s buffer ≡ Some p → halted (BadPlace p) s buffer ≡ fitting supply schedule f s buffer
  unfolding fitting if_fine
  bad f p e = rw e

  -- the check refuses
  module _ {x : Stop} (e : Err x ≡ judged s (checked_in supply schedule s buffer)) where
    unfit : {A : Type 0} (f : Draw A) → stop_answer x buffer ≡ fitting supply schedule f s buffer
    unfit {A} f = let m = misfit _ _ _ e in ap (λ (y : Stop). stop_answer {A = A} y buffer) m.stop ∙ bad f m.place m.is

    pub ensured_bad : (n : ℕ) → stop_answer x buffer ≡ ensured supply schedule n s buffer
    unfolding ensured
    ensured_bad n = unfit _

    pub refilled_bad : stop_answer x buffer ≡ refilled supply schedule s buffer
    unfolding refilled
    refilled_bad = unfit _

    pub advanced_bad : (n : ℕ) → stop_answer x buffer ≡ advanced supply schedule n s buffer
    unfolding advanced
    advanced_bad n = unfit _

    pub window_len_bad : halted (refusal_of x.error) s buffer ≡ window_len supply schedule s buffer
    unfolding window_len
    window_len_bad =
        let h : x.next ≡ s = ap (λ (y : Stop). y.next) (misfit _ _ _ e).stop in
        ap (λ (t : ParserSource). halted (refusal_of x.error) t buffer) (sym h) ∙ unfit _

    pub window_bad : [] ≡ window_of supply schedule s buffer
    unfolding window_of if_given
    window_bad = rw (← window_len_bad)

  -- the check passes
  module _ (e : Ok tt ≡ judged s (checked_in supply schedule s buffer)) where
    passed : checked_in supply schedule s buffer ≡ None
    passed = fits s (checked_in supply schedule s buffer) e

    pub checked_ordered : s.start ≤ s.end
    checked_ordered = (held passed).ordered

    pub checked_within : s.end ≤ length (held_in supply s buffer)
    checked_within = (held passed).within

    pub checked_position : s.position + unread s ≤ MAX
    checked_position = omega (arith, held passed)

    pub checked_sound : s.streaming ≡ true → Good s (length buffer) (length supply) (length schedule)
    checked_sound t = sound passed t

    module _ (n : ℕ) where
      pub ensured_enough : n ≤ unread s → drawn tt s buffer ≡ ensured supply schedule n s buffer
      unfolding ensured
      ensured_enough h = sym (fit passed _ ∙ rw (le-leb _ _ h))

      module _ (h : unread s < n) where
        pub ensured_slice : s.streaming ≡ false → halted (Eof s.position (n - unread s)) s buffer ≡ ensured supply schedule n s buffer
        unfolding ensured
        ensured_slice t = sym (fit passed _ ∙ rw (lt-leb _ _ h, t))

        pub ensured_small : s.streaming ≡ true → length buffer < n → halted (BufferTooSmall s.position) s buffer ≡ ensured supply schedule n s buffer
        unfolding ensured
        ensured_small t o = sym (fit passed _ ∙ rw (lt-leb _ _ h, t, lt-leb _ _ o))

        pub ensured_go : s.streaming ≡ true → n ≤ length buffer → topped supply schedule n s buffer ≡ ensured supply schedule n s buffer
        unfolding ensured
        ensured_go t o = sym (fit passed _ ∙ rw (lt-leb _ _ h, t, le-leb _ _ o))

      pub advanced_on : n ≤ unread s → drawn true (read_past n s) buffer ≡ advanced supply schedule n s buffer
      unfolding advanced
      advanced_on h = sym (fit passed _ ∙ rw (le-leb _ _ h))

      pub advanced_not : unread s < n → drawn false s buffer ≡ advanced supply schedule n s buffer
      unfolding advanced
      advanced_not h = sym (fit passed _ ∙ rw (lt-leb _ _ h))

    pub refilled_slice : s.streaming ≡ false → drawn 0 s buffer ≡ refilled supply schedule s buffer
    unfolding refilled
    refilled_slice t = sym (fit passed _ ∙ rw t)

    pub refilled_small : s.streaming ≡ true → length buffer ≤ unread s → halted (BufferTooSmall s.position) s buffer ≡ refilled supply schedule s buffer
    unfolding refilled
    refilled_small t o = sym (fit passed _ ∙ rw (t, le-leb _ _ o))

    pub refilled_go : s.streaming ≡ true → unread s < length buffer → once supply schedule s buffer ≡ refilled supply schedule s buffer
    unfolding refilled
    refilled_go t o = sym (fit passed _ ∙ rw (t, lt-leb _ _ o))

    pub window_len_fine : drawn (unread s) s buffer ≡ window_len supply schedule s buffer
    unfolding window_len
    window_len_fine = sym (fit passed _)

    pub window_fine : unread_in s (held_in supply s buffer) ≡ window_of supply schedule s buffer
    unfolding window_of if_given
    window_fine = rw (← window_len_fine)

-- what the goals of the calls that check first are found by
pub ruleset checks = (
  checked_ordered,
  checked_within,
  checked_position,
  checked_sound,
  ensured_bad,
  ensured_enough,
  ensured_slice,
  ensured_small,
  ensured_go,
  refilled_bad,
  refilled_slice,
  refilled_small,
  refilled_go,
  advanced_bad,
  advanced_on,
  advanced_not,
  window_len_bad,
  window_len_fine,
  window_bad,
  window_fine,
)

-- reads that begin at the end of the window stay within the supply and the schedule
module _ (s : ParserSource) (held supply : ℕ) (schedule : List ℕ) where
  pub fill-fits : Within (held - unread s) (supply - s.supply) (length schedule - s.schedule) (fill (held - unread s) (supply - s.supply) (drop s.schedule schedule))
  fill-fits = rw (length-drop s.schedule schedule) at (fill-within (held - unread s) (supply - s.supply) (drop s.schedule schedule))

  pub one-fits : Within (held - unread s) (supply - s.supply) (length schedule - s.schedule) (one (held - unread s) (supply - s.supply) (drop s.schedule schedule))
  one-fits = rw (length-drop s.schedule schedule) at (one-within (held - unread s) (supply - s.supply) (drop s.schedule schedule))

-- the unread bytes are moved, d, and reads into what is left of it give r
module _ (supply schedule : List ℕ) (s : ParserSource) (d : List ℕ) (r : Reads) where
  abbrev Left : (ℕ → ℕ → List ℕ → Reads) → Type 0
  Left reads = r ≡ reads (length (onwards d (unread s))) (length (onwards supply s.supply)) (onwards schedule s.schedule)

  placed : (reads : ℕ → ℕ → List ℕ → Reads) → Left reads → r ≡ reads (length d - unread s) (length supply - s.supply) (drop s.schedule schedule)
  placed reads q =
      rw (onwards-is d (unread s), onwards-is supply s.supply, onwards-is schedule s.schedule, length-drop (unread s) d, length-drop s.supply supply) at q

  abbrev Stay : Type 0
  Stay = Within (length d - unread s) (length supply - s.supply) (length schedule - s.schedule) r

  pub fill-there : Left fill → Stay
  fill-there q = rw (placed fill q) (fill-fits s (length d) (length supply) schedule)

  pub one-there : Left one → Stay
  one-there q = rw (placed one q) (one-fits s (length d) (length supply) schedule)

  -- they leave `part` there
  module _ (buffer : List ℕ) (g : Good s (length buffer) (length supply) (length schedule)) (part : List ℕ) (next : ParserSource)
      (hd : d ≡ sets buffer 0 (unread_in s buffer)) (w : part ≡ sets (onwards d (unread s)) 0 (take r.got (onwards supply s.supply))) (hn : next ≡ filled s r) where
    long : length d ≡ length buffer
    long = ap length hd ∙ length-sets buffer 0 (unread_in s buffer)

    abbrev last : List ℕ
    last = put_mid (unread s) (length d - unread s) d part

    bytes : Stay → last ≡ filled_in supply s r buffer
    bytes v =
        let X = take r.got (drop s.supply supply) in
        let m = part_length buffer s.start (unread s) (omega (arith, g)) in
        let l = part_length supply s.supply r.got (omega (arith, v.there)) in
        put_tail d X part (unread s) (rw (onwards-is supply s.supply) at w) (omega (arith, l, v.fits, long, g))
        ∙ ap (λ (l : List ℕ). sets l (unread s) X) hd ∙ sets_then (unread_in s buffer) X buffer 0 (unread s) (omega (arith, m))

    module _ (n : ℕ) (q : Left fill) where
      all : topped supply schedule n s buffer ≡ topped_by supply n s buffer r
      unfolding topped
      all = ap (topped_by supply n s buffer) (sym (rw long at (placed fill q)))

      pub topped_failed : r.failed ≡ true → halted (ReadFailed s.position) next last ≡ topped supply schedule n s buffer
      unfolding topped_by
      topped_failed h = sym (all ∙ rw (h, ← hn, ← bytes (fill-there q)))

      pub topped_short : r.failed ≡ false → next.end < n → halted (Eof s.position (n - next.end)) next last ≡ topped supply schedule n s buffer
      unfolding topped_by
      topped_short h o =
          let l : next.end ≡ unread s + r.got = ap (λ (x : ParserSource). x.end) hn in
          sym (all ∙ rw (h, lt-leb n (unread s + r.got) (omega arith), ← hn, ← bytes (fill-there q), l))

      pub topped_ready : r.failed ≡ false → n ≤ next.end → drawn tt next last ≡ topped supply schedule n s buffer
      unfolding topped_by
      topped_ready h o =
          sym (all ∙ rw (h, le-leb n (unread s + r.got) (omega (arith, ap (λ (x : ParserSource). x.end) hn)), ← hn, ← bytes (fill-there q)))

    module _ (q : Left one) where
      single : once supply schedule s buffer ≡ once_by supply s buffer r
      unfolding once
      single = ap (once_by supply s buffer) (sym (rw long at (placed one q)))

      pub once_failed : r.failed ≡ true → halted (ReadFailed s.position) next last ≡ once supply schedule s buffer
      unfolding once_by
      once_failed h = sym (single ∙ rw (h, ← hn, ← bytes (one-there q)))

      pub once_read : r.failed ≡ false → drawn r.got next last ≡ once supply schedule s buffer
      unfolding once_by
      once_read h = sym (single ∙ rw (h, ← hn, ← bytes (one-there q)))

-- ---- what holds in each case holds of what is left

module _ {A : Type 0} (P : Drawn A → Type 0) where
  by-test : (b : Bool) (x y : Drawn A) → (b ≡ true → P x) → (b ≡ false → P y) → P (pick b x y)
  by-test true x y f g = f refl
  by-test false x y f g = g refl

module _ (supply schedule : List ℕ) (s : ParserSource) (buffer : List ℕ) where
  abbrev pub Fits : Type 0
  Fits = checked_in supply schedule s buffer ≡ None

  pub by-check : {A : Type 0} (P : Drawn A → Type 0) (f : Draw A) → ((p : ℕ) → P (halted (BadPlace p) s buffer)) → (Fits → P (f s buffer)) → P (fitting supply schedule f s buffer)
  unfolding fitting if_fine
  by-check P f bad fine = go (checked_in supply schedule s buffer) refl
    where
      go : (k : MayBe ℕ) → checked_in supply schedule s buffer ≡ k → P (if_fine k s buffer (f s buffer))
      go None e = fine e
      go (Some p) e = bad p

  module _ (n : ℕ) (P : Drawn (Unit {0}) → Type 0) (bad : (p : ℕ) → P (halted (BadPlace p) s buffer))
      (enough : Fits → n ≤ unread s → P (drawn tt s buffer)) (none : Fits → (e : Refusal) → P (halted e s buffer)) where
    abbrev all_of : Reads
    all_of = fill (length buffer - unread s) (length supply - s.supply) (drop s.schedule schedule)

    -- `ensure_bytes`
    pub ensured-by : (Fits → s.streaming ≡ true → (e : Refusal) → P (halted e (filled s all_of) (filled_in supply s all_of buffer)))
        → (Fits → s.streaming ≡ true → n ≤ unread s + all_of.got → P (drawn tt (filled s all_of) (filled_in supply s all_of buffer)))
        → P (ensured supply schedule n s buffer)
    unfolding ensured topped topped_by
    ensured-by stopped ready =
        by-check P _ bad (λ e. by-test P (leb n (unread s)) _ _ (λ h. enough e (leb-true _ _ h))
        (λ h. by-test P s.streaming _ _
        (λ t. by-test P (leb n (length buffer)) _ _
        (λ o. by-test P all_of.failed _ _ (λ q. stopped e t _)
        (λ q. by-test P (leb n (unread s + all_of.got)) _ _ (λ m. ready e t (leb-true _ _ m)) (λ m. stopped e t _)))
        (λ o. none e _))
        (λ t. none e _)))

  module _ (P : Drawn ℕ → Type 0) (bad : (p : ℕ) → P (halted (BadPlace p) s buffer)) (none : Fits → P (drawn 0 s buffer))
      (small : Fits → (e : Refusal) → P (halted e s buffer)) where
    abbrev first_of : Reads
    first_of = one (length buffer - unread s) (length supply - s.supply) (drop s.schedule schedule)

    -- `refill`
    pub refilled_by : (Fits → s.streaming ≡ true → (e : Refusal) → P (halted e (filled s first_of) (filled_in supply s first_of buffer)))
        → (Fits → s.streaming ≡ true → P (drawn first_of.got (filled s first_of) (filled_in supply s first_of buffer)))
        → P (refilled supply schedule s buffer)
    unfolding refilled once once_by
    refilled_by stopped ready =
        by-check P _ bad (λ e. by-test P s.streaming _ _
        (λ t. by-test P (leb (length buffer) (unread s)) _ _ (λ o. small e _)
        (λ o. by-test P first_of.failed _ _ (λ q. stopped e t _) (λ q. ready e t)))
        (λ t. none e))

-- the state after reads fits where the state before did
pub filled-good : (s : ParserSource) (held supply schedule : ℕ) (r : Reads) → Good s held supply schedule
    → Within (held - unread s) (supply - s.supply) (schedule - s.schedule) r → Good (filled s r) held supply schedule
filled-good s held supply schedule r g w = record {
  ordered = omega arith;
  within = omega (arith, g, w);
  supplied = omega (arith, g, w);
  scheduled = omega (arith, g, w);
  sum = omega (arith, g, w);
}

-- and so does the state after unread bytes
pub past-good : (s : ParserSource) (held supply schedule n : ℕ) → Good s held supply schedule → n ≤ unread s → Good (read_past n s) held supply schedule
past-good s held supply schedule n g h = record {
  ordered = omega (arith, g);
  within = g.within;
  supplied = g.supplied;
  scheduled = g.scheduled;
  sum = omega (arith, g);
}

-- where a read is ready, the state fits and has the bytes unread
module _ (supply schedule : List ℕ) (s : ParserSource) (buffer : List ℕ) (n : ℕ) where
  pub record Ready (t : ParserSource) (b : List ℕ) : Type 0 where
    pub good : Good t (length (held_in supply t b)) (length supply) (length schedule)
    pub there : n ≤ unread t

  abbrev IfReady : Drawn (Unit {0}) → Type 0
  IfReady (drawn a t b) = Ready t b
  IfReady (halted e t b) = Unit {0}

  pub filled-held : s.streaming ≡ true → (r : Reads) → length (held_in supply (filled s r) (filled_in supply s r buffer)) ≡ length buffer
  filled-held t r = rw t (length-sets buffer 0 (unread_in s buffer ++ take r.got (drop s.supply supply)))

  pub ready : {t : ParserSource} {b : List ℕ} → ensured supply schedule n s buffer ≡ drawn tt t b → Ready t b
  ready e = subst IfReady e (ensured-by supply schedule s buffer n IfReady (λ p. tt)
      (λ f h. record { good = held supply schedule s buffer f; there = h })
      (λ f x. tt)
      (λ f t x. tt)
      (λ f t h.
      let r = fill (length buffer - unread s) (length supply - s.supply) (drop s.schedule schedule) in
      record {
        good = rw (filled-held t r) (filled-good s (length buffer) (length supply) (length schedule) r (sound supply schedule s buffer f t) (fill-fits s (length buffer) (length supply) schedule));
        there = omega (arith, h);
      }))
