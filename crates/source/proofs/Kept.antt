-- What every call keeps: the state fits, and what is to come is what was to come but for the bytes passed. Assumes nothing.
use mathlib.Core.Path.{◌≡◌, refl, sym, ap, ◌∙◌}
use mathlib.Core.Bool.{Bool, true, false, ◌&&◌}
use mathlib.Core.Option.{Option, none, some}
use mathlib.Core.List.{List, ◌++◌, append_assoc}
use Prim.Native.Nat.{ℕ, ◌+◌, ◌-◌, ◌≤◌}
use native.Mathlib.Omega.{arith}
use lib.Dec.{leb, eqb}
use lib.ListN.{length, take, drop, length-append, take-append-drop}
use lib.Seq.{sets, length-sets, drop-drop, take-add, drop_at}
use borrow.Author.Tests.{leb-true}
use Rattle.form.specs.Numbers.{pick}
use Rattle.form.specs.Refusals.{is_eof}
use Rattle.form.specs.Values.{Value, Rgb}
use Rattle.form.specs.Ids.{OPEN, CLOSE, CHANNEL}
use Rattle.laws.proofs.Runs.{part_length}
use Rattle.payload.specs.declared.answers.Text.{Text}
use Rattle.source.specs.declared.ParserSource.{ParserSource}
use Rattle.source.specs.declared.reads.Reads.{Reads}
use Rattle.source.specs.Window.{unread, unread_in, read_past, filled, Drawn, drawn, halted, Draw, drawn_then, ◌then◌, attempted, text_at, held_in, window, filled_in, ensured, refilled, advanced, window_len, taken, tried, peeked}
use Rattle.source.specs.Good.{Good}
use Rattle.source.specs.Binary.{invalid, number, id, peeked_id, string_of, string, expected, channel, with_alpha, ended_by, ending, channels, colour}
use Rattle.source.specs.Runs.{ahead}
use Rattle.source.proofs.Stores.{take-sets}
use Rattle.source.proofs.Filling.{Within}
use Rattle.source.proofs.Cases.{sound, by-check, ensured-by, refilled_by, filled-good, past-good, ready, fill-fits, one-fits}

-- ---- lists of what is to come

pub drop-none : (l : List ℕ) (n : ℕ) → drop (n - n) l ≡ l
drop-none l n = let z : n - n ≡ 0 = omega arith in ap (λ (k : ℕ). drop k l) z

module _ (supply schedule : List ℕ) where
  abbrev pub Sound : ParserSource → List ℕ → Type 0
  Sound s buffer = Good s (length (held_in supply s buffer)) (length supply) (length schedule)

  pub record Kept (s : ParserSource) (buffer : List ℕ) (t : ParserSource) (b : List ℕ) : Type 0 where
    pub good : Sound t b
    pub on : s.position ≤ t.position
    pub same : drop (t.position - s.position) (ahead supply s buffer) ≡ ahead supply t b
    pub total : t.position + length (ahead supply t b) ≡ s.position + length (ahead supply s buffer)

  unmoved : (s : ParserSource) (buffer : List ℕ) → Sound s buffer → Kept s buffer s buffer
  unmoved s buffer g = record { good = g; on = omega arith; same = drop-none (ahead supply s buffer) s.position; total = refl }

  -- the bytes to come are the same
  stays : {s t : ParserSource} {buffer b : List ℕ} → Sound t b → t.position ≡ s.position → ahead supply t b ≡ ahead supply s buffer → Kept s buffer t b
  stays {s} {t} {buffer} {b} g p h = record {
    good = g;
    on = omega arith;
    same = ap (λ (k : ℕ). drop (k - s.position) (ahead supply s buffer)) p ∙ drop-none (ahead supply s buffer) s.position ∙ sym h;
    total = (λ i. p i + length (h i));
  }

  further : {s t u : ParserSource} {x y z : List ℕ} → Kept s x t y → Kept t y u z → Kept s x u z
  further {s} {t} {u} {x} {y} {z} p q =
      let d : t.position - s.position + (u.position - t.position) ≡ u.position - s.position = omega (arith, p.on, q.on) in
      record {
        good = q.good;
        on = omega (arith, p.on, q.on);
        same =
            ap (λ (k : ℕ). drop k (ahead supply s x)) (sym d)
            ∙ sym (drop-drop (u.position - t.position) (t.position - s.position) (ahead supply s x))
            ∙ ap (drop (u.position - t.position)) p.same ∙ q.same;
        total = q.total ∙ p.total;
      }

  -- n unread bytes are passed
  pub passing : (n : ℕ) {s : ParserSource} {buffer : List ℕ} → Sound s buffer → n ≤ unread s → Kept s buffer (read_past n s) buffer
  passing n {s} {buffer} g h =
      let H = held_in supply s buffer in
      let m = s.end - (s.start + n) in
      let e : unread s ≡ n + m = omega (arith, g) in
      let l = part_length H s.start n (omega (arith, g)) in
      let w : window supply s buffer ≡ take n (drop s.start H) ++ take m (drop (s.start + n) H) =
      ap (λ (k : ℕ). take k (drop s.start H)) e ∙ take-add n m (drop s.start H)
      ∙ ap (λ (r : List ℕ). take n (drop s.start H) ++ take m r) (drop-drop n s.start H) in
      let a : ahead supply s buffer ≡ take n (drop s.start H) ++ ahead supply (read_past n s) buffer =
      ap (λ (r : List ℕ). r ++ drop s.supply supply) w ∙ append_assoc (take n (drop s.start H)) (take m (drop (s.start + n) H)) (drop s.supply supply) in
      let k : s.position + n - s.position ≡ n = omega arith in
      record {
        good = past-good s (length H) (length supply) (length schedule) n g h;
        on = omega arith;
        same = ap (λ (i : ℕ). drop i (ahead supply s buffer)) k ∙ ap (drop n) a ∙ drop_at (take n (drop s.start H)) (ahead supply (read_past n s) buffer) n l;
        total = omega (arith, ap length a, length-append (take n (drop s.start H)) (ahead supply (read_past n s) buffer), l);
      }

  -- the unread bytes are moved to the front, and reads come behind them
  landing : (r : Reads) {s : ParserSource} {buffer : List ℕ} → s.streaming ≡ true → Good s (length buffer) (length supply) (length schedule)
      → Within (length buffer - unread s) (length supply - s.supply) (length schedule - s.schedule) r → Kept s buffer (filled s r) (filled_in supply s r buffer)
  landing r {s} {buffer} t g f =
      let W = unread_in s buffer in
      let X = take r.got (drop s.supply supply) in
      let w = part_length buffer s.start (unread s) (omega (arith, g)) in
      let x = part_length supply s.supply r.got (omega (arith, g, f)) in
      let y : length (W ++ X) ≡ unread s + r.got - 0 = omega (arith, w, x, length-append W X) in
      let n : unread s + r.got - 0 ≤ length buffer = omega (arith, g, f) in
      let p : X ++ drop (s.supply + r.got) supply ≡ drop s.supply supply =
      ap (λ (l : List ℕ). X ++ l) (sym (drop-drop r.got s.supply supply)) ∙ take-append-drop r.got (drop s.supply supply) in
      let a : ahead supply (filled s r) (filled_in supply s r buffer) ≡ W ++ drop s.supply supply =
      ap (λ (b : Bool). take (unread s + r.got - 0) (pick b (sets buffer 0 (W ++ X)) supply) ++ drop (s.supply + r.got) supply) t
      ∙ ap (λ (l : List ℕ). l ++ drop (s.supply + r.got) supply) (take-sets buffer (W ++ X) (unread s + r.got - 0) y n)
      ∙ append_assoc W X (drop (s.supply + r.got) supply) ∙ ap (λ (l : List ℕ). W ++ l) p in
      let b : ahead supply s buffer ≡ W ++ drop s.supply supply = ap (λ (b : Bool). unread_in s (pick b buffer supply) ++ drop s.supply supply) t in
      let h : length (held_in supply (filled s r) (filled_in supply s r buffer)) ≡ length buffer =
      ap (λ (b : Bool). length (pick b (filled_in supply s r buffer) supply)) t ∙ length-sets buffer 0 (W ++ X) in
      stays (rw h (filled-good s (length buffer) (length supply) (length schedule) r g f)) refl (a ∙ sym b)

  -- ---- calls

  abbrev pub Keeps : {A : Type 0} → ParserSource → List ℕ → Drawn A → Type 0
  Keeps s buffer (drawn a t b) = Kept s buffer t b
  Keeps s buffer (halted r t b) = Kept s buffer t b

  abbrev pub Keeping : {A : Type 0} → Draw A → Type 0
  Keeping f = (s : ParserSource) (buffer : List ℕ) → Sound s buffer → Keeps s buffer (f s buffer)

  giving : {A : Type 0} (a : A) → Keeping (drawn a)
  giving a s buffer g = unmoved s buffer g

  refusing : (A : Type 0) → Keeping (invalid {A = A})
  refusing A s buffer g = unmoved s buffer g

  either : {A : Type 0} (b : Bool) (f g : Draw A) → Keeping f → Keeping g → Keeping (pick b f g)
  either true f g p q = p
  either false f g p q = q

  then_by : {A B : Type 0} (g : A → Draw B) → ((a : A) → Keeping (g a)) → (s : ParserSource) (buffer : List ℕ) (x : Drawn A) → Keeps s buffer x → Keeps s buffer (drawn_then x g)
  unfolding drawn_then
  then_by {A} {B} g q s buffer (drawn a t b) k = go (g a t b) (q a t b k.good)
    where
      go : (y : Drawn B) → Keeps t b y → Keeps s buffer y
      go (drawn c u d) m = further k m
      go (halted r u d) m = further k m
  then_by {A} {B} g q s buffer (halted r t b) k = k

  followed : {A B : Type 0} (f : Draw A) (g : A → Draw B) → Keeping f → ((a : A) → Keeping (g a)) → Keeping (f then g)
  unfolding ◌then◌
  followed f g p q s buffer w = then_by g q s buffer (f s buffer) (p s buffer w)

  optionally : {A : Type 0} (s : ParserSource) (buffer : List ℕ) (x : Drawn A) → Keeps s buffer x → Keeps s buffer (attempted x)
  unfolding attempted
  optionally {A} s buffer (drawn a t b) k = k
  optionally {A} s buffer (halted r t b) k = by (is_eof r && leb t.end t.start)
    where
      by : (p : Bool) → Keeps {A = Option A} s buffer (pick p (drawn none t b) (halted r t b))
      by true = k
      by false = k

  pub ensured-keeps : (n : ℕ) → Keeping (ensured supply schedule n)
  ensured-keeps n s buffer g =
      ensured-by supply schedule s buffer n (Keeps s buffer) (λ p. unmoved s buffer g) (λ e h. unmoved s buffer g) (λ e x. unmoved s buffer g)
      (λ e t x. landing _ t (sound supply schedule s buffer e t) (fill-fits s (length buffer) (length supply) schedule))
      (λ e t h. landing _ t (sound supply schedule s buffer e t) (fill-fits s (length buffer) (length supply) schedule))

  pub refilled-keeps : Keeping (refilled supply schedule)
  refilled-keeps s buffer g =
      refilled_by supply schedule s buffer (Keeps s buffer) (λ p. unmoved s buffer g) (λ e. unmoved s buffer g) (λ e x. unmoved s buffer g)
      (λ e t x. landing _ t (sound supply schedule s buffer e t) (one-fits s (length buffer) (length supply) schedule))
      (λ e t. landing _ t (sound supply schedule s buffer e t) (one-fits s (length buffer) (length supply) schedule))

  pub advanced-keeps : (n : ℕ) → Keeping (advanced supply schedule n)
  unfolding advanced
  advanced-keeps n s buffer g = by-check supply schedule s buffer (Keeps s buffer) _ (λ p. unmoved s buffer g) (λ e. by (leb n (unread s)) refl)
    where
      by : (p : Bool) → leb n (unread s) ≡ p → Keeps s buffer (pick p (drawn true (read_past n s) buffer) (drawn false s buffer))
      by true e = passing n g (leb-true _ _ e)
      by false e = unmoved s buffer g

  pub window-len-keeps : Keeping (window_len supply schedule)
  unfolding window_len
  window-len-keeps s buffer g = by-check supply schedule s buffer (Keeps s buffer) _ (λ p. unmoved s buffer g) (λ e. unmoved s buffer g)

  -- n bytes are ensured and passed
  reading : (n : ℕ) (h : ParserSource → Text) → Keeping (ensured supply schedule n then (λ _ s buffer. drawn (h s) (read_past n s) buffer))
  unfolding ◌then◌ drawn_then
  reading n h s buffer g = by (ensured supply schedule n s buffer) refl (ensured-keeps n s buffer g)
    where
      by : (x : Drawn (Unit {0})) → ensured supply schedule n s buffer ≡ x → Keeps s buffer x → Keeps s buffer (drawn_then x (λ _ t b. drawn (h t) (read_past n t) b))
      by (drawn a t b) e k = let w = ready supply schedule s buffer n e in further k (passing n w.good w.there)
      by (halted r t b) e k = k

  pub taken-keeps : (n : ℕ) → Keeping (taken supply schedule n)
  unfolding taken
  taken-keeps n = reading n (λ s. text_at s.start n)

  pub tried-keeps : (n : ℕ) → Keeping (tried supply schedule n)
  unfolding tried
  tried-keeps n s buffer g = optionally s buffer _ (taken-keeps n s buffer g)

  pub peeked-keeps : (n : ℕ) → Keeping (peeked supply schedule n)
  unfolding peeked
  peeked-keeps n s buffer g = optionally s buffer _ (followed (ensured supply schedule n) _ (ensured-keeps n) (λ _ t b w. unmoved t b w) s buffer g)

  pub number-keeps : (n : ℕ) → Keeping (number supply schedule n)
  unfolding number
  number-keeps n = followed (taken supply schedule n) _ (taken-keeps n) (λ t s b w. unmoved s b w)

  pub peeked-id-keeps : Keeping (peeked_id supply schedule)
  unfolding peeked_id
  peeked-id-keeps = followed (peeked supply schedule 2) _ (peeked-keeps 2) (λ o s b w. unmoved s b w)

  pub string-keeps : Keeping (string supply schedule)
  unfolding string string_of
  string-keeps = followed (ensured supply schedule 2) _ (ensured-keeps 2) (λ _ s b w. reading _ _ s b w)

  expected-keeps : (i : ℕ) → Keeping (expected supply schedule i)
  unfolding expected
  expected-keeps i = followed (id supply schedule) _ (number-keeps 2) (λ j. either (eqb j i) _ _ (giving (tt {0})) (refusing (Unit {0})))

  channel-keeps : Keeping (channel supply schedule)
  unfolding channel
  channel-keeps = followed (expected supply schedule CHANNEL) _ (expected-keeps CHANNEL) (λ _. number-keeps 4)

  alpha-keeps : (r g b : ℕ) → Keeping (with_alpha supply schedule r g b)
  unfolding with_alpha
  alpha-keeps r g b = followed (number supply schedule 4) _ (number-keeps 4) (λ a. followed (expected supply schedule CLOSE) _ (expected-keeps CLOSE) (λ _. giving (Rgb r g b (some a))))

  ending-keeps : (r g b : ℕ) → Keeping (ending supply schedule r g b)
  unfolding ending ended_by
  ending-keeps r g b =
      followed (id supply schedule) _ (number-keeps 2)
      (λ e. either (eqb e CLOSE) _ _ (giving (Rgb r g b none)) (either (eqb e CHANNEL) _ _ (alpha-keeps r g b) (refusing Value)))

  channels-keeps : Keeping (channels supply schedule)
  unfolding channels
  channels-keeps =
      followed (channel supply schedule) _ channel-keeps (λ r. followed (channel supply schedule) _ channel-keeps (λ g. followed (channel supply schedule) _ channel-keeps (λ b. ending-keeps r g b)))

  pub colour-keeps : Keeping (colour supply schedule)
  unfolding colour
  colour-keeps = followed (expected supply schedule OPEN) _ (expected-keeps OPEN) (λ _. channels-keeps)
