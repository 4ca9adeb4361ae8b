-- The window reads the format: what a read of a source gives, form's reader finds on what is to come. Assumes nothing.
use mathlib.Core.Path.{◌≡◌, refl, sym, ap, ◌∙◌}
use mathlib.Core.Bool.{Bool, true, false, ◌&&◌}
use mathlib.Core.Option.{Option, none, some}
use mathlib.Core.List.{List}
use Prim.Native.Nat.{ℕ, ◌+◌, ◌-◌, ◌≤◌}
use native.Mathlib.Omega.{arith}
use lib.ListN.{length, take, drop, length-drop}
use lib.Seq.{drop-drop}
use lib.Dec.{leb, eqb}
use borrow.Author.Tests.{eqb-true, eq-eqb}
use Rattle.form.specs.Numbers.{pick, le}
use Rattle.form.specs.Values.{Value, Rgb}
use Rattle.form.specs.Ids.{OPEN, CLOSE, CHANNEL}
use Rattle.form.specs.Refusals.{Refusal, is_eof}
use Rattle.form.specs.Readers as R
use Rattle.form.specs.Readers.{Reader, found, ◌followed-by◌, ◌giving◌, give}
use Rattle.form.specs.Reading as F
use Rattle.laws.proofs.Never.{never}
use Rattle.laws.proofs.Found.{All, next-there, Whole, piece-there, channels-whole, alpha-whole}
use Rattle.payload.specs.declared.answers.Text.{Text}
use Rattle.payload.proofs.Texts.{within}
use Rattle.source.specs.declared.ParserSource.{ParserSource}
use Rattle.source.specs.Window.{unread, read_past, Drawn, drawn, halted, Draw, drawn_then, ◌then◌, attempted, text_at, held_in, text_in, ensured, taken, peeked}
use Rattle.source.specs.Binary.{spelled_at, invalid, mapped_option, number, id, peeked_id, string_of, string, expected, channel, with_alpha, ended_by, ending, channels, colour}
use Rattle.source.specs.Runs.{ahead}
use Rattle.source.proofs.Cases.{ready}
use Rattle.source.proofs.Kept.{Sound, passing}
use Rattle.source.proofs.HandsOver.{front, ensured-position, ensured-ahead, ensured-front, number-bytes}

module _ (supply schedule : List ℕ) where
  -- from one state to another: a reader finds a in the first n bytes to come, and those are passed
  pub record Finds {A : Type 0} (r : Reader A) (a : A) (n : ℕ) (s : ParserSource) (buffer : List ℕ) (t : ParserSource) (b : List ℕ) : Type 0 where
    pub is : r (ahead supply s buffer) ≡ found a n
    pub rest : drop n (ahead supply s buffer) ≡ ahead supply t b
    pub on : t.position ≡ s.position + n

  -- ---- numbers and texts

  -- what is to come after n unread bytes
  past-ahead : (n : ℕ) (t : ParserSource) (b : List ℕ) → Sound supply schedule t b → n ≤ unread t → drop n (ahead supply t b) ≡ ahead supply (read_past n t) b
  past-ahead n t b g h =
      let d : t.position + n - t.position ≡ n = omega arith in
      rw d at (passing supply schedule n {s = t} {buffer = b} g h).same

  -- n bytes are ensured and passed
  passes : (n : ℕ) {s t : ParserSource} {buffer b : List ℕ} {A : Type 0} (r : Reader A) (a : A) → ensured supply schedule n s buffer ≡ drawn tt t b
      → (n ≤ length (ahead supply s buffer) → r (ahead supply s buffer) ≡ found a n) → Finds r a n s buffer (read_past n t) b
  passes n {s} {t} {buffer} {b} r a e f =
      let w = ready supply schedule s buffer n e in
      let same = ensured-ahead supply schedule s buffer n e in
      record {
        is = f (omega (arith, (passing supply schedule n w.good w.there).total, ap length same));
        rest = ap (drop n) (sym same) ∙ past-ahead n t b w.good w.there;
        on = ap (λ (p : ℕ). p + n) (ensured-position supply schedule s buffer n e);
      }

  num-is : (n : ℕ) (l : List ℕ) → n ≤ length l → F.num n l ≡ found (le (take n l)) n
  unfolding F.num ◌giving◌ R.mapped
  num-is n l h = rw (next-there n l h)

  -- a number of n bytes: `read_lexeme_id`, where n is 2, and the numbers of a colour
  pub number-finds : (n : ℕ) {s u : ParserSource} {buffer b : List ℕ} {i : ℕ} → number supply schedule n s buffer ≡ drawn i u b → Finds (F.num n) i n s buffer u b
  unfolding number taken ◌then◌ drawn_then
  number-finds n {s} {u} {buffer} {b} {i} e = by (ensured supply schedule n s buffer) refl e
    where
      by : (x : Drawn (Unit {0})) → ensured supply schedule n s buffer ≡ x
          → drawn_then (drawn_then x (λ _ v m. drawn (text_at v.start n) (read_past n v) m)) (λ t v m. drawn (spelled_at supply n v t.start m) v m) ≡ drawn i u b
          → Finds (F.num n) i n s buffer u b
      by (drawn a v m) q h =
          let y : read_past n v ≡ u = cc in
          let x : m ≡ b = cc in
          rw (← y, ← x) (passes n (F.num n) i q (λ l. num-is n _ l ∙ ap (λ (j : ℕ). found j n) (sym (number-bytes supply schedule s buffer n e))))
      by (halted r v m) q h = never (cc)

  -- `peek_lexeme_id` finds the same, and nothing is passed
  pub record Sees (i : ℕ) (s : ParserSource) (buffer : List ℕ) (t : ParserSource) (b : List ℕ) : Type 0 where
    pub is : F.num 2 (ahead supply s buffer) ≡ found i 2
    pub same : ahead supply t b ≡ ahead supply s buffer
    pub there : t.position ≡ s.position

  pub peeked-id-sees : {s u : ParserSource} {buffer b : List ℕ} {i : ℕ} → peeked_id supply schedule s buffer ≡ drawn (some i) u b → Sees i s buffer u b
  unfolding peeked_id peeked ◌then◌ drawn_then attempted mapped_option
  peeked-id-sees {s} {u} {buffer} {b} {i} e = by (ensured supply schedule 2 s buffer) refl e
    where
      spelled : Option Text → Draw (Option ℕ)
      spelled o v m = drawn (mapped_option (λ t. spelled_at supply 2 v t.start m) o) v m

      stopped : (p : Bool) (r : Refusal) (v : ParserSource) (m : List ℕ) → drawn_then (pick p (drawn none v m) (halted r v m)) spelled ≡ drawn (some i) u b → Sees i s buffer u b
      stopped true r v m h = never (cc)
      stopped false r v m h = never (cc)

      by : (x : Drawn (Unit {0})) → ensured supply schedule 2 s buffer ≡ x → drawn_then (attempted (drawn_then x (λ _ v m. drawn (text_at v.start 2) v m))) spelled ≡ drawn (some i) u b
          → Sees i s buffer u b
      by (drawn a v m) q h =
          let z : spelled_at supply 2 v v.start m ≡ i = cc in
          let y : v ≡ u = cc in
          let x : m ≡ b = cc in
          let w = passes 2 (F.num 2) _ q (num-is 2 _) in
          rw (← z, ← y, ← x) (record {
            is = w.is ∙ ap (λ (l : List ℕ). found (le l) 2) (sym (ensured-front supply schedule s buffer 2 q));
            same = ensured-ahead supply schedule s buffer 2 q;
            there = ensured-position supply schedule s buffer 2 q;
          })
      by (halted r v m) q h = stopped (is_eof r && leb v.end v.start) r v m h

  -- a length n, and so many bytes
  string-is : (n : ℕ) (l : List ℕ) → n ≡ le (take 2 l) → 2 + n ≤ length l → F.string l ≡ found (take n (drop 2 l)) (2 + n)
  unfolding F.string ◌followed-by◌ R.and_then R.further
  string-is n l e h = rw (num-is 2 l (omega arith), ← e, next-there n (drop 2 l) (omega (arith, length-drop 2 l)))

  -- the bytes of a text that its length stands before
  text-part : (n : ℕ) (t : ParserSource) (b : List ℕ) → Sound supply schedule t b → 2 + n ≤ unread t → take n (drop (t.start + 2) (held_in supply t b)) ≡ take n (drop 2 (ahead supply t b))
  text-part n t b g h =
      let k = passing supply schedule 2 {s = t} {buffer = b} g (omega arith) in
      front supply schedule n (read_past 2 t) b k.good (omega arith) ∙ ap (take n) (sym (past-ahead 2 t b g (omega arith)))

  string-of-finds : (n : ℕ) {s u : ParserSource} {buffer b : List ℕ} {t : Text} → n ≡ le (take 2 (ahead supply s buffer)) → string_of supply schedule n s buffer ≡ drawn t u b
      → Finds F.string (text_in supply t u b) (2 + t.len) s buffer u b
  unfolding string_of ◌then◌ drawn_then
  string-of-finds n {s} {u} {buffer} {b} {t} d e = by (ensured supply schedule (2 + n) s buffer) refl e
    where
      by : (x : Drawn (Unit {0})) → ensured supply schedule (2 + n) s buffer ≡ x → drawn_then x (λ _ v m. drawn (text_at (v.start + 2) n) (read_past (2 + n) v) m) ≡ drawn t u b
          → Finds F.string (text_in supply t u b) (2 + t.len) s buffer u b
      by (drawn a v m) q h =
          let z : text_at (v.start + 2) n ≡ t = cc in
          let y : read_past (2 + n) v ≡ u = cc in
          let x : m ≡ b = cc in
          let w = ready supply schedule s buffer (2 + n) q in
          let part = text-part n v m w.good w.there ∙ ap (λ (l : List ℕ). take n (drop 2 l)) (ensured-ahead supply schedule s buffer (2 + n) q) in
          rw (← z, ← y, ← x, within (held_in supply v m) (text_at (v.start + 2) n) (omega (arith, w.good, w.there)), part) (passes (2 + n) F.string _ q (string-is n (ahead supply s buffer) d))
      by (halted r v m) q h = never (cc)

  -- `read_bstr`
  pub string-finds : {s u : ParserSource} {buffer b : List ℕ} {t : Text} → string supply schedule s buffer ≡ drawn t u b → Finds F.string (text_in supply t u b) (2 + t.len) s buffer u b
  unfolding string ◌then◌ drawn_then
  string-finds {s} {u} {buffer} {b} {t} e = by (ensured supply schedule 2 s buffer) refl e
    where
      by : (x : Drawn (Unit {0})) → ensured supply schedule 2 s buffer ≡ x → drawn_then x (λ _ v m. string_of supply schedule (spelled_at supply 2 v v.start m) v m) ≡ drawn t u b
          → Finds F.string (text_in supply t u b) (2 + t.len) s buffer u b
      by (drawn a v m) q h =
          let same = ensured-ahead supply schedule s buffer 2 q in
          let k = string-of-finds (spelled_at supply 2 v v.start m) (ap le (ensured-front supply schedule s buffer 2 q ∙ ap (take 2) (sym same))) h in
          record { is = rw (← same) k.is; rest = rw (← same) k.rest; on = k.on ∙ ap (λ (p : ℕ). p + (2 + t.len)) (ensured-position supply schedule s buffer 2 q) }
      by (halted r v m) q h = never (cc)

  -- ---- colours

  -- where a call gives a, a reader finds h a in the bytes that the call passes
  abbrev Agrees : {A B : Type 0} → (A → B) → Draw A → Reader B → Type 0
  Agrees {A} {B} h f r = (s : ParserSource) (buffer : List ℕ) (a : A) (t : ParserSource) (b : List ℕ) → f s buffer ≡ drawn a t b → Finds r (h a) (t.position - s.position) s buffer t b

  -- the count, by the positions
  counted : {A : Type 0} (r : Reader A) (a : A) (n : ℕ) {s t : ParserSource} {buffer b : List ℕ} → Finds r a n s buffer t b → Finds r a (t.position - s.position) s buffer t b
  counted r a n {s} {t} {buffer} {b} k = let d : t.position - s.position ≡ n = omega (arith, k.on) in rw d k

  number-agrees : (n : ℕ) → Agrees (λ i. i) (number supply schedule n) (F.num n)
  number-agrees n s buffer i t b e = counted (F.num n) i n (number-finds n e)

  -- nothing is read
  nothing-agrees : {A : Type 0} (a : A) → Agrees (λ x. x) (drawn a) (give a)
  unfolding give
  nothing-agrees a s buffer c t b e =
      let z : a ≡ c = cc in
      let y : s ≡ t = cc in
      let x : buffer ≡ b = cc in
      rw (← z, ← y, ← x) (counted (give a) a 0 (record { is = refl; rest = refl; on = omega arith }))

  -- a call that is refused agrees with every reader
  invalid-agrees : {A B : Type 0} (h : A → B) (r : Reader B) → Agrees h invalid r
  invalid-agrees h r s buffer a t b e = never (cc)

  either-agrees : {A B : Type 0} (h : A → B) (p : Bool) {f g : Draw A} {r q : Reader B} → Agrees h f r → Agrees h g q → Agrees h (pick p f g) (pick p r q)
  either-agrees h true x y = x
  either-agrees h false x y = y

  giving-agrees : {A B C : Type 0} (h : A → B) (k : B → C) {f : Draw A} {r : Reader B} → Agrees h f r → Agrees (λ a. k (h a)) f (r giving k)
  unfolding ◌giving◌ R.mapped
  giving-agrees h k x s buffer a t b e = let w = x s buffer a t b e in record { is = rw w.is; rest = w.rest; on = w.on }

  -- a call and then another, as one reader followed by another
  then_agrees : {A B C D : Type 0} (h : A → B) (k : C → D) {f : Draw A} {g : A → Draw C} {r : Reader B} (q : B → Reader D)
      → Agrees h f r → ((a : A) → Agrees k (g a) (q (h a))) → Agrees k (f then g) (r followed-by q)
  unfolding ◌then◌ drawn_then ◌followed-by◌ R.and_then R.further
  then_agrees {A} {B} {C} {D} h k {f} {g} {r} q x y s buffer c u l e = by (f s buffer) refl e
    where
      by : (z : Drawn A) → f s buffer ≡ z → drawn_then z g ≡ drawn c u l → Finds (r followed-by q) (k c) (u.position - s.position) s buffer u l
      by (drawn a t b) p o =
          let m = x s buffer a t b p in
          let n = y a t b c u l o in
          counted (r followed-by q) (k c) (t.position - s.position + (u.position - t.position)) (record {
            is = rw (m.is, m.rest, n.is);
            rest = sym (drop-drop (u.position - t.position) (t.position - s.position) (ahead supply s buffer)) ∙ ap (drop (u.position - t.position)) m.rest ∙ n.rest;
            on = omega (arith, m.on, n.on);
          })
      by (halted e t b) p o = never (cc)

  -- what is asked for at once is there where no less is found
  piece-agrees : {A B : Type 0} (h : A → B) (n : ℕ) {f : Draw A} {r : Reader B} → ((l : List ℕ) → All (λ _ k. Whole n l k) (r l)) → Agrees h f r → Agrees h f (F.piece n r)
  piece-agrees h n {r = r} whole x s buffer a t b e =
      let w = x s buffer a t b e in
      let k : Whole n (ahead supply s buffer) (t.position - s.position) = rw w.is at (whole (ahead supply s buffer)) in
      record { is = piece-there n r (ahead supply s buffer) (omega (arith, k)) ∙ w.is; rest = w.rest; on = w.on }

  -- an id that is the one expected
  expected-agrees : (i : ℕ) → Agrees (λ _. i) (expected supply schedule i) (F.num 2)
  unfolding expected ◌then◌ drawn_then
  expected-agrees i s buffer a t b e = by (id supply schedule s buffer) refl e
    where
      judge : (j : ℕ) (v : ParserSource) (m : List ℕ) (p : Bool) → eqb j i ≡ p → pick p (drawn (tt {0})) invalid v m ≡ drawn a t b → Finds (F.num 2) j (v.position - s.position) s buffer v m
          → Finds (F.num 2) i (t.position - s.position) s buffer t b
      judge j v m true d o k =
          let y : v ≡ t = cc in
          let x : m ≡ b = cc in
          rw (← eqb-true j i d, ← y, ← x) k
      judge j v m false d o k = never (cc)

      by : (z : Drawn ℕ) → id supply schedule s buffer ≡ z → drawn_then z (λ j. pick (eqb j i) (drawn tt) invalid) ≡ drawn a t b → Finds (F.num 2) i (t.position - s.position) s buffer t b
      by (drawn j v m) p o = judge j v m (eqb j i) refl o (number-agrees 2 s buffer j v m p)
      by (halted r v m) p o = never (cc)

  -- a channel whose id is right
  abbrev channel_of : ℕ → F.Channel
  channel_of n = record { tag = CHANNEL; value = n }

  channel-agrees : Agrees channel_of (channel supply schedule) F.channel
  unfolding channel F.channel
  channel-agrees = then_agrees (λ _. CHANNEL) channel_of _ (expected-agrees CHANNEL) (λ _. giving-agrees (λ n. n) channel_of (number-agrees 4))

  alpha-agrees : (r g b : ℕ) → Agrees (λ v. v) (with_alpha supply schedule r g b) (F.with_alpha r g b)
  unfolding with_alpha F.with_alpha F.alpha_end
  alpha-agrees r g b =
      piece-agrees (λ v. v) 6 (alpha-whole r g b)
      (then_agrees (λ a. a) (λ v. v) _ (number-agrees 4)
      (λ a. then_agrees (λ _. CLOSE) (λ v. v) _ (expected-agrees CLOSE) (λ _. rw (eq-eqb CLOSE CLOSE refl) (nothing-agrees (Rgb r g b (some a))))))

  -- the first four ids were right, so the strict reader looks at the fifth alone
  ended-agrees : (r g b e : ℕ) → Agrees (λ v. v) (ended_by supply schedule r g b e) (F.judged OPEN (channel_of r) (channel_of g) (channel_of b) e)
  unfolding ended_by F.judged F.headed F.ending
  ended-agrees r g b e =
      rw (eq-eqb OPEN OPEN refl, eq-eqb CHANNEL CHANNEL refl)
      (either-agrees (λ v. v) (eqb e CLOSE) (nothing-agrees (Rgb r g b none)) (either-agrees (λ v. v) (eqb e CHANNEL) (alpha-agrees r g b) (invalid-agrees (λ v. v) _)))

  colour-agrees : Agrees (λ v. v) (colour supply schedule) F.rgb
  unfolding colour channels ending F.rgb F.channels
  colour-agrees =
      piece-agrees (λ v. v) 22 channels-whole
      (then_agrees (λ _. OPEN) (λ v. v) _ (expected-agrees OPEN) (λ _.
      then_agrees channel_of (λ v. v) _ channel-agrees (λ r.
      then_agrees channel_of (λ v. v) _ channel-agrees (λ g.
      then_agrees channel_of (λ v. v) _ channel-agrees (λ b.
      then_agrees (λ e. e) (λ v. v) _ (number-agrees 2) (λ e. ended-agrees r g b e))))))

  -- `read_rgb`, which judges each id as it comes, gives what the strict reader finds, which takes 22 bytes first
  pub colour-finds : {s u : ParserSource} {buffer b : List ℕ} {v : Value} → colour supply schedule s buffer ≡ drawn v u b → Finds F.rgb v (u.position - s.position) s buffer u b
  colour-finds {s} {u} {buffer} {b} {v} e = colour-agrees s buffer v u b e
