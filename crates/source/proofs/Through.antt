-- What each call makes of the answer of another, and the reads of the format. Assumes nothing.
use mathlib.Core.Path.{◌≡◌, refl, sym, ap, ◌∙◌}
use mathlib.Core.Bool.{Bool, true, false, ◌&&◌}
use mathlib.Core.Option.{none, some, Option}
use mathlib.Core.List.{List, [], ◌∷◌}
use Prim.Native.Nat.{ℕ, ◌+◌, ◌≤◌}
use native.Mathlib.Omega.{arith}
use lib.Dec.{leb, eqb}
use lib.ListN.{length, take, drop}
use borrow.Author.Tests.{eq-eqb, ne_eqb}
use Rattle.form.specs.Numbers.{pick, le, MAX}
use Rattle.form.specs.Values.{Rgb}
use Rattle.form.specs.Refusals.{Refusal, InvalidRgb, is_eof}
use Rattle.laws.proofs.Never.{never}
use Rattle.laws.proofs.Lookups.{open_is, close-is, channel-is}
use Rattle.payload.specs.declared.answers.Text.{Text}
use Rattle.source.specs.declared.ParserSource.{ParserSource}
use Rattle.source.specs.declared.answers.Stop.{Stop}
use Rattle.source.specs.Window.{read_past, Drawn, drawn, halted, Draw, drawn_then, ◌then◌, attempted, text_at, held_in, ensured, taken, peeked, tried}
use Rattle.source.specs.Answers.{stop_answer, drawn_as, refusal_of, or_nothing}
use Rattle.source.specs.Binary.{invalid, mapped_option, number, id, peeked_id, string_of, string, expected, channel, with_alpha, ended_by, ending, channels, colour}
use Rattle.source.proofs.Cases.{ready}
use Rattle.std.specs.Prelude.{Ok, Err, Option as MayBe, None}
use Rattle.std.specs.Int.{w16, w32, from_le_bytes}
use Rattle.laws.proofs.Runs.{part_length}
use Rattle.payload.specs.Answers.{option_as}

-- ---- a call and then another

module _ {A B : Type 0} (f : Draw A) (g : A → Draw B) (s : ParserSource) (buffer : List ℕ) where
  pub then_got : {a : A} {t : ParserSource} {b : List ℕ} → drawn a t b ≡ f s buffer → g a t b ≡ (f then g) s buffer
  unfolding ◌then◌ drawn_then
  then_got e = rw (← e)

  pub then_stop : {r : Refusal} {t : ParserSource} {b : List ℕ} → halted r t b ≡ f s buffer → halted r t b ≡ (f then g) s buffer
  unfolding ◌then◌ drawn_then
  then_stop e = rw (← e)

module _ (supply schedule : List ℕ) (s : ParserSource) (buffer : List ℕ) where
  pub taken_got : (n : ℕ) {u : ParserSource} {b : List ℕ} → drawn tt u b ≡ ensured supply schedule n s buffer → drawn (text_at u.start n) (read_past n u) b ≡ taken supply schedule n s buffer
  unfolding taken
  taken_got n e = then_got _ _ s buffer e

  pub taken_stop : (n : ℕ) (x : Stop) {b : List ℕ} → stop_answer x b ≡ ensured supply schedule n s buffer → stop_answer x b ≡ taken supply schedule n s buffer
  unfolding taken
  taken_stop n x e = then_stop _ _ s buffer e

  -- ---- the bytes are there

  pub ready_start : (n : ℕ) {u : ParserSource} {b : List ℕ} → drawn tt u b ≡ ensured supply schedule n s buffer → u.start + n ≤ u.end
  ready_start n e = let w = ready supply schedule s buffer n (sym e) in omega (arith, w.good, w.there)

  pub ready_position : (n : ℕ) {u : ParserSource} {b : List ℕ} → drawn tt u b ≡ ensured supply schedule n s buffer → u.position + n ≤ MAX
  ready_position n e = let w = ready supply schedule s buffer n (sym e) in omega (arith, w.good, w.there)

  pub ready_there : (n : ℕ) {u : ParserSource} {b : List ℕ} → drawn tt u b ≡ ensured supply schedule n s buffer → u.start + n ≤ length (held_in supply u b)
  ready_there n {u} {b} e =
      let w = ready supply schedule s buffer n (sym e) in
      omega (arith, w.good, w.there)

  module _ (n : ℕ) {t : Text} {u : ParserSource} {b : List ℕ} where
    pub taken_there : drawn t u b ≡ taken supply schedule n s buffer → t.start + n ≤ length (held_in supply u b)
    unfolding taken ◌then◌ drawn_then
    taken_there e = by (ensured supply schedule n s buffer) refl e
      where
        by : (x : Drawn (Unit {0})) → ensured supply schedule n s buffer ≡ x → drawn t u b ≡ drawn_then x (λ _ v m. drawn (text_at v.start n) (read_past n v) m)
            → t.start + n ≤ length (held_in supply u b)
        by (drawn a v m) q h =
            let z : text_at v.start n ≡ t = cc in
            let y : read_past n v ≡ u = cc in
            let x : m ≡ b = cc in
            rw (← z, ← y, ← x) (ready_there n (sym q))
        by (halted r v m) q h = never (cc)

    pub peeked_there : drawn (some t) u b ≡ peeked supply schedule n s buffer → t.start + n ≤ length (held_in supply u b)
    unfolding peeked ◌then◌ drawn_then attempted
    peeked_there e = by (ensured supply schedule n s buffer) refl e
      where
        stopped : (p : Bool) (r : Refusal) (v : ParserSource) (m : List ℕ) → drawn (some t) u b ≡ pick p (drawn none v m) (halted r v m) → t.start + n ≤ length (held_in supply u b)
        stopped true r v m h = never (cc)
        stopped false r v m h = never (cc)

        by : (x : Drawn (Unit {0})) → ensured supply schedule n s buffer ≡ x → drawn (some t) u b ≡ attempted (drawn_then x (λ _ v m. drawn (text_at v.start n) v m))
            → t.start + n ≤ length (held_in supply u b)
        by (drawn a v m) q h =
            let z : text_at v.start n ≡ t = cc in
            let y : v ≡ u = cc in
            let x : m ≡ b = cc in
            rw (← z, ← y, ← x) (ready_there n (sym q))
        by (halted r v m) q h = stopped (is_eof r && leb v.end v.start) r v m h

  -- ---- numbers and strings

  pub number_got : (n : ℕ) {t : Text} {u : ParserSource} {b : List ℕ} → drawn t u b ≡ taken supply schedule n s buffer
      → drawn (le (take n (drop t.start (held_in supply u b)))) u b ≡ number supply schedule n s buffer
  unfolding number
  number_got n e = then_got _ _ s buffer e

  pub number_stop : (n : ℕ) (x : Stop) {b : List ℕ} → stop_answer x b ≡ taken supply schedule n s buffer → stop_answer x b ≡ number supply schedule n s buffer
  unfolding number
  number_stop n x e = then_stop _ _ s buffer e

  pub peeked_id_got : {t : Text} {u : ParserSource} {b : List ℕ} → drawn (some t) u b ≡ peeked supply schedule 2 s buffer
      → drawn (some (le (take 2 (drop t.start (held_in supply u b))))) u b ≡ peeked_id supply schedule s buffer
  unfolding peeked_id mapped_option
  peeked_id_got e = then_got _ _ s buffer e

  pub peeked_id_none : {u : ParserSource} {b : List ℕ} → drawn none u b ≡ peeked supply schedule 2 s buffer → drawn none u b ≡ peeked_id supply schedule s buffer
  unfolding peeked_id mapped_option
  peeked_id_none e = then_got _ _ s buffer e

  pub peeked_id_stop : (x : Stop) {b : List ℕ} → stop_answer x b ≡ peeked supply schedule 2 s buffer → stop_answer x b ≡ peeked_id supply schedule s buffer
  unfolding peeked_id
  peeked_id_stop x e = then_stop _ _ s buffer e

  pub string_of_got : (n : ℕ) {u : ParserSource} {b : List ℕ} → drawn tt u b ≡ ensured supply schedule (2 + n) s buffer
      → drawn (text_at (u.start + 2) n) (read_past (2 + n) u) b ≡ string_of supply schedule n s buffer
  unfolding string_of
  string_of_got n e = then_got _ _ s buffer e

  pub string_of_stop : (n : ℕ) (x : Stop) {b : List ℕ} → stop_answer x b ≡ ensured supply schedule (2 + n) s buffer → stop_answer x b ≡ string_of supply schedule n s buffer
  unfolding string_of
  string_of_stop n x e = then_stop _ _ s buffer e

  pub string_got : {u : ParserSource} {b : List ℕ} → drawn tt u b ≡ ensured supply schedule 2 s buffer
      → string_of supply schedule (le (take 2 (drop u.start (held_in supply u b)))) u b ≡ string supply schedule s buffer
  unfolding string
  string_got e = then_got _ _ s buffer e

  pub string_stop : (x : Stop) {b : List ℕ} → stop_answer x b ≡ ensured supply schedule 2 s buffer → stop_answer x b ≡ string supply schedule s buffer
  unfolding string
  string_stop x e = then_stop _ _ s buffer e

  -- ---- colours

  module _ (i : ℕ) where
    pub expected_stop : (x : Stop) {b : List ℕ} → stop_answer x b ≡ number supply schedule 2 s buffer → stop_answer x b ≡ expected supply schedule i s buffer
    unfolding expected
    expected_stop x e = then_stop _ _ s buffer e

    pub expected_is : {j : ℕ} {u : ParserSource} {b : List ℕ} → drawn j u b ≡ number supply schedule 2 s buffer → eqb j i ≡ true → drawn tt u b ≡ expected supply schedule i s buffer
    unfolding expected
    expected_is e h = rw h at (then_got (id supply schedule) (λ j. pick (eqb j i) (drawn (tt {0})) invalid) s buffer e)

    pub expected_not : {j : ℕ} {u : ParserSource} {b : List ℕ} → drawn j u b ≡ number supply schedule 2 s buffer → eqb j i ≡ false → halted (InvalidRgb u.position) u b ≡ expected supply schedule i s buffer
    unfolding expected
    expected_not e h = rw h at (then_got (id supply schedule) (λ j. pick (eqb j i) (drawn (tt {0})) invalid) s buffer e)

  -- an id by its number
  by_number_lem : {i k : ℕ} {x : Drawn (Unit {0})} → i ≡ k → x ≡ expected supply schedule k s buffer → x ≡ expected supply schedule i s buffer
  by_number_lem h e = e ∙ ap (λ (j : ℕ). expected supply schedule j s buffer) (sym h)

  pub channel_got : {u : ParserSource} {b : List ℕ} → drawn tt u b ≡ expected supply schedule 0x0014 s buffer → number supply schedule 4 u b ≡ channel supply schedule s buffer
  unfolding channel
  channel_got e = then_got _ _ s buffer (by_number_lem channel-is e)

  pub channel_stop : (x : Stop) {b : List ℕ} → stop_answer x b ≡ expected supply schedule 0x0014 s buffer → stop_answer x b ≡ channel supply schedule s buffer
  unfolding channel
  channel_stop x e = then_stop _ _ s buffer (by_number_lem channel-is e)

  pub colour_got : {u : ParserSource} {b : List ℕ} → drawn tt u b ≡ expected supply schedule 0x0003 s buffer → channels supply schedule u b ≡ colour supply schedule s buffer
  unfolding colour
  colour_got e = then_got _ _ s buffer (by_number_lem open_is e)

  pub colour_stop : (x : Stop) {b : List ℕ} → stop_answer x b ≡ expected supply schedule 0x0003 s buffer → stop_answer x b ≡ colour supply schedule s buffer
  unfolding colour
  colour_stop x e = then_stop _ _ s buffer (by_number_lem open_is e)

-- a colour's alpha and its end
module _ (supply schedule : List ℕ) (s : ParserSource) (buffer : List ℕ) (r g b : ℕ) where
  pub alpha_stop : (x : Stop) {l : List ℕ} → stop_answer x l ≡ number supply schedule 4 s buffer → stop_answer x l ≡ with_alpha supply schedule r g b s buffer
  unfolding with_alpha
  alpha_stop x e = then_stop _ _ s buffer e

  pub ending_stop : (x : Stop) {l : List ℕ} → stop_answer x l ≡ number supply schedule 2 s buffer → stop_answer x l ≡ ending supply schedule r g b s buffer
  unfolding ending
  ending_stop x e = then_stop _ _ s buffer e

  module _ {a : ℕ} {u : ParserSource} {l : List ℕ} (e : drawn a u l ≡ number supply schedule 4 s buffer) where
    pub alpha_got : {v : ParserSource} {m : List ℕ} → drawn tt v m ≡ expected supply schedule 0x0004 u l → drawn (Rgb r g b (some a)) v m ≡ with_alpha supply schedule r g b s buffer
    unfolding with_alpha
    alpha_got h = then_got _ _ u l (by_number_lem supply schedule u l close-is h) ∙ then_got _ _ s buffer e

    pub alpha_end_stop : (x : Stop) {m : List ℕ} → stop_answer x m ≡ expected supply schedule 0x0004 u l → stop_answer x m ≡ with_alpha supply schedule r g b s buffer
    unfolding with_alpha
    alpha_end_stop x h = then_stop _ _ u l (by_number_lem supply schedule u l close-is h) ∙ then_got _ _ s buffer e

  module _ {i : ℕ} {u : ParserSource} {l : List ℕ} (e : drawn i u l ≡ number supply schedule 2 s buffer) where
    pub ending_close : i ≡ 0x0004 → drawn (Rgb r g b none) u l ≡ ending supply schedule r g b s buffer
    unfolding ending ended_by
    ending_close h = rw (close-is, eq-eqb i 0x0004 h) at (then_got (id supply schedule) (ended_by supply schedule r g b) s buffer e)

    pub ending_alpha : i ≡ 0x0014 → with_alpha supply schedule r g b u l ≡ ending supply schedule r g b s buffer
    unfolding ending ended_by
    ending_alpha h = rw (close-is, channel-is, ne_eqb i 0x0004 (λ k. omega arith), eq-eqb i 0x0014 h) at (then_got (id supply schedule) (ended_by supply schedule r g b) s buffer e)

    pub ending_other : (i ≡ 0x0004 → ⊥) → (i ≡ 0x0014 → ⊥) → halted (InvalidRgb u.position) u l ≡ ending supply schedule r g b s buffer
    unfolding ending ended_by
    ending_other h k = rw (close-is, channel-is, ne_eqb i 0x0004 h, ne_eqb i 0x0014 k) at (then_got (id supply schedule) (ended_by supply schedule r g b) s buffer e)

-- three channels
pub red_stop : (supply schedule : List ℕ) (s : ParserSource) (buffer : List ℕ) (x : Stop) {l : List ℕ} → stop_answer x l ≡ channel supply schedule s buffer → stop_answer x l ≡ channels supply schedule s buffer
unfolding channels
red_stop supply schedule s buffer x e = then_stop _ _ s buffer e

module _ (supply schedule : List ℕ) (s : ParserSource) (buffer : List ℕ) {r : ℕ} {u : ParserSource} {l : List ℕ} (e : drawn r u l ≡ channel supply schedule s buffer) where
  pub green_stop : (x : Stop) {m : List ℕ} → stop_answer x m ≡ channel supply schedule u l → stop_answer x m ≡ channels supply schedule s buffer
  unfolding channels
  green_stop x h = then_stop _ _ u l h ∙ then_got _ _ s buffer e

  module _ {g : ℕ} {v : ParserSource} {m : List ℕ} (h : drawn g v m ≡ channel supply schedule u l) where
    pub blue_stop : (x : Stop) {k : List ℕ} → stop_answer x k ≡ channel supply schedule v m → stop_answer x k ≡ channels supply schedule s buffer
    unfolding channels
    blue_stop x q = then_stop _ _ v m q ∙ then_got _ _ u l h ∙ then_got _ _ s buffer e

    pub blue_got : {b : ℕ} {w : ParserSource} {k : List ℕ} → drawn b w k ≡ channel supply schedule v m → ending supply schedule r g b w k ≡ channels supply schedule s buffer
    unfolding channels
    blue_got q = then_got _ _ v m q ∙ then_got _ _ u l h ∙ then_got _ _ s buffer e

-- ---- arrays

-- the number that an array spells
pub le_2 : (l : List ℕ) → length l ≡ 2 → from_le_bytes w16 l ≡ le l
unfolding le
le_2 [] h = omega arith
le_2 (a ∷ []) h = omega arith
le_2 (a ∷ b ∷ []) h = omega arith
le_2 (a ∷ b ∷ c ∷ l) h = omega arith

pub le_4 : (l : List ℕ) → length l ≡ 4 → from_le_bytes w32 l ≡ le l
unfolding le
le_4 [] h = omega arith
le_4 (a ∷ []) h = omega arith
le_4 (a ∷ b ∷ []) h = omega arith
le_4 (a ∷ b ∷ c ∷ []) h = omega arith
le_4 (a ∷ b ∷ c ∷ d ∷ []) h = omega arith
le_4 (a ∷ b ∷ c ∷ d ∷ e ∷ l) h = omega arith

-- a part of a list that is there
pub part_long : (held l : List ℕ) (at n : ℕ) → at + n ≤ length held → l ≡ take n (drop at held) → length l ≡ n
part_long held l at n h e = ap length e ∙ part_length held at n (omega arith)

-- ---- the optional forms

-- a refusal, for the optional forms
pub stopped : (x : Stop) (buffer : List ℕ) → attempted (stop_answer x buffer) ≡ drawn_as (option_as (λ t. t)) (or_nothing x) buffer
unfolding attempted
stopped x buffer = by (is_eof (refusal_of x.error) && leb x.next.end x.next.start)
  where
    by : (b : Bool) → pick b (drawn none x.next buffer) (stop_answer x buffer) ≡ drawn_as {V = MayBe Text} {A = Option Text} (option_as (λ t. t)) (pick b (Ok (None, x.next)) (Err x)) buffer
    by true = refl
    by false = refl

module _ (supply schedule : List ℕ) (n : ℕ) (s : ParserSource) (buffer : List ℕ) where
  pub tried_got : {t : Text} {u : ParserSource} {b : List ℕ} → drawn t u b ≡ taken supply schedule n s buffer → drawn (some t) u b ≡ tried supply schedule n s buffer
  unfolding tried attempted
  tried_got e = rw (← e)

  pub tried_stop : (x : Stop) {b : List ℕ} → stop_answer x b ≡ taken supply schedule n s buffer → drawn_as (option_as (λ t. t)) (or_nothing x) b ≡ tried supply schedule n s buffer
  unfolding tried
  tried_stop x {b} e = sym (stopped x b) ∙ ap attempted e

  pub peeked_ready : {t : ParserSource} {b : List ℕ} → drawn tt t b ≡ ensured supply schedule n s buffer → drawn (some (text_at t.start n)) t b ≡ peeked supply schedule n s buffer
  unfolding peeked ◌then◌ drawn_then attempted
  peeked_ready e = rw (← e)

  pub peeked_stop : (x : Stop) {b : List ℕ} → stop_answer x b ≡ ensured supply schedule n s buffer → drawn_as (option_as (λ t. t)) (or_nothing x) b ≡ peeked supply schedule n s buffer
  unfolding peeked ◌then◌ drawn_then
  peeked_stop x {b} e = sym (stopped x b) ∙ ap (λ (y : Drawn (Unit {0})). attempted (drawn_then y (λ _ t c. drawn (text_at t.start n) t c))) e

-- ---- what the code's goals are found by

pub ruleset reads = (
  ready_start,
  ready_position,
  ready_there,
  taken_there,
  peeked_there,
  taken_got,
  taken_stop,
  tried_got,
  tried_stop,
  peeked_ready,
  peeked_stop,
  number_got,
  number_stop,
  peeked_id_got,
  peeked_id_none,
  peeked_id_stop,
  string_of_got,
  string_of_stop,
  string_got,
  string_stop,
  expected_stop,
  expected_is,
  expected_not,
  channel_got,
  channel_stop,
  colour_got,
  colour_stop,
  alpha_stop,
  alpha_got,
  alpha_end_stop,
  ending_stop,
  ending_close,
  ending_alpha,
  ending_other,
  red_stop,
  green_stop,
  blue_stop,
  blue_got,
  le_2,
  le_4,
  part_long,
)
