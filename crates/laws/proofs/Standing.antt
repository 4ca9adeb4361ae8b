-- Tokens whose bytes are already their spelling. Assumes nothing.
use Prim.Native.Nat.{ℕ, zero, suc, ◌+◌, ◌^◌, ◌≤◌, ◌<◌, zero-le}
use native.Mathlib.Omega.{arith}
use mathlib.Core.Path.{◌≡◌, refl, sym, ap, ◌∙◌}
use mathlib.Core.Bool.{Bool, true, false, not, ◌&&◌}
use mathlib.Core.List.{List, [], ◌∷◌, ◌++◌}
use mathlib.Core.Logic.{inl, inr}
use lib.ListN.{length, take, drop, length-drop}
use lib.Seq.{take-add, length-take-le}
use lib.Dec.{eqb}
use types.Run.{OneOf}
use borrow.Author.Tests.{lt-ltb, eqb-true, eq-eqb, ne_eqb}
use mir.Syntax.{w32, w64}
use mir.ValLaws.{of_z-to_z}
use Rattle.form.specs.Numbers.{pick, le, le_bytes, Bytes}
use Rattle.form.specs.Values.{Value, U32, U64, F32, F64, Lookup, Quoted, Unquoted, signed32, signed64, nonzero, kind}
use Rattle.form.specs.Table.{Payload, number, text, colour, table, entries, find, or_plain, after, reserved}
use Rattle.form.specs.Ids.{OPEN, CLOSE, CHANNEL}
use Rattle.form.specs.Refusals.{Fault}
use Rattle.form.specs.Readers.{Reader, found, further, and_then, mapped, ◌followed-by◌, ◌giving◌, give, refuse}
use Rattle.form.specs.Reading.{next, piece, num, string, Channel, channel, alpha_end, with_alpha, ending, headed, judged, channels, rgb, payload, token}
use Rattle.form.specs.Spelling.{tag, spelled_channel, spelled_alpha, bit, body, spell, reason, writable, wide}
use Rattle.laws.proofs.Never.{never}
use Rattle.laws.proofs.LittleEndian.{number_same, drop-bytes}
use Rattle.laws.proofs.Lookups.{plain-after}
use Rattle.laws.proofs.Found.{All, all-mapped, all_then, all-weaken, all-piece, Next, next-found, next-there}
use Rattle.laws.proofs.Elsewhere.{both}
use Rattle.laws.proofs.Sound.{◌&◌}

-- ---- what follows an id, where both are spelled as they stand

-- v is spelled by the id i and the bytes bs, and can be written
abbrev Keeps : ℕ → List ℕ → Value → Type 0
Keeps i bs v = (spell v ≡ le_bytes 2 i ++ bs) × (wide v ≡ false)

-- w bytes follow i, and each number below m that they spell is kept
pub record KeptNumber (w m i : ℕ) : Type 0 where
  pub value : ℕ → Value
  pub is : after i ≡ number w value
  pub keeps : (n : ℕ) → n < m → Keeps i (le_bytes w n) (value n)

-- a text follows i, and is kept
pub record KeptText (i : ℕ) : Type 0 where
  pub value : List ℕ → Value
  pub is : after i ≡ text value
  pub keeps : (t : List ℕ) → Keeps i (le_bytes 2 (length t) ++ t) (value t)

-- a colour follows i, which is the id that spells it
pub record KeptColour (i : ℕ) : Type 0 where
  pub is : after i ≡ colour
  pub keeps : i ≡ 0x0243

-- ---- the token at the front of the bytes

-- it is spelled by its n bytes
pub record Stands (s : List ℕ) (n : ℕ) : Type 0 where
  pub value : Value
  pub some : 2 ≤ n
  pub there : n ≤ length s
  pub read : token s ≡ found value n
  pub same : spell value ≡ take n s
  pub narrow : wide value ≡ false

-- ---- readers of what is spelled by the bytes that it has

-- Q holds of a and of n bytes at the front of s
abbrev Front : {A : Type 0} → (A → List ℕ → Type 0) → List ℕ → A → ℕ → Type 0
Front Q s a n = (n ≤ length s) × Q a (take n s)

-- Q holds of whatever f finds and of the bytes that it took
record Reads {A : Type 0} (Q : A → List ℕ → Type 0) (f : Reader A) : Type 0 where
  of : (s : List ℕ) → Bytes s → All (Front Q s) (f s)

-- what f finds is spelled by its bytes, and g goes on after them
reads_then : {A B : Type 0} (spelt : A → List ℕ) {Q : B → List ℕ → Type 0} {f : Reader A} {g : A → Reader B} → Reads (λ a t. spelt a ≡ t) f
    → ((a : A) → Reads (λ b t. Q b (spelt a ++ t)) (g a)) → Reads Q (f followed-by g)
reads_then spelt {Q} {f} {g} h k = record {
  of = λ s b.
      all_then (Front (λ a t. spelt a ≡ t) s) (Front Q s) f g s (h.of s b)
      (λ a n x. all-weaken (Front (λ c t. Q c (spelt a ++ t)) (drop n s)) (λ c m. Front Q s c (n + m)) (g a (drop n s)) ((k a).of (drop n s) (drop-bytes n s b))
      (λ c m y. (omega (arith, x.0, y.0, length-drop n s), rw (take-add n m s, ← x.1) y.1)));
}

reads-pick : {A : Type 0} {Q : A → List ℕ → Type 0} (c : Bool) {f g : Reader A} → (c ≡ true → Reads Q f) → Reads Q g → Reads Q (pick c f g)
reads-pick true h k = h refl
reads-pick false h k = k

reads-give : {A : Type 0} {Q : A → List ℕ → Type 0} (a : A) → Q a [] → Reads Q (give a)
unfolding give
reads-give a q = record { of = λ s b. (zero-le, q) }

reads-refuse : {A : Type 0} {Q : A → List ℕ → Type 0} (why : Fault) → Reads Q (refuse why)
unfolding refuse
reads-refuse why = record { of = λ s b. tt }

reads-piece : {A : Type 0} {P : A → List ℕ → Type 0} (n : ℕ) {f : Reader A} → Reads P f → Reads P (piece n f)
reads-piece {A} {P} n {f} h = record {
  of = λ s b. all-piece (Front P s) n f s (h.of s b);
}

reads-num : (w : ℕ) → Reads (λ x t. le_bytes w x ≡ t) (num w)
unfolding num ◌giving◌
reads-num w = record {
  of = λ s b.
      all-mapped (Next w s) (Front (λ x t. le_bytes w x ≡ t) s) le (next w s) (next-found w s)
      (λ t n k. rw (k.count, k.is) (k.there, number_same s b w k.there));
}

-- ---- a colour

abbrev spelt : Channel → List ℕ
spelt c = le_bytes 2 c.tag ++ le_bytes 4 c.value

reads-channel : Reads (λ c t. spelt c ≡ t) channel
unfolding channel ◌giving◌
reads-channel =
    reads_then (le_bytes 2) (reads-num 2)
    (λ i. record {
      of = λ s b.
          all-mapped (Front (λ x t. le_bytes 4 x ≡ t) s) (Front (λ c t. spelt c ≡ le_bytes 2 i ++ t) s) _ (num 4 s) ((reads-num 4).of s b)
          (λ x n k. (k.0, ap (λ (t : List ℕ). le_bytes 2 i ++ t) k.1));
    })

-- the value is spelled by a colour's id and these bytes
abbrev Coloured : Value → List ℕ → Type 0
Coloured v t = Keeps 0x0243 t v

-- where the first four ids are right, so is the fifth, or it is refused
module _ (o : ℕ) (r g b : Channel) (h : headed o r.tag g.tag b.tag ≡ true) where
  -- the bytes so far, and more
  abbrev on : List ℕ → List ℕ
  on t = le_bytes 2 o ++ (spelt r ++ (spelt g ++ (spelt b ++ t)))

  -- as they are spelled
  abbrev right : List ℕ → List ℕ
  right t = le_bytes 2 OPEN ++ (spelled_channel r.value ++ (spelled_channel g.value ++ (spelled_channel b.value ++ t)))

  on-right : (t : List ℕ) → on t ≡ right t
  unfolding headed spelled_channel
  on-right t =
      let x = both _ (eqb b.tag CHANNEL) h in
      let y = both _ (eqb g.tag CHANNEL) x.0 in
      let z = both _ (eqb r.tag CHANNEL) y.0 in
      rw (eqb-true o OPEN z.0, eqb-true r.tag CHANNEL z.1, eqb-true g.tag CHANNEL y.1, eqb-true b.tag CHANNEL x.1)

  reads-alpha : (e : ℕ) → e ≡ CHANNEL → Reads (λ v t. Coloured v (on (le_bytes 2 e ++ t))) (with_alpha r.value g.value b.value)
  unfolding with_alpha alpha_end spell tag body le_bytes spelled_channel spelled_alpha wide kind
  reads-alpha e p =
      reads-piece 6
      (reads_then (le_bytes 4) (reads-num 4) (λ a.
      reads_then (le_bytes 2) (reads-num 2) (λ c.
      reads-pick (eqb c CLOSE) (λ q. reads-give _ (rw (on-right, p, eqb-true c CLOSE q) (refl, refl))) (reads-refuse _))))

  reads-ending : (e : ℕ) → Reads (λ v t. Coloured v (on (le_bytes 2 e ++ t))) (ending e r.value g.value b.value)
  unfolding ending spell tag body le_bytes spelled_channel spelled_alpha wide kind
  reads-ending e =
      reads-pick (eqb e CLOSE) (λ q. reads-give _ (rw (on-right, eqb-true e CLOSE q) (refl, refl)))
      (reads-pick (eqb e CHANNEL) (λ q. reads-alpha e (eqb-true e CHANNEL q)) (reads-refuse _))

reads-rgb : Reads Coloured rgb
unfolding rgb channels judged
reads-rgb =
    reads-piece 22
    (reads_then (le_bytes 2) (reads-num 2) (λ o.
    reads_then spelt reads-channel (λ r.
    reads_then spelt reads-channel (λ g.
    reads_then spelt reads-channel (λ b.
    reads_then (le_bytes 2) (reads-num 2) (λ e.
    reads-pick (headed o r.tag g.tag b.tag) (λ h. reads-ending o r g b h e) (reads-refuse _)))))))

-- ---- a token

num-there : (w : ℕ) (s : List ℕ) → w ≤ length s → num w s ≡ found (le (take w s)) w
unfolding num ◌giving◌ mapped
num-there w s h = rw (next-there w s h)

module _ (s : List ℕ) (b : Bytes s) (l : 2 ≤ length s) where
  abbrev i : ℕ
  i = le (take 2 s)

  abbrev r : List ℕ
  r = drop 2 s

  -- by what follows the id
  by-id : {p : Payload} → after i ≡ p → token s ≡ further 2 (payload p r)
  unfolding token ◌followed-by◌ and_then
  by-id e = rw (num-there 2 s l, e)

  pub number-stands : {w m : ℕ} → KeptNumber w m i → w ≤ length r → le (take w r) < m → Stands s (2 + w)
  unfolding payload ◌giving◌ mapped further
  number-stands {w} {m} k h q =
      let n = le (take w r) in
      record {
        value = k.value n;
        some = omega arith;
        there = omega (arith, length-drop 2 s);
        read = by-id k.is ∙ rw (num-there w r h);
        same =
            (k.keeps n q).0
            ∙ rw (number_same s b 2 l, number_same r (drop-bytes 2 s b) w h) (sym (take-add 2 w s));
        narrow = (k.keeps n q).1;
      }

  pub text-stands : KeptText i → 2 ≤ length r → 2 + le (take 2 r) ≤ length r → Stands s (2 + (2 + le (take 2 r)))
  unfolding payload string ◌giving◌ ◌followed-by◌ and_then mapped further
  text-stands k h q =
      let n = le (take 2 r) in
      let t = take n (drop 2 r) in
      let fits : n ≤ length (drop 2 r) = omega (arith, length-drop 2 r) in
      let size : length t ≡ n = length-take-le n (drop 2 r) fits in
      record {
        value = k.value t;
        some = omega arith;
        there = omega (arith, length-drop 2 s);
        read = by-id k.is ∙ rw (num-there 2 r h, next-there n (drop 2 r) fits);
        same =
            (k.keeps t).0
            ∙ rw (size, number_same s b 2 l, number_same r (drop-bytes 2 s b) 2 h) (sym (take-add 2 (2 + n) s ∙ ap (λ (x : List ℕ). take 2 s ++ x) (take-add 2 n r)));
        narrow = (k.keeps t).1;
      }

  pub colour-stands : KeptColour i → {v : Value} {n : ℕ} → rgb r ≡ found v n → Stands s (2 + n)
  unfolding payload further
  colour-stands k {v} {n} e =
      let q : (n ≤ length r) × Coloured v (take n r) = rw e at (reads-rgb.of r (drop-bytes 2 s b)) in
      record {
        value = v;
        some = omega arith;
        there = omega (arith, q.0, length-drop 2 s);
        read = by-id k.is ∙ rw e;
        same = q.1.0 ∙ rw (← k.keeps, number_same s b 2 l) (sym (take-add 2 n s));
        narrow = q.1.1;
      }

-- ---- the ids, as the arms of a `match` have them: what holds of each holds of a number that is one of them

abbrev pub OfEach : (ℕ → Type 0) → List ℕ → Type 0
OfEach P [] = Unit {0}
OfEach P (k ∷ ks) = P k × OfEach P ks

pub of_one : (P : ℕ → Type 0) {x : ℕ} (ks : List ℕ) → OfEach P ks → OneOf ks x → P x
of_one P [] t h = absurd h
of_one P (k ∷ []) t h = rw h t.0
of_one P (k ∷ k' ∷ ks) t (inl h) = rw h t.0
of_one P (k ∷ k' ∷ ks) t (inr h) = of_one P (k' ∷ ks) t.1 h

-- every number of w bytes
abbrev pub Kept : ℕ → ℕ → Type 0
Kept w i = KeptNumber w (256 ^ w) i

abbrev pub kept4 : List ℕ
kept4 = 0x000c ∷ 0x0014 ∷ []

pub fours-kept : OfEach (Kept 4) kept4
unfolding after find entries table or_plain spell tag body wide kind reason writable
fours-kept =
    record { value = signed32; is = refl; keeps = λ n h. (rw (of_z-to_z w32 n (record { fits = h })), refl) }
    & record { value = U32; is = refl; keeps = λ n h. (refl, refl) }
    & tt

abbrev pub kept_f32 : List ℕ
kept_f32 = 0x000d ∷ []

pub floats-kept : OfEach (Kept 4) kept_f32
unfolding after find entries table or_plain spell tag body wide kind reason writable
floats-kept = record { value = F32; is = refl; keeps = λ n h. (refl, refl) } & tt

abbrev pub kept8 : List ℕ
kept8 = 0x0167 ∷ 0x029c ∷ 0x0317 ∷ []

pub eights-kept : OfEach (Kept 8) kept8
unfolding after find entries table or_plain spell tag body wide kind reason writable
eights-kept =
    record { value = F64; is = refl; keeps = λ n h. (refl, refl) }
    & record { value = U64; is = refl; keeps = λ n h. (refl, refl) }
    & record { value = signed64; is = refl; keeps = λ n h. (rw (of_z-to_z w64 n (record { fits = h })), refl) }
    & tt

narrow-enough : (n : ℕ) → n < 256 ^ 3 → wide (Lookup n) ≡ false
unfolding wide kind reason writable
narrow-enough n h = rw (lt-ltb n (2 ^ 24) h)

abbrev pub kept3 : List ℕ
kept3 = 0x0d41 ∷ []

pub threes-kept : OfEach (Kept 3) kept3
unfolding after find entries table or_plain spell tag body wide kind reason writable
threes-kept = record { value = Lookup; is = refl; keeps = λ n h. (refl, narrow-enough n h) } & tt

-- of a truth, 0 and 1
bit-same : (n : ℕ) → n < 2 → bit (not (eqb n 0)) ≡ n
bit-same zero h = refl
bit-same (suc n) h = rw (ne_eqb (suc n) 0 (λ e. omega arith)) (omega arith)

abbrev pub kept_truths : List ℕ
kept_truths = 0x000e ∷ []

pub truths-kept : OfEach (KeptNumber 1 2) kept_truths
unfolding after find entries table or_plain spell tag body wide kind reason writable
truths-kept = record { value = nonzero; is = refl; keeps = λ n h. (rw (bit-same n h), refl) } & tt

abbrev pub kept_texts : List ℕ
kept_texts = 0x000f ∷ 0x0017 ∷ []

pub texts-kept : OfEach KeptText kept_texts
unfolding after find entries table or_plain spell tag body wide kind reason writable
texts-kept =
    record { value = Quoted; is = refl; keeps = λ t. (refl, refl) }
    & record { value = Unquoted; is = refl; keeps = λ t. (refl, refl) }
    & tt

abbrev pub kept_colours : List ℕ
kept_colours = 0x0243 ∷ []

pub colours-kept : OfEach KeptColour kept_colours
unfolding after find entries table or_plain kind
colours-kept = record { is = refl; keeps = refl } & tt

-- ---- ids that stand alone and are spelled so: the test, which plain ids pass

abbrev is_nil : List ℕ → Bool
is_nil [] = true
is_nil (b ∷ bs) = false

abbrev alone_by : ℕ → Payload → Bool
alone_by i (number w f) = eqb w 0 && (eqb (tag (f 0)) i && (is_nil (body (f 0)) && not (wide (f 0))))
alone_by i (text f) = false
alone_by i colour = false

abbrev pub alone : ℕ → Bool
alone i = alone_by i (after i)

pub plain-alone : (i : ℕ) → reserved i ≡ false → alone i ≡ true
unfolding tag body wide kind
plain-alone i e = rw (plain-after i e, eq-eqb i i refl)

nil_is : (l : List ℕ) → is_nil l ≡ true → l ≡ []
nil_is [] e = refl
nil_is (b ∷ bs) e = cc

not_is : (b : Bool) → not b ≡ true → b ≡ false
not_is true e = cc
not_is false e = refl

pub alone-kept : (i : ℕ) → alone i ≡ true → Kept 0 i
unfolding spell le_bytes
alone-kept i e = go (after i) refl e
  where
    go : (p : Payload) → after i ≡ p → alone_by i p ≡ true → Kept 0 i
    go (number w f) q e =
        let a = both (eqb w 0) _ e in
        let b = both (eqb (tag (f 0)) i) _ a.1 in
        let c = both (is_nil (body (f 0))) _ b.1 in
        record {
          value = f;
          is = q ∙ ap (λ (k : ℕ). number k f) (eqb-true w 0 a.0);
          keeps = λ n h.
              let z : n ≡ 0 = omega arith in
              rw z ((λ k. le_bytes 2 (eqb-true (tag (f 0)) i b.0 k) ++ nil_is (body (f 0)) c.0 k), not_is (wide (f 0)) c.1);
        }
    go (text f) q e = never (cc)
    go colour q e = never (cc)
