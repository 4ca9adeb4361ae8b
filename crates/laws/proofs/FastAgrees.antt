-- The fast step agrees with reading: where it answers, the token has that kind and length, and the held bytes give its value. Assumes nothing.
use Prim.Native.Nat.{ℕ, ◌+◌, ◌^◌, ◌≤◌, ◌<◌}
use native.Mathlib.Nat.{mod-lt}
use native.Mathlib.Omega.{arith}
use mathlib.Core.Path.{◌≡◌, refl, sym, ap, ◌∙◌}
use mathlib.Core.Bool.{Bool, true, false, not}
use mathlib.Core.List.{List, []}
use lib.ListN.{length, take, drop, length-drop}
use lib.Seq.{take_at, length-take-le}
use lib.Dec.{leb, eqb, lit≤, lit<}
use borrow.Author.Tests.{leb-true}
use mir.Syntax.{w32, w64}
use mir.Val.{to_z}
use Rattle.form.specs.Numbers.{le, le_bytes, Bytes}
use Rattle.form.specs.Values.{Value, Open, Close, Equal, U32, U64, F32, F64, Lookup, Id, I32, I64, Truth, Quoted, Unquoted, Rgb, kind}
use Rattle.form.specs.Table.{Payload, number, text, colour, table, entries, after}
use Rattle.form.specs.Readers.{found, and_then, mapped, at}
use Rattle.form.specs.Reading.{num, string, payload, token}
use Rattle.form.specs.Fast.{fast, front, step_number, step_text, step_by, fast_step}
use Rattle.form.specs.Writing.{over}
use Rattle.laws.proofs.Never.{never}
use Rattle.laws.proofs.LittleEndian.{length-bytes, le-bytes, le-take-lt, drop-bytes}
use Rattle.laws.proofs.Lookups.{InEach, by-table}
use Rattle.laws.proofs.Sound.{◌&◌, widen}
use Rattle.laws.proofs.Places.{num-there, at-giving, at_next, by-id, string-then}

-- how a value is got back from the held bytes h
abbrev pub Held : Value → List ℕ → Type 0
Held Open h = Unit {0}
Held Close h = Unit {0}
Held Equal h = Unit {0}
Held (U32 n) h = le (take 4 h) ≡ n
Held (U64 n) h = le (take 8 h) ≡ n
Held (F32 n) h = le (take 4 h) ≡ n
Held (F64 n) h = le (take 8 h) ≡ n
Held (Lookup n) h = le (take 8 h) ≡ n
Held (Id i) h = le (take 2 h) ≡ i
Held (I32 z) h = to_z w32 (le (take 4 h)) ≡ z
Held (I64 z) h = to_z w64 (le (take 8 h)) ≡ z
Held (Truth b) h = not (eqb (le (take 1 h)) 0) ≡ b
Held (Quoted t) h = le (take 2 h) ≡ length t
Held (Unquoted t) h = le (take 2 h) ≡ length t
Held (Rgb r g b a) h = ⊥

-- a number at the front is got back
front-le : (w n : ℕ) (held : List ℕ) → n < 256 ^ w → le (take w (over (le_bytes w n) held)) ≡ n
front-le w n held h = rw (take_at (le_bytes w n) (drop (length (le_bytes w n)) held) w (length-bytes w n)) (le-bytes w n h)

-- two zeros are the length of an empty string
zeros-le : (held : List ℕ) → le (take 2 (over (le_bytes 8 0) held)) ≡ 0
unfolding le le_bytes
zeros-le held = refl

-- ---- by the table

abbrev Told : Payload → Type 0
Told (number w f) = (w ≤ 8) × ((n : ℕ) (held : List ℕ) → n < 256 ^ w → Held (f n) (over (front (f n) n) held))
Told (text f) = ((t : List ℕ) → kind (f t) ≡ kind (f [])) × ((t h : List ℕ) → le (take 2 h) ≡ length t → Held (f t) h)
Told colour = Unit {0}

entries-told : InEach Told entries
unfolding entries table front kind
entries-told =
    (lit≤ tt, λ n held h. tt)
    & (lit≤ tt, λ n held h. tt)
    & (lit≤ tt, λ n held h. tt)
    & (lit≤ tt, λ n held h. front-le 4 n held h)
    & (lit≤ tt, λ n held h. ap (to_z w32) (front-le 4 n held h))
    & (lit≤ tt, λ n held h. front-le 4 n held h)
    & (lit≤ tt, λ n held h. front-le 8 n held h)
    & (lit≤ tt, λ n held h. ap (to_z w64) (front-le 8 n held h))
    & (lit≤ tt, λ n held h. front-le 8 n held h)
    & (lit≤ tt, λ n held h. ap (λ (x : ℕ). not (eqb x 0)) (front-le 1 n held h))
    & ((λ t. refl), λ t h e. e)
    & ((λ t. refl), λ t h e. e)
    & (lit≤ tt, λ n held h. let z : n ≡ 0 = omega arith in rw z (zeros-le held))
    & tt
    & (lit≤ tt, λ n held h. front-le 8 n held (omega arith))
    & (lit≤ tt, λ n held h. front-le 8 n held (omega arith))
    & (lit≤ tt, λ n held h. front-le 8 n held (omega arith))
    & (lit≤ tt, λ n held h. front-le 8 n held (omega arith))
    & (λ i lo hi. (omega arith, λ n held h. front-le 8 n held (widen 8 (omega arith) h)))
    & (λ i lo hi. (omega arith, λ n held h. front-le 8 _ held (mod-lt _ (lit< tt))))
    & tt

after-told : (i : ℕ) → i < 2 ^ 16 → Told (after i)
unfolding front
after-told i h = by-table Told entries-told i (λ e. (lit≤ tt, λ n held l. front-le 2 i held h))

-- ---- the theorem

-- the token that stands in the window
pub record Agrees (s : List ℕ) (k n : ℕ) (h : List ℕ) : Type 0 where
  pub value : Value
  pub reads : at token s 0 ≡ found value n
  pub kinds : kind value ≡ k
  pub holds : Held value h

-- the length of a string in the window
abbrev size : List ℕ → ℕ
size s = le (take 2 (drop 2 s))

module _ (s held : List ℕ) (bytes : Bytes s) (long : 16 ≤ length s) where
  after_two : (w : ℕ) → w ≤ 14 → w ≤ length (drop 2 s)
  after_two w h = rw length-drop (omega arith)

  small : (w : ℕ) → le (take w (drop 2 s)) < 256 ^ w
  small w = le-take-lt w (drop 2 s) (drop-bytes 2 s bytes)

  token-by : {p : Payload} → after (le (take 2 s)) ≡ p → at token s 0 ≡ at (payload p) s 2
  token-by e = by-id s 0 (num-there 2 s 0 (omega arith)) e

  number-agrees : (w : ℕ) (f : ℕ → Value) → Told (number w f) → after (le (take 2 s)) ≡ number w f → (k n : ℕ) → (step_by (number w f) s held).step ≡ fast k n
      → Agrees s k n (step_by (number w f) s held).held
  unfolding step_by step_number payload mapped
  number-agrees w f t e k n q =
      let x = le (take w (drop 2 s)) in
      let there : at token s 0 ≡ found (f x) (2 + w) =
      token-by e ∙ at-giving (num w) f s 2 ∙ ap (mapped f) (num-there w s 2 (after_two w (omega (arith, t.0)))) in
      let size : 2 + w ≡ n = cc in
      record { value = f x; reads = there ∙ ap (found (f x)) size; kinds = cc; holds = t.1 x held (small w) }

  module _ (f : List ℕ → Value) (t : Told (text f)) (e : after (le (take 2 s)) ≡ text f) (k n : ℕ) where
    text-agrees : (b : Bool) → leb (4 + size s) (length s) ≡ b → (step_text f (size s) (length s) held).step ≡ fast k n → Agrees s k n (step_text f (size s) (length s) held).held
    unfolding step_text payload mapped and_then
    text-agrees true l q =
        let there : size s ≤ length (drop 4 s) = rw length-drop (omega (arith, leb-true (4 + size s) (length s) l)) in
        let u = take (size s) (drop 4 s) in
        let read : at string s 2 ≡ found u (4 + size s) = string-then s 2 ∙ rw (num-there 2 s 2 (after_two 2 (lit≤ tt)), at_next (size s) s 4 there) in
        let all : at token s 0 ≡ found (f u) (4 + size s) = token-by e ∙ at-giving string f s 2 ∙ ap (mapped f) read in
        let q' : fast (kind (f [])) (4 + size s) ≡ fast k n = rw l at q in
        let count : 4 + size s ≡ n = cc in
        let long' : length u ≡ size s = length-take-le (size s) (drop 4 s) there in
        rw l (record {
          value = f u;
          reads = all ∙ ap (found (f u)) count;
          kinds = t.0 u ∙ cc;
          holds = t.1 u _ (front-le 2 (size s) held (small 2) ∙ sym long');
        })
    text-agrees false l q = let q' = rw l at q in never (cc)

  by-payload : (p : Payload) → Told p → after (le (take 2 s)) ≡ p → (k n : ℕ) → (step_by p s held).step ≡ fast k n → Agrees s k n (step_by p s held).held
  unfolding step_by
  by-payload (number w f) t e k n q = number-agrees w f t e k n q
  by-payload (text f) t e k n q = text-agrees f t e k n (leb (4 + size s) (length s)) refl q
  by-payload colour t e k n q = never (cc)

-- where the fast step answers, reading does, and says the same
pub fast-agrees : (s held : List ℕ) → Bytes s → {k n : ℕ} → (fast_step s held).step ≡ fast k n → Agrees s k n (fast_step s held).held
unfolding fast_step
fast-agrees s held b {k} {n} q = go (leb 16 (length s)) refl q
  where
    go : (t : Bool) → leb 16 (length s) ≡ t → (fast_step s held).step ≡ fast k n → Agrees s k n (fast_step s held).held
    go true l q =
        rw l (by-payload s held b (leb-true 16 (length s) l) (after (le (take 2 s))) (after-told (le (take 2 s)) (le-take-lt 2 s b)) refl k n (rw l at q))
    go false l q = let q' = rw l at q in never (cc)
