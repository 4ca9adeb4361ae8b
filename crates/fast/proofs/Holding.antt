-- What the fast step holds, by the payload of the id. Assumes nothing.
use Prim.Native.Nat.{ℕ, zero, suc, ◌+◌, ◌-◌, ◌*◌, ◌/◌, ◌%◌, ◌≤◌, ◌<◌, zero-le}
use native.Mathlib.Nat.{le_of_suc-le-suc, not-suc-le-zero}
use native.Mathlib.Omega.{arith}
use mathlib.Core.Path.{◌≡◌, refl, sym, ap, ◌∙◌}
use mathlib.Core.Bool.{Bool, true, false}
use Rattle.std.specs.Prelude.{Some, None}
use mathlib.Core.List.{List, [], ◌∷◌, ◌++◌, append-nil}
use lib.ListN.{length, take, drop, get_or, replicate, length-drop, drop_of_length-le}
use lib.Seq.{length-take-le}
use lib.Dec.{leb}
use borrow.Author.Tests.{le-leb, leb-true, leb-false}
use mir.Syntax.{w8, w64}
use mir.Val.{Fits}
use Rattle.form.specs.Numbers.{pick, le, le_bytes, Bytes, negated}
use Rattle.form.specs.Values as F
use Rattle.form.specs.Table.{Payload, number, text, nothing}
use Rattle.form.specs.Fast.{fast, slow, front, step_number, step_text, step_by}
use Rattle.form.specs.Writing.{over}
use Rattle.laws.proofs.Never.{never}
use Rattle.laws.proofs.LittleEndian.{length-bytes, number_same, take-bytes, drop-bytes, bytes-all}
use Rattle.form.specs.Refusals.{Fault}
use Rattle.form.specs.Readers.{found, refused, mapped, at, placed}
use Rattle.form.specs.Reading.{num, string}
use Rattle.laws.proofs.Places.{num-there, string-there, string-short}
use Rattle.payload.specs.Answers.{text_of}
use Rattle.payload.specs.Compact.{signed_by, compact}
use Rattle.payload.specs.declared.answers.Text.{Text}
use Rattle.lexeme.specs.Kinds.{kind_number}
use Rattle.lexeme.specs.declared.TokenKind.{TokenKind}
use Rattle.lexeme.specs.declared.TokenKind.TheVariants.{Lookup, F64, Id}
use Rattle.fast.specs.Steps.{stepped, slowly, alone_of, named_of, copied, compactly, texted_by, texted}
use Rattle.fast.specs.declared.FastToken.{FastToken}

-- ---- the count of bytes in a range of ids

pub at-most-7 : (x b : ℕ) → x < b + 8 → x - b ≤ 7
at-most-7 x b h = omega arith

pub narrow : (x b : ℕ) → x < b + 8 → Fits w64 (x - b)
narrow x b h = omega arith

-- ---- numbers over the front of eight bytes

-- a number spelled in as many bytes as it was read from
as_read : (w : ℕ) (t held : List ℕ) → Bytes t → w ≤ length t → over (le_bytes w (le (take w t))) held ≡ take w t ++ drop w held
as_read w t held b h = rw (number_same t b w h, length-take-le w t h)

-- and in more bytes: zeros come after
wider : (n : ℕ) (u : List ℕ) → length u ≤ n → Bytes u → le_bytes n (le u) ≡ u ++ drop (length u) (replicate n 0)
unfolding le le_bytes
wider zero [] h b = refl
wider zero (x ∷ u) h b = absurd (not-suc-le-zero h)
wider (suc n) [] h b = ap (λ (t : List ℕ). 0 ∷ t) (wider n [] zero-le tt)
wider (suc n) (x ∷ u) h b =
    let low : (x + 256 * le u) % 256 ≡ x = omega (arith, b.0) in
    let high : (x + 256 * le u) / 256 ≡ le u = omega (arith, b.0) in
    rw (low, high, wider n u (le_of_suc-le-suc h) b.1)

all-eight : (x : ℕ) (held : List ℕ) → length held ≡ 8 → over (le_bytes 8 x) held ≡ le_bytes 8 x
all-eight x held e =
    let none : drop 8 held ≡ [] = drop_of_length-le held {i = 8} (omega arith) in
    rw (length-bytes 8 x, none) (append-nil (le_bytes 8 x))

-- ---- by the payload

-- what is known where the window is long enough
pub record Ready (s held : List ℕ) : Type 0 where
  pub bytes : (i : ℕ) → Fits w8 (get_or s i 0)
  pub long : 16 ≤ length s
  pub eight : length held ≡ 8

module _ {s held : List ℕ} (r : Ready s held) where
  bytes : Bytes s
  bytes = bytes-all s r.bytes

  room : {w : ℕ} → w ≤ 8 → w ≤ length (drop 2 s)
  room {w} h = rw length-drop (omega (arith, r.long))

  -- a number that is held as it stands
  pub copy-arm : (w : ℕ) (f : ℕ → F.Value) (k : TokenKind) → w ≤ 8 → ((n : ℕ) → F.kind (f n) ≡ kind_number k) → ((n : ℕ) → front (f n) n ≡ le_bytes w n)
      → stepped (copied k w s held) ≡ step_by (number w f) s held
  unfolding step_by step_number
  copy-arm w f k h kinds fronts =
      rw (kinds (le (take w (drop 2 s))), fronts (le (take w (drop 2 s))), as_read w (drop 2 s) held (drop-bytes 2 s bytes) (room h))

  -- a lookup: eight bytes
  pub lookup-arm : (w : ℕ) → w ≤ 8 → stepped (copied Lookup w s (replicate 8 0)) ≡ step_by (number w F.Lookup) s held
  unfolding step_by step_number front F.kind
  lookup-arm w h =
      let t = take w (drop 2 s) in
      let size : length t ≡ w = length-take-le w (drop 2 s) (room h) in
      let spelled : le_bytes 8 (le t) ≡ t ++ drop w (replicate 8 0) =
      wider 8 t (rw size h) (take-bytes w (drop 2 s) (drop-bytes 2 s bytes)) ∙ ap (λ (k : ℕ). t ++ drop k (replicate 8 0)) size in
      rw (all-eight (le t) held r.eight, spelled)

  -- a compact number: its eight bytes
  pub compact-arm : (w : ℕ) → stepped (compactly w false s) ≡ step_by (number w F.F64) s held
  unfolding step_by step_number front F.kind
  compact-arm w = rw (all-eight (le (take w (drop 2 s))) held r.eight)

  pub negated-arm : (w : ℕ) → stepped (compactly w true s) ≡ step_by (number w F.negative) s held
  unfolding step_by step_number front F.kind
  negated-arm w = rw (all-eight (negated (le (take w (drop 2 s)))) held r.eight)

  -- a string: its length
  pub text-arm : (f : List ℕ → F.Value) (k : TokenKind) → F.kind (f []) ≡ kind_number k → stepped (texted k s held) ≡ step_by (text f) s held
  unfolding step_by step_text
  text-arm f k kinds = rw (kinds, as_read 2 (drop 2 s) held (drop-bytes 2 s bytes) (room (omega arith))) (go (leb (4 + le (take 2 (drop 2 s))) (length s)))
    where
      go : (b : Bool) → stepped (pick b (record { step = Some (k, 4 + le (take 2 (drop 2 s))); held = take 2 (drop 2 s) ++ drop 2 held }) (record { step = None; held = held }))
          ≡ pick b (record { step = fast (kind_number k) (4 + le (take 2 (drop 2 s))); held = take 2 (drop 2 s) ++ drop 2 held }) (record { step = slow; held = held })
      go true = refl
      go false = refl

  -- nothing follows: held stays, or is all zeros, or the plain id
  pub alone-arm : (v : F.Value) (k : TokenKind) (after-it : List ℕ) → F.kind v ≡ kind_number k → over (front v 0) held ≡ after-it
      → stepped (alone_of k after-it) ≡ step_by (nothing v) s held
  unfolding step_by step_number le
  alone-arm v k after-it kinds fronts = rw (kinds, fronts)

  pub zeros-held : over (front (F.Quoted []) 0) held ≡ replicate 8 0
  unfolding front le_bytes
  zeros-held = all-eight 0 held r.eight

  pub id-arm : (i : ℕ) → i ≡ le (take 2 s) → stepped (named_of s held) ≡ step_by (nothing (F.Id i)) s held
  unfolding F.kind front
  id-arm i q = alone-arm (F.Id i) Id (take 2 s ++ drop 2 held) refl (rw q (as_read 2 s held bytes (omega (arith, r.long))))

-- an arm: what was answered, by the payload that the id has
pub arm-by : (s held : List ℕ) {x y : FastToken} {q p : Payload} → x ≡ y → q ≡ p → stepped y ≡ step_by p s held → stepped x ≡ step_by q s held
arm-by s held e k h = ap stepped e ∙ h ∙ ap (λ (p : Payload). step_by p s held) (sym k)

-- ---- what the payload reads give in a window of 16 bytes or more

module _ (s : List ℕ) (long : 16 ≤ length s) where
  id-there : at (num 2) s 0 ≡ found (le (take 2 s)) 2
  id-there = num-there 2 s 0 (omega arith)

  pub id-got : {x n : ℕ} → at (num 2) s 0 ≡ found x n → x ≡ le (take 2 s)
  id-got e = let d = sym e ∙ id-there in cc

  pub id-never : {A : Type 0} {why : Fault} → at (num 2) s 0 ≡ refused why → A
  id-never e = let d = sym e ∙ id-there in never (cc)

  module _ (w : ℕ) (small : w ≤ 7) (negative : Bool) where
    compact-there : compact w negative s 2 ≡ found (signed_by negative (le (take w (drop 2 s)))) (2 + w)
    unfolding mapped
    compact-there = rw (le-leb w 7 small, num-there w s 2 (rw length-drop (omega arith)))

    pub compact-got : {x n : ℕ} → compact w negative s 2 ≡ found x n → record { step = Some (F64, n); held = le_bytes 8 x } ≡ compactly w negative s
    compact-got {x} {n} e =
        let d = sym e ∙ compact-there in
        let a : x ≡ signed_by negative (le (take w (drop 2 s))) = cc in
        let b : n ≡ 2 + w = cc in
        rw (a, b)

    pub compact-never : {A : Type 0} {why : Fault} → compact w negative s 2 ≡ refused why → A
    compact-never e = let d = sym e ∙ compact-there in never (cc)

  abbrev size : ℕ
  size = le (take 2 (drop 2 s))

  sized : at (num 2) s 2 ≡ found size 4
  sized = num-there 2 s 2 (rw length-drop (omega arith))

  -- where a string is read, all of it is there
  text-there : {x : Text} {n : ℕ} → placed text_of (at string s 2) ≡ found x n → (x ≡ record { start = 4; len = size }) × (4 + size ≤ length s)
  unfolding placed
  text-there {x} {n} e = go (leb (4 + size) (length s)) refl
    where
      go : (b : Bool) → leb (4 + size) (length s) ≡ b → (x ≡ record { start = 4; len = size }) × (4 + size ≤ length s)
      go true t =
          let d = sym (string-there (λ a m. record { start = a; len = m }) s 2 sized (rw length-drop (omega (arith, leb-true (4 + size) (length s) t)))) ∙ e in
          (cc, leb-true (4 + size) (length s) t)
      go false t =
          let d = sym (ap (placed text_of) (string-short s 2 sized (rw length-drop (omega (arith, leb-false (4 + size) (length s) t))))) ∙ e in
          never (cc)

  pub text-within : {x : Text} {n : ℕ} → placed text_of (at string s 2) ≡ found x n → 4 + x.len ≤ length s
  text-within e = let d = text-there e in rw d.0 d.1

  module _ (k : TokenKind) (held : List ℕ) where
    pub text-got : {x : Text} {n : ℕ} → placed text_of (at string s 2) ≡ found x n → record { step = Some (k, 4 + x.len); held = take 2 (drop 2 s) ++ drop 2 held } ≡ texted k s held
    text-got e = let d = text-there e in rw (le-leb (4 + size) (length s) d.1, d.0)

    pub text-slow : {why : Fault} → placed text_of (at string s 2) ≡ refused why → slowly held ≡ texted k s held
    unfolding placed
    text-slow {why} e = go (leb (4 + size) (length s)) refl
      where
        go : (b : Bool) → leb (4 + size) (length s) ≡ b → slowly held ≡ texted_by k size s held
        go true t =
            let d = sym (string-there (λ a m. record { start = a; len = m }) s 2 sized (rw length-drop (omega (arith, leb-true (4 + size) (length s) t)))) ∙ e in
            cc
        go false t = rw t
