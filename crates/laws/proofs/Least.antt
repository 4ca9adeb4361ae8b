-- No spelling is shorter than the shortest, and none that is as long has a lower id: of all bytes that read to the value. Assumes nothing.
use Prim.Native.Nat.{ℕ, zero, suc, ◌+◌, ◌-◌, ◌^◌, ◌≤◌, ◌<◌}
use native.Mathlib.Omega.{arith}
use mathlib.Core.Path.{◌≡◌, refl, ap, ◌∙◌}
use mathlib.Core.Bool.{Bool, true, false, not, ◌&&◌, ◌||◌}
use mathlib.Core.Option.{none, some}
use mathlib.Core.List.{List, [], ◌∷◌, ◌++◌}
use mathlib.Core.Logic.{inl, inr}
use lib.ListN.{length, take, drop}
use lib.Seq.{take_at}
use lib.Dec.{T, leb, eqb, lit<, lit≤, leb→le}
use borrow.Author.Tests.{eqb-true}
use store.Enc.{and_l, and_r}
use Rattle.form.specs.Numbers.{pick, le, le_bytes, Bytes, negated}
use Rattle.form.specs.Values.{Value, Open, Close, Equal, U32, U64, F32, F64, Lookup, Id, Truth, Quoted, Unquoted, Rgb, signed32, signed64, nonzero, kind}
use Rattle.form.specs.Table.{Payload, number, text, colour, among, table, entries, after}
use Rattle.form.specs.Refusals.{WideLookup}
use Rattle.form.specs.Readers.{Answer, found, refused, ◌giving◌}
use Rattle.form.specs.Reading.{num, string, payload, token}
use Rattle.form.specs.Spelling.{tag, spelled_channel, spelled_alpha, body, spell, reason, writable, wide, InType}
use Rattle.form.specs.Shortest.{Width, otherwise, or_spelled, shortest, short_reason}
use Rattle.laws.proofs.LittleEndian.{length-bytes, le-bytes, drop-bytes}
use Rattle.laws.proofs.Found.{All, all-mapped, all_then, all-weaken, Number, num-found, Text, string-found, rgb-found}
use Rattle.laws.proofs.Lookups.{InEachAt, by-table-at}
use Rattle.laws.proofs.Reasons.{only-wide}
use Rattle.laws.proofs.Widths.{width, more_bytes}
use Rattle.laws.proofs.ShortSpellings.{float-compact, float_negated, float_plain, FloatCase, float-case, lookup_id, lookup-by, held-length, negated-twice, empty-is}
use Rattle.laws.proofs.Sound.{◌&◌, widen, Sound, token-sound}

-- the shortest spelling of v has at most m bytes after its id, and where it has as many an id that is no higher than i
abbrev Least : ℕ → ℕ → Value → Type 0
Least i m v = (length (shortest v) ≤ 2 + m) × (length (shortest v) ≡ 2 + m → le (take 2 (shortest v)) ≤ i)

-- ---- the id of a spelling

id-of : (i : ℕ) (bs : List ℕ) → i < 2 ^ 16 → le (take 2 (le_bytes 2 i ++ bs)) ≡ i
id-of i bs h = ap le (take_at (le_bytes 2 i) bs 2 (length-bytes 2 i)) ∙ le-bytes 2 i h

-- a number of w bytes after the id k
held-least : (v : Value) (k w n i m : ℕ) → shortest v ≡ le_bytes 2 k ++ le_bytes w n → k < 2 ^ 16 → w ≤ m → (w ≡ m → k ≤ i) → Least i m v
held-least v k w n i m e h l t =
    let z = held-length v k w n e in
    (omega arith, λ q. let x = ap (λ (bs : List ℕ). le (take 2 bs)) e ∙ id-of k (le_bytes w n) h in let y = t (omega arith) in omega (arith, x))

-- a value that is spelled as the writer does
spelled-least : (v : Value) (i m : ℕ) → otherwise v ≡ none → length (spell v) ≡ 2 + m → tag v < 2 ^ 16 → tag v ≤ i → Least i m v
unfolding shortest or_spelled spell
spelled-least v i m e l h t = rw e (omega (arith, l), λ q. omega (arith, id-of (tag v) (body v) h))

-- ---- the ids of an entry: the first is the lowest

abbrev all_from : ℕ → List ℕ → Bool
all_from k [] = true
all_from k (j ∷ js) = leb k j && all_from k js

among-from : (i k : ℕ) (ks : List ℕ) → T (all_from k ks) → T (among i ks) → k ≤ i
among-from i k [] a t = absurd t
among-from i k (j ∷ js) a t = go (eqb i j) refl t (among-from i k js (and_r (leb k j) (all_from k js) a))
  where
    go : (b : Bool) → eqb i j ≡ b → T (b || among i js) → (T (among i js) → k ≤ i) → k ≤ i
    go true e t f = let q = eqb-true i j e in let l = leb→le k j (and_l (leb k j) (all_from k js) a) in omega arith
    go false e t f = f t

-- ---- floats

compact-least : (i n : ℕ) → 0x0d47 ≤ i → i ≤ 0x0d4e → n < 256 ^ (i - 0x0d47) → Least i (i - 0x0d47) (F64 n)
compact-least i n lo hi h =
    let k = width (i - 0x0d47) n h in
    held-least (F64 n) (0x0d47 + k.0) k.0 n i (i - 0x0d47) (float-compact n k.0 k.2 (omega (arith, k.1))) (omega (arith, k.1)) k.1
    (λ q. omega arith)

negated-least : (i n : ℕ) → 0x0d4f ≤ i → i ≤ 0x0d55 → n < 256 ^ (i - 0x0d4e) → Least i (i - 0x0d4e) (F64 (negated n))
negated-least i zero lo hi h =
    held-least (F64 0) 0x0d47 0 0 i (i - 0x0d4e) (float-compact 0 0 (record { holds = lit< tt; least = λ j l. absurd (omega arith) }) (omega arith)) (lit< tt)
    (omega arith) (λ q. absurd (omega arith))
negated-least i (suc n) lo hi h =
    let k = width (i - 0x0d4e) (suc n) h in
    let small : suc n < 2 ^ 56 = widen 7 (omega arith) h in
    let back : negated (negated (suc n)) ≡ suc n = negated-twice (suc n) (omega arith) (omega arith) in
    let q : Width (negated (negated (suc n))) k.0 = rw back k.2 in
    let o : 1 ≤ k.0 = more_bytes {w = 0} (omega arith) k.2.holds in
    held-least (F64 (negated (suc n))) (0x0d4e + k.0) k.0 (negated (negated (suc n))) i (i - 0x0d4e)
    (float_negated (negated (suc n)) k.0 (omega arith) q o (omega (arith, k.1))) (omega (arith, k.1)) k.1 (λ z. omega arith)

plain-least : (i n : ℕ) → 0x0167 ≤ i → n < 256 ^ 8 → Least i 8 (F64 n)
unfolding spell tag body le_bytes
plain-least i n l h = go (float-case n h)
  where
    go : FloatCase n → Least i 8 (F64 n)
    go (inl (w, m, k)) = held-least (F64 n) (0x0d47 + w) w n i 8 (float-compact n w k m) (omega arith) (omega arith) (λ q. absurd (omega arith))
    go (inr (inl (w, g, o, m, k))) =
        held-least (F64 n) (0x0d4e + w) w (negated n) i 8 (float_negated n w g k o m) (omega arith) (omega arith) (λ q. absurd (omega arith))
    go (inr (inr (g, m))) = held-least (F64 n) 0x0167 8 n i 8 (float_plain n g m) (lit< tt) (lit≤ tt) (λ q. l)

-- ---- lookups

lookup-least : (u i n : ℕ) → 1 ≤ u → u ≤ 4 → lookup_id u ≤ i → n < 256 ^ u → Least i u (Lookup n)
lookup-least u i n l m t h =
    let w = (lookup-by n (widen 4 m h)).0 in
    let k = (lookup-by n (widen 4 m h)).1 in
    held-least (Lookup n) (lookup_id w) w n i u k.is k.short (k.least u l h) (λ q. rw q t)

-- ---- by the table

abbrev LeastBy : ℕ → Payload → Type 0
LeastBy i (number w f) = (n : ℕ) → n < 256 ^ w → Least i w (f n)
LeastBy i (text f) = (t : List ℕ) → Least i (2 + length t) (f t)
LeastBy i colour = 0x0243 ≤ i

quoted-least : (i : ℕ) → 0x000f ≤ i → (t : List ℕ) → Least i (2 + length t) (Quoted t)
unfolding otherwise spell tag body le_bytes
quoted-least i l [] = held-least (Quoted []) 0x0d42 0 0 i 2 empty-is (lit< tt) (lit≤ tt) (λ q. absurd (omega arith))
quoted-least i l (b ∷ t) = spelled-least (Quoted (b ∷ t)) i (2 + length (b ∷ t)) refl (omega arith) (lit< tt) l

-- an entry, in the table's order, to a line
entries-least : InEachAt LeastBy entries
unfolding entries table otherwise spell tag body le_bytes
entries-least =
    (λ i a n h. spelled-least Equal i 0 refl refl (lit< tt) (among-from i 0x0001 (0x0001 ∷ []) tt a))
    & (λ i a n h. spelled-least Open i 0 refl refl (lit< tt) (among-from i 0x0003 (0x0003 ∷ []) tt a))
    & (λ i a n h. spelled-least Close i 0 refl refl (lit< tt) (among-from i 0x0004 (0x0004 ∷ []) tt a))
    & (λ i a n h. spelled-least (U32 n) i 4 refl refl (lit< tt) (among-from i 0x0014 (0x0014 ∷ []) tt a))
    & (λ i a n h. spelled-least (signed32 n) i 4 refl refl (lit< tt) (among-from i 0x000c (0x000c ∷ []) tt a))
    & (λ i a n h. spelled-least (F32 n) i 4 refl refl (lit< tt) (among-from i 0x000d (0x000d ∷ []) tt a))
    & (λ i a n h. spelled-least (U64 n) i 8 refl refl (lit< tt) (among-from i 0x029c (0x029c ∷ []) tt a))
    & (λ i a n h. spelled-least (signed64 n) i 8 refl refl (lit< tt) (among-from i 0x0317 (0x0317 ∷ []) tt a))
    & (λ i a n h. plain-least i n (among-from i 0x0167 (0x0167 ∷ []) tt a) h)
    & (λ i a n h. spelled-least (nonzero n) i 1 refl refl (lit< tt) (among-from i 0x000e (0x000e ∷ []) tt a))
    & (λ i a t. quoted-least i (among-from i 0x000f (0x000f ∷ []) tt a) t)
    & (λ i a t. spelled-least (Unquoted t) i (2 + length t) refl (omega arith) (lit< tt) (among-from i 0x0017 (0x0017 ∷ 0x0d5e ∷ []) tt a))
    & (λ i a n h. held-least (Quoted []) 0x0d42 0 0 i 0 empty-is (lit< tt) (lit≤ tt) (λ q. among-from i 0x0d42 (0x0d42 ∷ []) tt a))
    & (λ i a. among-from i 0x0243 (0x0243 ∷ []) tt a)
    & (λ i a n h. lookup-least 1 i n (lit≤ tt) (lit≤ tt) (among-from i 0x0d40 (0x0d40 ∷ 0x0d43 ∷ 0x0d5a ∷ []) tt a) h)
    & (λ i a n h. lookup-least 2 i n (lit≤ tt) (lit≤ tt) (among-from i 0x0d3e (0x0d3e ∷ 0x0d44 ∷ 0x0d5b ∷ []) tt a) h)
    & (λ i a n h. lookup-least 3 i n (lit≤ tt) (lit≤ tt) (among-from i 0x0d41 (0x0d41 ∷ 0x0d45 ∷ 0x0d5c ∷ []) tt a) h)
    & (λ i a n h. lookup-least 4 i n (lit≤ tt) (lit≤ tt) (among-from i 0x0d3f (0x0d3f ∷ 0x0d46 ∷ 0x0d5d ∷ []) tt a) h)
    & (λ i lo hi n h. compact-least i n lo hi h)
    & (λ i lo hi n h. negated-least i n lo hi h)
    & tt

after-least : (i : ℕ) → i < 2 ^ 16 → LeastBy i (after i)
unfolding otherwise spell tag body le_bytes
after-least i h = by-table-at LeastBy entries-least i (λ e n l. spelled-least (Id i) i 0 refl refl h (omega arith))

three-least : (i r g b : ℕ) → 0x0243 ≤ i → Least i 22 (Rgb r g b none)
unfolding otherwise spell tag body le_bytes spelled_channel spelled_alpha
three-least i r g b l = spelled-least (Rgb r g b none) i 22 refl refl (lit< tt) l

four-least : (i r g b a : ℕ) → 0x0243 ≤ i → Least i 28 (Rgb r g b (some a))
unfolding otherwise spell tag body le_bytes spelled_channel spelled_alpha
four-least i r g b a l = spelled-least (Rgb r g b (some a)) i 28 refl refl (lit< tt) l

payload-least : (i : ℕ) (p : Payload) → LeastBy i p → (s : List ℕ) → Bytes s → All (λ v m. Least i m v) (payload p s)
unfolding payload ◌giving◌
payload-least i (number w f) F s h =
    all-mapped (Number w s) (λ v m. Least i m v) f (num w s) (num-found w s) (λ x n k. rw k.count (F x (k.small h)))
payload-least i (text f) F s h = all-mapped (Text s) (λ v m. Least i m v) f (string s) (string-found s) (λ t m k. rw k.count (F t))
payload-least i colour F s h = rgb-found (λ v m. Least i m v) s (λ r g b l k. three-least i r g b F) (λ r g b a l k. four-least i r g b a F)

-- ---- what is read

-- of the value v, read from n bytes at the front of s
pub record Short (s : List ℕ) (v : Value) (n : ℕ) : Type 0 where
  pub some : 2 ≤ n
  pub there : n ≤ length s
  pub typed : InType v
  -- it can be written so
  pub can : (p : ℕ) → short_reason p v ≡ none
  -- in no more bytes than it was read from, and, where in as many, by an id that is no higher
  pub short : length (shortest v) ≤ n
  pub lowest : length (shortest v) ≡ n → le (take 2 (shortest v)) ≤ le (take 2 s)

-- of what is read, a wide lookup alone has a reason, and that is none here
no-reason : (p : ℕ) (v : Value) → (T (not (wide v)) → T (writable v)) → short_reason p v ≡ none
unfolding short_reason wide
no-reason p v h = go (eqb (kind v) (kind (Lookup 0))) (writable v) (only-wide p v h)
  where
    go : (k w : Bool) → reason p v ≡ pick (k && not w) (some (WideLookup p)) none → pick k none (reason p v) ≡ none
    go true w e = refl
    go false w e = e

token-least : (s : List ℕ) → Bytes s → All (λ v n. (length (shortest v) ≤ n) × (length (shortest v) ≡ n → le (take 2 (shortest v)) ≤ le (take 2 s))) (token s)
unfolding token
token-least s h =
    all_then (Number 2 s) _ (num 2) _ s (num-found 2 s)
    (λ i n k. all-weaken (λ v m. Least i m v) (λ v m. (length (shortest v) ≤ n + m) × (length (shortest v) ≡ n + m → le (take 2 (shortest v)) ≤ le (take 2 s)))
    (payload (after i) (drop n s)) (payload-least i (after i) (after-least i (k.small h)) (drop n s) (drop-bytes n s h))
    (λ v m l. rw (k.count, ← k.is) l))

pub token-short : (s : List ℕ) → Bytes s → All (Short s) (token s)
token-short s h = go (token s) (token-sound s h) (token-least s h)
  where
    go : (a : Answer Value) → All (Sound s) a → All (λ v n. (length (shortest v) ≤ n) × (length (shortest v) ≡ n → le (take 2 (shortest v)) ≤ le (take 2 s))) a → All (Short s) a
    go (found v n) x y =
        record { some = x.some; there = x.there; typed = x.typed; can = λ p. no-reason p v x.can; short = y.0; lowest = y.1 }
    go (refused f) x y = tt

-- ---- (b) of ALL bytes that read to a value, and are used up by it

pub shortest-least : (v : Value) (bs : List ℕ) → Bytes bs → token bs ≡ found v (length bs)
    → (length (shortest v) ≤ length bs) × (length (shortest v) ≡ length bs → le (take 2 (shortest v)) ≤ le (take 2 bs))
shortest-least v bs h e = let k : Short bs v (length bs) = rw e at (token-short bs h) in (k.short, k.lowest)

-- a true is the byte 1
pub shortest-truths : (shortest (Truth true) ≡ 0x0e ∷ 0x00 ∷ 0x01 ∷ []) × (shortest (Truth false) ≡ 0x0e ∷ 0x00 ∷ 0x00 ∷ [])
unfolding shortest or_spelled otherwise spell tag body le_bytes
shortest-truths = (refl, refl)
