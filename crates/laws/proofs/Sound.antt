-- What is read from bytes can be spelled, but for wide lookups, and in at most five times the bytes. Assumes nothing.
use Prim.Native.Nat.{ℕ, ◌+◌, ◌*◌, ◌^◌, ◌≤◌, ◌<◌}
use native.Mathlib.Nat.{lt_of_lt_of_le, pow-le-pow_right, mod-lt}
use native.Mathlib.Omega.{arith}
use mathlib.Core.Bool.{Bool, true, false, not}
use mathlib.Core.Option.{none, some}
use mathlib.Core.List.{List}
use lib.ListN.{length, drop, length-drop}
use lib.Dec.{T, ltb, lit<, lt→ltb}
use mir.Syntax.{w32, w64}
use mir.ValLaws.{to_z-Fits}
use Rattle.form.specs.Numbers.{le_bytes, Bytes}
use Rattle.form.specs.Values.{Value, Lookup, Rgb, kind}
use Rattle.form.specs.Table.{Payload, number, text, colour, table, entries, after}
use Rattle.form.specs.Refusals.{LongString}
use Rattle.form.specs.Readers.{◌giving◌}
use Rattle.form.specs.Reading.{num, string, payload, token}
use Rattle.form.specs.Spelling.{tag, spelled_channel, spelled_alpha, body, spell, reason, writable, wide, InType}
use Rattle.laws.proofs.LittleEndian.{drop-bytes}
use Rattle.laws.proofs.Reasons.{passes}
use Rattle.laws.proofs.Found.{All, all-mapped, all_then, all-weaken, Number, num-found, Text, string-found, rgb-found}
use Rattle.laws.proofs.Lookups.{InEach, by-table}

-- ---- what is to be shown of a value whose payload has m bytes

abbrev Good : ℕ → Value → Type 0
Good m v = InType v × (T (not (wide v)) → T (writable v)) × (length (spell v) ≤ 5 * (2 + m))

record Fits (s : List ℕ) (v : Value) (m : ℕ) : Type 0 where
  there : m ≤ length s
  good : Good m v

module _ (s : List ℕ) (h : Bytes s) where
  three-fits : (r g b : ℕ) → 22 ≤ length s → (Bytes s → (r < 2 ^ 32) × (g < 2 ^ 32) × (b < 2 ^ 32)) → Fits s (Rgb r g b none) 22
  unfolding wide kind reason writable spell tag body le_bytes spelled_channel spelled_alpha
  three-fits r g b l k = let q = k h in record { there = l; good = ((q.0, q.1, q.2, tt), (λ t. tt), omega arith) }

  four-fits : (r g b a : ℕ) → 28 ≤ length s → (Bytes s → (r < 2 ^ 32) × (g < 2 ^ 32) × (b < 2 ^ 32) × (a < 2 ^ 32)) → Fits s (Rgb r g b (some a)) 28
  unfolding wide kind reason writable spell tag body le_bytes spelled_channel spelled_alpha
  four-fits r g b a l k = let q = k h in record { there = l; good = ((q.0, q.1, q.2, q.3), (λ t. tt), omega arith) }

-- ---- by the table

abbrev Fine : Payload → Type 0
Fine (number w f) = (n : ℕ) → n < 256 ^ w → Good w (f n)
Fine (text f) = (t : List ℕ) → Bytes t → length t < 65536 → Good (2 + length t) (f t)
Fine colour = Unit {0}

pub widen : {n w : ℕ} (k : ℕ) → w ≤ k → n < 256 ^ w → n < 256 ^ k
widen k h l = lt_of_lt_of_le l (pow-le-pow_right (lit< tt) h)

infixr 20 ◌&◌
pub ◌&◌ : {A B : Type 0} → A → B → A × B
a & b = (a, b)

narrow-lookup : (b : Bool) → T (not (not b)) → T b
narrow-lookup true t = tt
narrow-lookup false t = absurd t

-- an entry, in the table's order, to a line
entries-fine : InEach Fine entries
unfolding entries table wide kind reason writable spell tag body le_bytes
entries-fine =
    (λ n h. (tt, (λ t. tt), omega arith))
    & (λ n h. (tt, (λ t. tt), omega arith))
    & (λ n h. (tt, (λ t. tt), omega arith))
    & (λ n h. (h, (λ t. tt), omega arith))
    & (λ n h. (to_z-Fits w32 n (record { fits = h }), (λ t. tt), omega arith))
    & (λ n h. (h, (λ t. tt), omega arith))
    & (λ n h. (h, (λ t. tt), omega arith))
    & (λ n h. (to_z-Fits w64 n (record { fits = h }), (λ t. tt), omega arith))
    & (λ n h. (h, (λ t. tt), omega arith))
    & (λ n h. (tt, (λ t. tt), omega arith))
    & (λ t h l. (h, (λ _. passes (ltb (length t) 65536) (LongString 0) (lt→ltb _ _ l)), omega arith))
    & (λ t h l. (h, (λ _. passes (ltb (length t) 65536) (LongString 0) (lt→ltb _ _ l)), omega arith))
    & (λ n h. (tt, (λ t. tt), omega arith))
    & tt
    & (λ n h. (omega arith, narrow-lookup (writable (Lookup n)), omega arith))
    & (λ n h. (omega arith, narrow-lookup (writable (Lookup n)), omega arith))
    & (λ n h. (omega arith, narrow-lookup (writable (Lookup n)), omega arith))
    & (λ n h. (omega arith, narrow-lookup (writable (Lookup n)), omega arith))
    & (λ i lo hi n h. (widen 8 (omega arith) h, (λ t. tt), omega arith))
    & (λ i lo hi n h. (mod-lt _ (lit< tt), (λ t. tt), omega arith))
    & tt

after-fine : (i : ℕ) → i < 2 ^ 16 → Fine (after i)
unfolding wide kind reason writable spell tag body le_bytes
after-fine i h = by-table Fine entries-fine i (λ e n l. (h, (λ t. rw e tt), omega arith))

payload-sound : (p : Payload) → Fine p → (s : List ℕ) → Bytes s → All (Fits s) (payload p s)
unfolding payload ◌giving◌
payload-sound (number w f) F s h =
    all-mapped (Number w s) (Fits s) f (num w s) (num-found w s)
    (λ x n k. record { there = omega (arith, k.count, k.there); good = rw k.count (F x (k.small h)) })
payload-sound (text f) F s h =
    all-mapped (Text s) (Fits s) f (string s) (string-found s)
    (λ t m k. record { there = k.there; good = rw k.count (F t (k.bytes h) (k.short h)) })
payload-sound colour F s h = rgb-found (Fits s) s (three-fits s h) (four-fits s h)

-- what holds of each value that is read, and of the number of bytes that it took
pub record Sound (s : List ℕ) (v : Value) (n : ℕ) : Type 0 where
  pub some : 2 ≤ n
  pub there : n ≤ length s
  pub typed : InType v
  pub can : T (not (wide v)) → T (writable v)
  pub short : length (spell v) ≤ 5 * n

pub token-sound : (s : List ℕ) → Bytes s → All (Sound s) (token s)
unfolding token
token-sound s h =
    all_then (Number 2 s) (Sound s) (num 2) _ s (num-found 2 s)
    (λ i n k. all-weaken (Fits (drop n s)) (λ v m. Sound s v (n + m)) (payload (after i) (drop n s)) (payload-sound (after i) (after-fine i (k.small h)) (drop n s) (drop-bytes n s h))
    (λ v m l. record {
      some = omega (arith, k.count);
      there = omega (arith, k.count, k.there, l.there, length-drop n s);
      typed = l.good.0;
      can = l.good.1;
      short = rw k.count l.good.2;
    }))
