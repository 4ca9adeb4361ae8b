-- Reading what was spelled gives it back. Assumes nothing.
use Prim.Native.Nat.{ℕ, ◌+◌, ◌^◌, ◌≤◌, ◌<◌}
use native.Mathlib.Omega.{arith}
use mathlib.Core.Path.{◌≡◌, refl, ap, ◌∙◌}
use mathlib.Core.Bool.{Bool, true, false, not}
use mathlib.Core.Option.{Option, none, some}
use mathlib.Core.List.{List, ◌++◌, append_assoc}
use lib.ListN.{length, length-append}
use lib.Seq.{take_at, drop_at}
use lib.Dec.{T, ltb, eqb, lit<, ltb→lt}
use lib.IntN.{ℤ}
use mir.Syntax.{w32, w64}
use mir.Val.{to_z, of_z}
use mir.ValLaws.{to_z-of_z, of_z_fits}
use borrow.Author.Tests.{le-leb}
use Rattle.form.specs.Numbers.{le_bytes}
use Rattle.form.specs.Values.{Value, Open, Close, Equal, U32, U64, F32, F64, Lookup, Id, I32, I64, Truth, Quoted, Unquoted, Rgb, kind}
use Rattle.form.specs.Table.{number, text, table, entries, find, or_plain, after, reserved}
use Rattle.form.specs.Ids.{OPEN, CLOSE, CHANNEL}
use Rattle.form.specs.Refusals.{LongString, WideLookup}
use Rattle.form.specs.Readers.{Answer, found, Reader, further, and_then, mapped, ◌followed-by◌, ◌giving◌, give}
use Rattle.form.specs.Reading.{next, num, string, Channel, channel, alpha_end, with_alpha, ending, headed, judged, channels, rgb, payload, token}
use Rattle.form.specs.Spelling.{tag, spelled_channel, spelled_alpha, bit, body, spell, reason, writable, InType}
use Rattle.laws.proofs.Found.{piece-there}
use Rattle.laws.proofs.LittleEndian.{length-bytes, le-bytes}
use Rattle.laws.proofs.Lookups.{plain-after, open_is, close-is, channel-is}
use Rattle.laws.proofs.Reasons.{passed}
use Rattle.laws.proofs.Tags.{unreserved}

-- ---- bytes, numbers and texts

next-back : (t s : List ℕ) (n : ℕ) → length t ≡ n → next n (t ++ s) ≡ found t n
unfolding next
next-back t s n e = rw (le-leb n (length (t ++ s)) (omega (arith, length-append t s)), take_at t s n e)

num-back : (w n : ℕ) → n < 256 ^ w → (s : List ℕ) → num w (le_bytes w n ++ s) ≡ found n w
unfolding num ◌giving◌ mapped
num-back w n h s = rw (next-back (le_bytes w n) s w (length-bytes w n), le-bytes w n h)

-- what f reads of t, and then g of what follows
then-back : {A B : Type 0} (f : Reader A) (g : A → Reader B) (t s : List ℕ) {a : A} {n : ℕ} → length t ≡ n → f (t ++ s) ≡ found a n
    → (f followed-by g) (t ++ s) ≡ further n (g a s)
unfolding ◌followed-by◌ and_then
then-back f g t s {a} {n} l e = rw (e, drop_at t s n l)

num-then : {B : Type 0} (w n : ℕ) (g : ℕ → Reader B) → n < 256 ^ w → (s : List ℕ) → (num w followed-by g) (le_bytes w n ++ s) ≡ further w (g n s)
num-then w n g h s = then-back (num w) g (le_bytes w n) s (length-bytes w n) (num-back w n h s)

string-back : (t s : List ℕ) → T (ltb (length t) 65536) → string (le_bytes 2 (length t) ++ (t ++ s)) ≡ found t (2 + length t)
unfolding string further
string-back t s h = num-then 2 (length t) next (ltb→lt _ _ h) (t ++ s) ∙ ap (further 2) (next-back t s (length t) refl)

-- ---- a colour

abbrev channel_of : ℕ → Channel
channel_of n = record { tag = CHANNEL; value = n }

open-lt : OPEN < 256 ^ 2
open-lt = rw open_is (lit< tt)

close-lt : CLOSE < 256 ^ 2
close-lt = rw close-is (lit< tt)

channel-lt : CHANNEL < 256 ^ 2
channel-lt = rw channel-is (lit< tt)

channel-back : (n : ℕ) → n < 2 ^ 32 → (s : List ℕ) → channel (spelled_channel n ++ s) ≡ found (channel_of n) 6
unfolding channel spelled_channel further mapped ◌giving◌
channel-back n h s =
    rw (append_assoc (le_bytes 2 CHANNEL) (le_bytes 4 n) s)
    (num-then 2 CHANNEL (λ i. num 4 giving (λ n. record { tag = i; value = n })) channel-lt (le_bytes 4 n ++ s)
    ∙ ap (λ (x : Answer ℕ). further 2 (mapped (λ n. channel_of n) x)) (num-back 4 n h s))

pub channel-length : (n : ℕ) → length (spelled_channel n) ≡ 6
unfolding spelled_channel le_bytes
channel-length n = refl

channel-then : {B : Type 0} (n : ℕ) (g : Channel → Reader B) → n < 2 ^ 32 → (s : List ℕ) → (channel followed-by g) (spelled_channel n ++ s) ≡ further 6 (g (channel_of n) s)
channel-then n g h s = then-back channel g (spelled_channel n) s (channel-length n) (channel-back n h s)

alpha-fits : (a : ℕ) (s : List ℕ) → 6 ≤ length (le_bytes 4 a ++ (le_bytes 2 CLOSE ++ s))
unfolding le_bytes
alpha-fits a s = omega arith

colour-fits : (r g b : ℕ) (a : Option ℕ) (s : List ℕ) → 22 ≤ length (body (Rgb r g b a) ++ s)
unfolding body spelled_channel spelled_alpha le_bytes
colour-fits r g b none s = omega arith
colour-fits r g b (some a) s = omega arith

alpha-back : (r g b a : ℕ) → a < 2 ^ 32 → (s : List ℕ) → with_alpha r g b (le_bytes 4 a ++ (le_bytes 2 CLOSE ++ s)) ≡ found (Rgb r g b (some a)) 6
unfolding with_alpha alpha_end further give
alpha-back r g b a h s =
    let c : CLOSE < 256 ^ 2 = close-lt in
    piece-there 6 (alpha_end r g b) _ (alpha-fits a s) ∙ rw (num-then, num-then, close-is)

-- the first four ids are right
head-right : headed OPEN CHANNEL CHANNEL CHANNEL ≡ true
unfolding headed
head-right = rw (open_is, channel-is)

rgb3-back : (r g b : ℕ) → r < 2 ^ 32 → g < 2 ^ 32 → b < 2 ^ 32 → (s : List ℕ) → rgb (body (Rgb r g b none) ++ s) ≡ found (Rgb r g b none) 22
unfolding rgb channels body judged ending spelled_alpha further give
rgb3-back r g b hr hg hb s =
    let o : OPEN < 256 ^ 2 = open-lt in
    let c : CLOSE < 256 ^ 2 = close-lt in
    piece-there 22 channels _ (colour-fits r g b none s) ∙ simp append_assoc (rw (num-then, channel-then, channel-then, channel-then, num-then, head-right, close-is))

fourth-ends : (r g b : ℕ) → ending CHANNEL r g b ≡ with_alpha r g b
unfolding ending
fourth-ends r g b = rw (channel-is, close-is)

fourth-back : (r g b a : ℕ) → a < 2 ^ 32 → (s : List ℕ)
    → (num 2 followed-by judged OPEN (channel_of r) (channel_of g) (channel_of b)) (spelled_channel a ++ (le_bytes 2 CLOSE ++ s)) ≡ found (Rgb r g b (some a)) 8
unfolding judged spelled_channel further
fourth-back r g b a ha s =
    let c : CHANNEL < 256 ^ 2 = channel-lt in
    simp append_assoc (rw (num-then, head-right, fourth-ends, alpha-back))

rgb4-back : (r g b a : ℕ) → r < 2 ^ 32 → g < 2 ^ 32 → b < 2 ^ 32 → a < 2 ^ 32 → (s : List ℕ) → rgb (body (Rgb r g b (some a)) ++ s) ≡ found (Rgb r g b (some a)) 28
unfolding rgb channels body spelled_alpha further
rgb4-back r g b a hr hg hb ha s =
    let o : OPEN < 256 ^ 2 = open-lt in
    piece-there 22 channels _ (colour-fits r g b (some a) s) ∙ simp append_assoc (rw (num-then, channel-then, channel-then, channel-then, fourth-back))

-- ---- a token

id-back : (i : ℕ) → i < 2 ^ 16 → (s : List ℕ) → token (le_bytes 2 i ++ s) ≡ further 2 (payload (after i) s)
unfolding token
id-back i h s = num-then 2 i (λ i. payload (after i)) h s

-- a number of w bytes, spelled by an id that says so
pub number-back : (i w n : ℕ) (f : ℕ → Value) → i < 2 ^ 16 → after i ≡ number w f → n < 256 ^ w → (s : List ℕ) → token (le_bytes 2 i ++ (le_bytes w n ++ s)) ≡ found (f n) (2 + w)
unfolding payload ◌giving◌ mapped further
number-back i w n f hi e h s = id-back i hi (le_bytes w n ++ s) ∙ rw (e, num-back w n h s)

text-back : (i : ℕ) (f : List ℕ → Value) (t : List ℕ) → i < 2 ^ 16 → after i ≡ text f → T (ltb (length t) 65536) → (s : List ℕ)
    → token (le_bytes 2 i ++ (le_bytes 2 (length t) ++ (t ++ s))) ≡ found (f t) (4 + length t)
unfolding payload ◌giving◌ mapped further
text-back i f t hi e h s = id-back i hi (le_bytes 2 (length t) ++ (t ++ s)) ∙ rw (e, string-back t s h) (ap (found (f t)) (omega arith))

bit-back : (b : Bool) → not (eqb (bit b) 0) ≡ b
bit-back true = refl
bit-back false = refl

bit-lt : (b : Bool) → bit b < 256
bit-lt true = lit< tt
bit-lt false = lit< tt

-- THE KEY: what is spelled reads back, whatever follows
pub reads-back : (v : Value) → InType v → T (writable v) → (s : List ℕ) → token (spell v ++ s) ≡ found v (length (spell v))
unfolding spell tag body le_bytes spelled_channel spelled_alpha after find entries table or_plain reason writable further payload kind
reads-back Open h w s = number-back 3 0 0 (λ _. Open) (lit< tt) refl (lit< tt) s
reads-back Close h w s = number-back 4 0 0 (λ _. Close) (lit< tt) refl (lit< tt) s
reads-back Equal h w s = number-back 1 0 0 (λ _. Equal) (lit< tt) refl (lit< tt) s
reads-back (U32 n) h w s = number-back 0x14 4 n U32 (lit< tt) refl h s
reads-back (U64 n) h w s = number-back 0x29c 8 n U64 (lit< tt) refl h s
reads-back (F32 n) h w s = number-back 0xd 4 n F32 (lit< tt) refl h s
reads-back (F64 n) h w s = number-back 0x167 8 n F64 (lit< tt) refl h s
reads-back (Lookup n) h w s = number-back 0xd41 3 n Lookup (lit< tt) refl (ltb→lt _ _ (passed (ltb n (2 ^ 24)) (WideLookup 0) w)) s
reads-back (Id i) h w s = number-back i 0 0 (λ _. Id i) h (plain-after i (unreserved (reserved i) _ w)) (lit< tt) s
reads-back (I32 z) h w s = number-back 0xc 4 (of_z w32 z) (λ n. I32 (to_z w32 n)) (lit< tt) refl (of_z_fits w32 z h).fits s ∙ ap (λ (y : ℤ). found (I32 y) 6) (to_z-of_z w32 z h)
reads-back (I64 z) h w s = number-back 0x317 8 (of_z w64 z) (λ n. I64 (to_z w64 n)) (lit< tt) refl (of_z_fits w64 z h).fits s ∙ ap (λ (y : ℤ). found (I64 y) 10) (to_z-of_z w64 z h)
reads-back (Truth b) h w s = number-back 0xe 1 (bit b) (λ n. Truth (not (eqb n 0))) (lit< tt) refl (bit-lt b) s ∙ ap (λ (c : Bool). found (Truth c) 3) (bit-back b)
reads-back (Quoted t) h w s = text-back 0xf Quoted t (lit< tt) refl (passed (ltb (length t) 65536) (LongString 0) w) s ∙ ap (found (Quoted t)) (omega arith)
reads-back (Unquoted t) h w s = text-back 0x17 Unquoted t (lit< tt) refl (passed (ltb (length t) 65536) (LongString 0) w) s ∙ ap (found (Unquoted t)) (omega arith)
reads-back (Rgb r g b none) h w s = id-back 0x243 (lit< tt) (body (Rgb r g b none) ++ s) ∙ ap (further 2) (rgb3-back r g b h.0 h.1 h.2 s)
reads-back (Rgb r g b (some a)) h w s = id-back 0x243 (lit< tt) (body (Rgb r g b (some a)) ++ s) ∙ ap (further 2) (rgb4-back r g b a h.0 h.1 h.2 h.3 s)
