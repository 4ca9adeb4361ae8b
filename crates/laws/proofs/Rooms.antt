-- How long a save's dump and its normal form get: the room that always suffices. Assumes nothing.
use Prim.Native.Nat.{ℕ, zero, suc, ◌+◌, ◌*◌, ◌/◌, ◌^◌, ◌≤◌, ◌<◌}
use native.Mathlib.Omega.{arith}
use native.Mathlib.Nat.{pow-suc, mul-add, add-mul, mul-le-mul_left}
use mathlib.Core.Path.{◌≡◌, refl}
use mathlib.Core.Bool.{Bool, true, false, not}
use mathlib.Core.Option.{Option, none, some}
use mathlib.Core.List.{List, [], ◌∷◌, ◌++◌}
use lib.IntN.{ℤ, pos, negsuc, nat_abs}
use lib.Signed.{lt_z}
use lib.ListN.{length, drop, length-append, length-drop}
use lib.Dec.{ltb, eqb}
use borrow.Author.Tests.{le-leb, ltb-false}
use mir.Syntax.{w32, w64}
use mir.Val.{SFits, to_z}
use mir.ValLaws.{to_z-Fits}
use mir.Facts.{sfits_widen}
use Rattle.form.specs.Numbers.{pick, le_bytes, Bytes, negated}
use Rattle.form.specs.Values.{Value, U32, U64, Lookup, Id, Rgb}
use Rattle.form.specs.Table.{Payload, number, text, colour, table, entries, after}
use Rattle.form.specs.Refusals.{Refusal, Eof, InvalidRgb, LongString, WideLookup, ReservedId, NoRoom, BufferTooSmall, ReadFailed, BadPlace, TooLong, ListFull, BadIndex, Fault, too_short, bad_colour, refusal_value, refusal_values, refusal_at}
use Rattle.form.specs.Readers.{Answer, found, refused, ◌giving◌}
use Rattle.form.specs.Reading.{num, string, payload, token}
use Rattle.form.specs.Spelling.{reason}
use Rattle.form.specs.Saves.{step, walk_f, walk, tokens, normal, LIMIT, Clean}
use Rattle.form.specs.Writing.{written, fitted, first_refusal, unless, normalise}
use Rattle.form.specs.Keys.{Around, at_top, onward, Test, any_token, is_container, is_stray, is_key, kept_if, those, keys_of, count, Counts, counts}
use Rattle.form.specs.Ascii.{ascii, decimal_f, decimal, signed, hex, hex_or_dash, truth, spaced, line}
use Rattle.form.specs.Listing.{name, alpha_words, shown, token_line, count_words, end_line, refusal_word, error_line, lines_of, listing, list}
use Rattle.laws.proofs.LittleEndian.{drop-bytes}
use Rattle.laws.proofs.Found.{All, all-mapped, all_then, all-weaken, Number, num-found, Text, string-found, rgb-found}
use Rattle.laws.proofs.Lookups.{InEach, by-table}
use Rattle.laws.proofs.Sound.{◌&◌, widen}
use Rattle.laws.proofs.Normal.{normal-length}
use Rattle.laws.proofs.Normalising.{refusal-free}

-- ---- numbers, by how many digits hold them

digits-short : (f d n : ℕ) → n < 10 ^ suc d → length (decimal_f f n) ≤ suc d
unfolding decimal_f
digits-short zero d n h = omega arith
digits-short (suc f) d n h = rw length-append (go (ltb n 10) refl d h (λ j. digits-short f j (n / 10)))
  where
    go : (b : Bool) → ltb n 10 ≡ b → (d : ℕ) → n < 10 ^ suc d → ((j : ℕ) → n / 10 < 10 ^ suc j → length (decimal_f f (n / 10)) ≤ suc j)
        → length (pick b [] (decimal_f f (n / 10))) + 1 ≤ suc d
    go true e d h ih = omega arith
    go false e zero h ih = let l = ltb-false n 10 e in absurd (omega arith)
    go false e (suc d) h ih =
        let q : 10 ^ suc (suc d) ≡ 10 ^ suc d * 10 = pow-suc 10 (suc d) in
        omega (arith, ih d (omega arith))

decimal-short : (d n : ℕ) → n < 10 ^ suc d → length (decimal n) ≤ suc d
unfolding decimal
decimal-short d n h = digits-short (suc n) d n h

-- 20 digits hold whatever 64 bits do
wide_short : (n : ℕ) → n < 2 ^ 64 → length (decimal n) ≤ 20
wide_short n h = decimal-short 19 n (omega arith)

signed-short : (z : ℤ) → SFits w64 z → length (signed z) ≤ 21
unfolding signed
signed-short z h = go (lt_z z (pos 0)) (wide_short (nat_abs z) (small z h))
  where
    small : (z : ℤ) → SFits w64 z → nat_abs z < 2 ^ 64
    small (pos n) s = omega (arith, s.sfits)
    small (negsuc n) s = omega (arith, s.sfits)

    go : (b : Bool) → length (decimal (nat_abs z)) ≤ 20 → length (pick b (ascii "-" ++ decimal (nat_abs z)) (decimal (nat_abs z))) ≤ 21
    go true l = omega arith
    go false l = omega arith

-- ---- what shows a value of n bytes: 21 bytes for each two of them, of which compact numbers of no bytes have the most

hex-length : (bs : List ℕ) → length (hex bs) ≡ 2 * length bs
unfolding hex
hex-length [] = refl
hex-length (b ∷ bs) = omega (arith, hex-length bs)

dash-length : (bs : List ℕ) → length (hex_or_dash bs) ≤ 1 + 2 * length bs
unfolding hex_or_dash
dash-length [] = omega arith
dash-length (b ∷ bs) = omega (arith, hex-length (b ∷ bs))

truth-length : (b : Bool) → length (truth b) ≤ 5
unfolding truth
truth-length true = omega arith
truth-length false = omega arith

-- a kind's name and a value, with a space before each word
abbrev words : Value → List ℕ
words v = spaced (ascii (name v) ∷ shown v)

abbrev Brief : Value → ℕ → Type 0
Brief v n = 2 * length (words v) ≤ 21 * n

abbrev BriefBy : Payload → Type 0
BriefBy (number w f) = (n : ℕ) → n < 256 ^ w → Brief (f n) (2 + w)
BriefBy (text f) = (t : List ℕ) → Brief (f t) (2 + (2 + length t))
BriefBy colour = Unit {0}

number-brief : (f : ℕ → Value) (w : ℕ) → w ≤ 8 → ((n : ℕ) → length (decimal n) ≤ 20 → Brief (f n) (2 + w)) → BriefBy (number w f)
number-brief f w l h n k = h n (wide_short n (widen 8 l k))

-- an entry, in the table's order, to a line
entries-brief : InEach BriefBy entries
unfolding entries table name shown spaced le_bytes
entries-brief =
    (λ n h. omega arith)
    & (λ n h. omega arith)
    & (λ n h. omega arith)
    & number-brief U32 4 (omega arith) (λ n h. simp length-append (omega arith))
    & (λ n h. simp length-append (omega (arith, signed-short (to_z w32 n) (sfits_widen tt (to_z-Fits w32 n (record { fits = h }))))))
    & (λ n h. simp length-append (omega (arith, hex-length (le_bytes 4 n))))
    & number-brief U64 8 (omega arith) (λ n h. simp length-append (omega arith))
    & (λ n h. simp length-append (omega (arith, signed-short (to_z w64 n) (to_z-Fits w64 n (record { fits = h })))))
    & (λ n h. simp length-append (omega (arith, hex-length (le_bytes 8 n))))
    & (λ n h. simp length-append (omega (arith, truth-length (not (eqb n 0)))))
    & (λ t. simp length-append (omega (arith, dash-length t)))
    & (λ t. simp length-append (omega (arith, dash-length t)))
    & (λ n h. simp length-append (omega (arith, dash-length [])))
    & tt
    & number-brief Lookup 1 (omega arith) (λ n h. simp length-append (omega arith))
    & number-brief Lookup 2 (omega arith) (λ n h. simp length-append (omega arith))
    & number-brief Lookup 3 (omega arith) (λ n h. simp length-append (omega arith))
    & number-brief Lookup 4 (omega arith) (λ n h. simp length-append (omega arith))
    & (λ i lo hi n h. simp length-append (omega (arith, hex-length (le_bytes 8 n))))
    & (λ i lo hi n h. simp length-append (omega (arith, hex-length (le_bytes 8 (negated n)))))
    & tt

plain-brief : (i : ℕ) → i < 2 ^ 16 → Brief (Id i) 2
unfolding name shown spaced
plain-brief i h = simp length-append (omega (arith, decimal-short 4 i (omega arith)))

three-brief : (r g b : ℕ) → r < 2 ^ 32 → g < 2 ^ 32 → b < 2 ^ 32 → Brief (Rgb r g b none) 24
unfolding name shown alpha_words spaced
three-brief r g b k l m = simp length-append (omega (arith, wide_short r (omega arith), wide_short g (omega arith), wide_short b (omega arith)))

four-brief : (r g b a : ℕ) → r < 2 ^ 32 → g < 2 ^ 32 → b < 2 ^ 32 → a < 2 ^ 32 → Brief (Rgb r g b (some a)) 30
unfolding name shown alpha_words spaced
four-brief r g b a k l m n =
    simp length-append
    (omega (arith, wide_short r (omega arith), wide_short g (omega arith), wide_short b (omega arith), wide_short a (omega arith)))

after-brief : (i : ℕ) → i < 2 ^ 16 → BriefBy (after i)
after-brief i h = by-table BriefBy entries-brief i (λ e n l. plain-brief i h)

-- what is read from s takes two bytes at least, all of them of s, and is shown so
record Shown (s : List ℕ) (v : Value) (n : ℕ) : Type 0 where
  some : 2 ≤ n
  there : n ≤ length s
  brief : Brief v n

-- the same of what follows an id
record ShownAfter (s : List ℕ) (v : Value) (m : ℕ) : Type 0 where
  there : m ≤ length s
  brief : Brief v (2 + m)

payload-brief : (p : Payload) → BriefBy p → (s : List ℕ) → Bytes s → All (ShownAfter s) (payload p s)
unfolding payload ◌giving◌
payload-brief (number w f) F s h =
    all-mapped (Number w s) (ShownAfter s) f (num w s) (num-found w s)
    (λ x n k. record { there = omega (arith, k.count, k.there); brief = rw k.count (F x (k.small h)) })
payload-brief (text f) F s h =
    all-mapped (Text s) (ShownAfter s) f (string s) (string-found s)
    (λ t m k. record { there = k.there; brief = rw k.count (F t) })
payload-brief colour F s h =
    rgb-found (ShownAfter s) s
    (λ r g b l k. let q = k h in record { there = l; brief = three-brief r g b q.0 q.1 q.2 })
    (λ r g b a l k. let q = k h in record { there = l; brief = four-brief r g b a q.0 q.1 q.2 q.3 })

token-brief : (s : List ℕ) → Bytes s → All (Shown s) (token s)
unfolding token
token-brief s h =
    all_then (Number 2 s) (Shown s) (num 2) _ s (num-found 2 s)
    (λ i n k. all-weaken (ShownAfter (drop n s)) (λ v m. Shown s v (n + m)) (payload (after i) (drop n s))
    (payload-brief (after i) (after-brief i (k.small h)) (drop n s) (drop-bytes n s h))
    (λ v m l. record {
      some = omega (arith, k.count);
      there = omega (arith, k.count, k.there, l.there, length-drop n s);
      brief = rw k.count l.brief;
    }))

-- ---- lines, by how many digits hold a position

line-length : (d p : ℕ) (v : Value) → p < 10 ^ suc d → length (token_line p v) ≤ d + 2 + length (words v)
unfolding token_line line
line-length d p v l = simp length-append (omega (arith, decimal-short d p l))

-- the line of any refusal whose number has so many digits
pub error-length : (d : ℕ) (r : Refusal) → refusal_value r < 10 ^ suc d → length (error_line r) ≤ d + 13
unfolding error_line line spaced refusal_word
error-length d r h = simp length-append (omega (arith, decimal-short d (refusal_value r) h, word-length r))
  where
    word-length : (r : Refusal) → length (ascii (refusal_word r)) ≤ 4
    word-length (Eof p m) = omega arith
    word-length (InvalidRgb p) = omega arith
    word-length (LongString p) = omega arith
    word-length (WideLookup p) = omega arith
    word-length (ReservedId p) = omega arith
    word-length (NoRoom n) = omega arith
    word-length (BufferTooSmall p) = omega arith
    word-length (ReadFailed p) = omega arith
    word-length (BadPlace p) = omega arith
    word-length (TooLong n) = omega arith
    word-length (ListFull n) = omega arith
    word-length BadIndex = omega arith

fault-length : (d p : ℕ) (f : Fault) → p < 10 ^ suc d → length (error_line (refusal_at p f)) ≤ d + 13
unfolding refusal_at refusal_value refusal_values
fault-length d p (too_short m) h = error-length d (Eof p m) h
fault-length d p bad_colour h = error-length d (InvalidRgb p) h

end-length : (d n : ℕ) (c : Counts) → n < 10 ^ suc d → c.tokens ≤ n → c.containers ≤ n → c.keys ≤ n → c.strays ≤ n
    → length (end_line n c) ≤ 5 * d + 43
unfolding end_line count_words line spaced
end-length d n c l t o k z =
    let small : (k : ℕ) → k ≤ n → length (decimal k) ≤ suc d = λ k q. decimal-short d k (omega arith) in
    simp length-append (omega (arith, decimal-short d n l, small c.tokens t, small c.containers o, small c.keys k, small c.strays z))

-- a walk has no more tokens than steps
count_most : (test : Test) (a : Around) (k p : ℕ) (s : List ℕ) → count test a (walk_f k p s) ≤ k
unfolding count those walk_f step
count_most test a zero p s = omega arith
count_most test a (suc k) p [] = omega arith
count_most test a (suc k) p (b ∷ s) = go (token (b ∷ s)) (λ v n. count_most test (onward v a) k (p + n) (drop n (b ∷ s)))
  where
    one : (t : Bool) (x : ℕ × Value) (l : List (ℕ × Value)) → length l ≤ k → length (kept_if t x l) ≤ suc k
    one true x l h = omega arith
    one false x l h = omega arith

    go : (x : Answer Value) → ((v : Value) (n : ℕ) → count test (onward v a) (walk_f k (p + n) (drop n (b ∷ s))) ≤ k)
        → count test a (step p x (λ n. walk_f k (p + n) (drop n (b ∷ s)))) ≤ suc k
    go (found v n) ih = one (test a v (walk_f k (p + n) (drop n (b ∷ s)))) (p, v) _ (ih v n)
    go (refused f) ih = omega arith

-- ---- the whole

-- a line x of a token of n bytes, and the text y of what is left
sum : (d n rest s x y m : ℕ) → rest + n ≡ s → 2 ≤ n → 2 * x ≤ 2 * (d + 2) + 21 * n → 2 * y ≤ (d + 23) * rest + m → 2 * (x + y) ≤ (d + 23) * s + m
sum d n rest s x y m e h l t =
    let q : (d + 23) * s ≡ (d + 23) * rest + (d * n + 23 * n) = rw (← e, mul-add (d + 23) rest n, add-mul d 23 n) in
    omega (arith, q, mul-le-mul_left d h)

text-length : (d k p : ℕ) (s last : List ℕ) → Bytes s → p + length s < 10 ^ suc d → length last ≤ 5 * d + 43
    → 2 * length (lines_of last (walk_f k p s)) ≤ (d + 23) * length s + (10 * d + 86)
unfolding lines_of walk_f step
text-length d zero p s last h l m = omega arith
text-length d (suc k) p [] last h l m = omega arith
text-length d (suc k) p (b ∷ s) last h l m =
    go (token (b ∷ s)) (token-brief (b ∷ s) h) (λ n q. text-length d k (p + n) (drop n (b ∷ s)) last (drop-bytes n (b ∷ s) h) q m)
  where
    go : (a : Answer Value) → All (Shown (b ∷ s)) a
        → ((n : ℕ) → p + n + length (drop n (b ∷ s)) < 10 ^ suc d
        → 2 * length (lines_of last (walk_f k (p + n) (drop n (b ∷ s)))) ≤ (d + 23) * length (drop n (b ∷ s)) + (10 * d + 86))
        → 2 * length (lines_of last (step p a (λ n. walk_f k (p + n) (drop n (b ∷ s))))) ≤ (d + 23) * length (b ∷ s) + (10 * d + 86)
    go (found v n) x ih =
        let r = length-drop n (b ∷ s) in
        rw length-append
        (sum d n _ _ (length (token_line p v)) _ _ (omega (arith, x.there)) x.some
        (omega (arith, line-length d p v (omega arith), x.brief)) (ih n (omega (arith, x.there))))
    go (refused f) x ih = omega (arith, fault-length d p f (omega arith))

-- the dump of a save whose length has d + 1 digits
pub listing-length : (d : ℕ) (s : List ℕ) → Bytes s → length s < 10 ^ suc d → 2 * length (listing s) ≤ (d + 23) * length s + (10 * d + 86)
unfolding listing count counts keys_of walk
listing-length d s h l =
    let n = length s in
    let most : (test : Test) → count test at_top (walk_f n 0 s) ≤ n = λ test. count_most test at_top n 0 s in
    text-length d n 0 s (end_line n (counts (walk s))) h (omega arith)
    (end-length d n (counts (walk s)) l (most any_token) (most is_container) (most is_key) (most is_stray))

-- ---- where there is room

-- the whole dump is written
pub list-fits : (room : ℕ) (s : List ℕ) → length s ≤ LIMIT → length (listing s) ≤ room → list room s ≡ written (listing s)
unfolding list fitted
list-fits room s l h = rw (le-leb (length s) LIMIT l, le-leb (length (listing s)) room h)

-- in five times a save's bytes: its normal form is written, or it is refused for what it holds
pub normalise-fits : (room : ℕ) (s : List ℕ) → Bytes s → length s ≤ LIMIT → 5 * length s ≤ room
    → normalise room s ≡ unless (first_refusal reason (walk s)) (written (normal s))
unfolding normalise unless fitted tokens
normalise-fits room s b l h = rw (le-leb (length s) LIMIT l) (go (first_refusal reason (walk s)) refl)
  where
    go : (o : Option Refusal) → first_refusal reason (walk s) ≡ o → unless o (fitted room (normal s)) ≡ unless o (written (normal s))
    go none e =
        let k = refusal-free (walk s) e in
        let c : Clean s = record { limit = l; bytes = b; ends = k.0; narrow = k.1 } in
        rw (le-leb (length (normal s)) room (omega (arith, normal-length c)))
    go (some r) e = refl
