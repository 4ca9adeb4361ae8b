-- The laws of numbers, bytes and words as text. Assumes nothing.
use mathlib.Core.Path.{◌≡◌, refl, sym, ap, ◌∙◌}
use mathlib.Core.Bool.{Bool, true, false}
use mathlib.Core.List.{List, [], ◌∷◌, ◌++◌, append-nil, append_assoc}
use Prim.Native.Nat.{ℕ, zero, suc, ◌+◌, ◌-◌, ◌/◌, ◌%◌, ◌≤◌, ◌<◌}
use native.Mathlib.Nat.{not-suc-le-zero, mod-lt}
use native.Mathlib.Numerals.{add-one, sub-one}
use native.Mathlib.Omega.{arith}
use lib.Dec.{ltb, lit<}
use lib.ListN.{length, drop, get_or, drop_of_length-le}
use lib.Seq.{drop-cons}
use borrow.Author.Tests.{lt-ltb, le-ltb, ltb-false}
use Rattle.form.specs.Numbers.{pick, le_bytes}
use Rattle.form.specs.Ascii.{ascii, digit, decimal_f, decimal, hex, hex_or_dash, spaced}
use Rattle.text.specs.declared.Printer.{Printer}
use Rattle.text.specs.Puts.{Puts}
use Rattle.text.proofs.Pending.{puts_then}

-- what is left of src
pub drop-one : (src : List ℕ) (j : ℕ) → j < length src → drop j src ≡ (get_or src j 0 ∷ []) ++ drop (j + 1) src
drop-one src j h = rw (drop-cons src j 0 h, add-one j)

-- ---- decimal digits

before_same : (b : Bool) (n : ℕ) (f g : ℕ → List ℕ) → (b ≡ false → f (n / 10) ≡ g (n / 10)) → ◌≡◌ {A = List ℕ} (pick b [] (f (n / 10))) (pick b [] (g (n / 10)))
before_same true n f g e = refl
before_same false n f g e = e refl

-- any count that is large enough gives the same
decimal-same : (k m n : ℕ) → n < k → n < m → decimal_f k n ≡ decimal_f m n
unfolding decimal_f
decimal-same zero m n p q = absurd (not-suc-le-zero p)
decimal-same (suc k) zero n p q = absurd (not-suc-le-zero q)
decimal-same (suc k) (suc m) n p q =
    ap (λ (ds : List ℕ). ds ++ (digit (n % 10) ∷ []))
    (before_same (ltb n 10) n (λ d. decimal_f k d) (λ d. decimal_f m d) (λ e. let h = ltb-false n 10 e in decimal-same k m (n / 10) (omega arith) (omega arith)))

-- the last digit, as the code has it
last-digit : (n : ℕ) → digit (n % 10) ≡ 48 + n % 10
last-digit n = rw (lt-ltb (n % 10) 10 (mod-lt n (lit< tt)))

pub decimal-one : (n : ℕ) → n < 10 → decimal n ≡ (48 + n % 10) ∷ []
unfolding decimal decimal_f
decimal-one n h = rw (lt-ltb n 10 h, last-digit n)

pub decimal-more : (n : ℕ) → 10 ≤ n → decimal n ≡ decimal (n / 10) ++ ((48 + n % 10) ∷ [])
unfolding decimal decimal_f
decimal-more n h =
    rw (le-ltb n 10 h, last-digit n)
    (ap (λ (ds : List ℕ). ds ++ ((48 + n % 10) ∷ [])) (decimal-same n (suc (n / 10)) (n / 10) (omega arith) (omega arith)))

-- ---- hex

pub hex-one : (src : List ℕ) (j : ℕ) → j < length src → hex (drop j src) ≡ hex (get_or src j 0 ∷ []) ++ hex (drop (j + 1) src)
unfolding hex
hex-one src j h = rw (drop-cons src j 0 h, add-one j)

pub hex-all : (src : List ℕ) (j : ℕ) → length src ≤ j → hex (drop j src) ≡ []
unfolding hex
hex-all src j h = rw (drop_of_length-le src h)

-- a byte, by its two digits
pub hex-pair : (b : ℕ) {high low : ℕ} → high ≡ digit (b / 16) → low ≡ digit (b % 16) → hex (b ∷ []) ≡ (high ∷ []) ++ (low ∷ [])
unfolding hex
hex-pair b p q = rw (p, q)

pub le-one : (left x : ℕ) → 0 < left → hex (le_bytes left x) ≡ hex (x % 256 ∷ []) ++ hex (le_bytes (left - 1) (x / 256))
unfolding hex le_bytes
le-one zero x h = absurd (not-suc-le-zero h)
le-one (suc l) x h = simp sub-one

pub le-none : (left x : ℕ) → left ≤ 0 → hex (le_bytes left x) ≡ []
unfolding hex le_bytes
le-none zero x h = refl
le-none (suc l) x h = absurd (not-suc-le-zero h)

pub dash : (src : List ℕ) → length src ≡ 0 → hex_or_dash src ≡ ascii "-"
unfolding hex_or_dash
dash [] h = refl
dash (b ∷ src) h = absurd (omega arith)

pub no-dash : (src : List ℕ) → (length src ≡ 0 → ⊥) → hex_or_dash src ≡ hex src
unfolding hex_or_dash
no-dash [] h = absurd (h refl)
no-dash (b ∷ src) h = refl

-- ---- words with spaces in front

-- a space, and a word
pub puts-spaced : {p p₁ p₂ : Printer} {w : List ℕ} → Puts p p₁ (ascii " ") → Puts p₁ p₂ w → Puts p p₂ (spaced (w ∷ []))
unfolding spaced
puts-spaced {w = w} f g = rw (append-nil w) (puts_then f g)

spaced-append : (vs ws : List (List ℕ)) → spaced (vs ++ ws) ≡ spaced vs ++ spaced ws
unfolding spaced
spaced-append [] ws = refl
spaced-append (v ∷ vs) ws = ap (λ (x : List ℕ). ascii " " ++ x) (ap (λ (x : List ℕ). v ++ x) (spaced-append vs ws) ∙ sym (append_assoc v (spaced vs) (spaced ws)))

-- words, and more words
pub puts-words : {p p₁ p₂ : Printer} (vs ws : List (List ℕ)) → Puts p p₁ (spaced vs) → Puts p₁ p₂ (spaced ws) → Puts p p₂ (spaced (vs ++ ws))
puts-words vs ws f g = rw (spaced-append vs ws) (puts_then f g)
