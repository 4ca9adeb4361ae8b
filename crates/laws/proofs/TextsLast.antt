-- A token's text is the last part of its bytes: so its place can be told from where the token ends. Assumes nothing.
use Prim.Native.Nat.{ℕ, ◌+◌, ◌-◌, ◌≤◌, zero-le}
use native.Mathlib.Omega.{arith}
use mathlib.Core.Path.{◌≡◌, refl, sym}
use mathlib.Core.Option.{none, some}
use mathlib.Core.List.{List, []}
use lib.ListN.{length, take, drop}
use lib.Seq.{drop-drop}
use Rattle.form.specs.Values.{Value, Open, Close, Equal, U32, U64, F32, F64, Lookup, Id, I32, I64, Truth, Quoted, Unquoted, Rgb}
use Rattle.form.specs.Table.{Payload, number, text, colour, table, entries, after}
use Rattle.form.specs.Readers.{Answer, found, refused, at, further, ◌giving◌}
use Rattle.form.specs.Reading.{num, string, payload, token}
use Rattle.laws.proofs.Lookups.{InEach, by-table}
use Rattle.laws.proofs.Found.{All, all_then, all-mapped, all-weaken, Number, num-found, Text, string-found, rgb-found}
use Rattle.laws.proofs.Sound.{◌&◌}

-- the text of a value, empty where it has none
unfoldable pub own_text : Value → List ℕ
own_text Open = []
own_text Close = []
own_text Equal = []
own_text (U32 n) = []
own_text (U64 n) = []
own_text (F32 n) = []
own_text (F64 n) = []
own_text (Lookup n) = []
own_text (Id i) = []
own_text (I32 z) = []
own_text (I64 z) = []
own_text (Truth b) = []
own_text (Quoted t) = t
own_text (Unquoted t) = t
own_text (Rgb r g b a) = []

-- t is the last part of the first n bytes
pub record Last (s t : List ℕ) (n : ℕ) : Type 0 where
  pub fits : length t ≤ n
  pub last : take (length t) (drop (n - length t) s) ≡ t

abbrev pub Ends : List ℕ → Value → ℕ → Type 0
Ends s v n = Last s (own_text v) n

no_text : (s : List ℕ) (v : Value) (n : ℕ) → own_text v ≡ [] → Ends s v n
no_text s v n e = rw e (record { fits = zero-le; last = refl })

abbrev EndsBy : Payload → Type 0
EndsBy (number w f) = (n : ℕ) → own_text (f n) ≡ []
EndsBy (text f) = (t : List ℕ) → own_text (f t) ≡ t
EndsBy colour = Unit {0}

entries-end : InEach EndsBy entries
unfolding entries table own_text
entries-end =
    (λ _. refl) & (λ _. refl) & (λ _. refl) & (λ _. refl) & (λ _. refl) & (λ _. refl) & (λ _. refl) & (λ _. refl) & (λ _. refl) & (λ _. refl) & (λ _. refl) & (λ _. refl) & (λ _. refl)
    & tt & (λ _. refl) & (λ _. refl) & (λ _. refl) & (λ _. refl) & (λ _ _ _ _. refl) & (λ _ _ _ _. refl) & tt

after-ends : (i : ℕ) → EndsBy (after i)
unfolding own_text
after-ends i = by-table EndsBy entries-end i (λ _ _. refl)

text-last : (s t : List ℕ) (n : ℕ) → Text s t n → Last s t n
text-last s t n k =
    let d : n - length t ≡ 2 = omega (arith, k.count) in
    record { fits = omega (arith, k.count); last = rw d (sym k.is) }

payload-ends : (p : Payload) → EndsBy p → (s : List ℕ) → All (Ends s) (payload p s)
unfolding payload ◌giving◌ own_text
payload-ends (number w f) e s = all-mapped (Number w s) (Ends s) f (num w s) (num-found w s) (λ x n _. no_text s (f x) n (e x))
payload-ends (text f) e s = all-mapped (Text s) (Ends s) f (string s) (string-found s) (λ t n k. rw (e t) (text-last s t n k))
payload-ends colour e s = rgb-found (Ends s) s (λ r g b _ _. no_text s (Rgb r g b none) 22 refl) (λ r g b a _ _. no_text s (Rgb r g b (some a)) 28 refl)

pub token-ends : (s : List ℕ) → All (Ends s) (token s)
unfolding token
token-ends s =
    all_then (Number 2 s) (Ends s) (num 2) _ s (num-found 2 s) (λ i n e.
    all-weaken (Ends (drop n s)) (λ v m. Ends s v (n + m)) (payload (after i) (drop n s)) (payload-ends (after i) (after-ends i) (drop n s)) (λ v m k.
    let l : length (own_text v) ≤ m = k.fits in
    let q : n + (m - length (own_text v)) ≡ n + m - length (own_text v) = omega arith in
    record { fits = omega arith; last = rw (← q, ← drop-drop (m - length (own_text v)) n s) k.last }))

-- the same of a token at a place of the bytes
pub token-ends-at : (s : List ℕ) (p : ℕ) → All (Ends s) (at token s p)
unfolding at further
token-ends-at s p = go (token (drop p s)) (token-ends (drop p s))
  where
    go : (a : Answer Value) → All (Ends (drop p s)) a → All (Ends s) (further p a)
    go (found v n) k =
        let l : length (own_text v) ≤ n = k.fits in
        let q : p + (n - length (own_text v)) ≡ p + n - length (own_text v) = omega arith in
        record { fits = omega arith; last = rw (← q, ← drop-drop (n - length (own_text v)) p s) k.last }
    go (refused why) k = tt
