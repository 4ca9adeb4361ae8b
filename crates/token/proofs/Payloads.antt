-- What a payload's read leaves for the token, and a token by its id. Assumes nothing.
use Prim.Native.Nat.{ℕ, ◌+◌, ◌-◌, ◌≤◌, ◌<◌, zero-le}
use native.Mathlib.Nat.{add-zero}
use native.Mathlib.Omega.{arith}
use mathlib.Core.Path.{◌≡◌, refl, sym, ap, ◌∙◌}
use mathlib.Core.Bool.{Bool}
use mathlib.Core.List.{List, []}
use borrow.Author.Tests.{le-leb}
use Rattle.form.specs.Refusals.{Fault}
use Rattle.form.specs.Values as F
use Rattle.form.specs.Table.{Payload, number, text, colour, nothing, after}
use Rattle.form.specs.Readers.{Answer, found, refused, and_then, ByPlace, at, mapped, placed}
use Rattle.form.specs.Reading.{num, string, rgb, payload}
use Rattle.laws.proofs.Places.{at-giving, by-id, num-there, token-then}
use Rattle.std.specs.Prelude.{Result, Ok, Err, Option as MayBe, Some, None}
use Rattle.payload.specs.Answers.{read_as, text_of, colour_of, alpha_of}
use Rattle.payload.specs.Compact.{at_most7, signed_by, compact}
use Rattle.payload.specs.declared.answers.Eof.{Eof}
use Rattle.payload.specs.declared.answers.LexError.{LexError}
use Rattle.payload.specs.declared.answers.Text.{Text}
use Rattle.payload.specs.declared.answers.Rgb.{Rgb}
use Rattle.token.specs.Tokens.{Makes, token_answer, token_of, token_at, alpha_for}
use Rattle.token.specs.declared.Token.{Token}
use Rattle.token.specs.declared.Token.TheVariants as T

-- ---- the token that `made` makes of a payload

-- by the function that its closure is
pub made-is : {V : Type 0} (h : V → Token) (P : V → Token → Type 0) → ((x : V) (t : Token) → P x t → t ≡ h x)
    → (r : Result (V × ℕ) Eof) (t : Result (Token × ℕ) LexError) → Makes P r t → token_answer t ≡ placed (λ _ x. h x) (read_as (λ x. x) r)
unfolding placed
made-is h P w (Ok x) t (y, e, k) = ap token_answer k ∙ ap (λ (z : Token). found z x.1) (w x.0 y e)
made-is h P w (Err e) t k = ap token_answer k

-- ---- the token of each payload, by what its read answers

-- what follows an id, at a place
unfoldable pub payload_at : Payload → ByPlace Token
payload_at p s at' = placed token_of (at (payload p) s at')

-- a compact number of w bytes
abbrev pub compact_of : ℕ → Bool → Payload
compact_of w negative = number (at_most7 w) (λ n. F.F64 (signed_by negative n))

placed-mapped : {A B C : Type 0} (f : A → B) (g : ℕ → B → C) (x : Answer A) → placed g (mapped f x) ≡ placed (λ e a. g e (f a)) x
unfolding placed mapped
placed-mapped f g (found a n) = refl
placed-mapped f g (refused e) = refl

-- a colour's token is the colour
pub colour-token : (e : ℕ) (x : Rgb) → token_of e (colour_of x) ≡ T.Rgb x
unfolding token_of
colour-token e x = ap (λ (a : MayBe ℕ). T.Rgb (record { r = x.r; g = x.g; b = x.b; a = a })) (back x.a)
  where
    back : (a : MayBe ℕ) → alpha_for (alpha_of a) ≡ a
    back None = refl
    back (Some a) = refl

module _ (s : List ℕ) (p : ℕ) where
  numbers : (w : ℕ) (f : ℕ → F.Value) → payload_at (number w f) s p ≡ placed (λ e n. token_of e (f n)) (at (num w) s p)
  unfolding payload_at payload
  numbers w f = ap (placed token_of) (at-giving (num w) f s p) ∙ placed-mapped f token_of (at (num w) s p)

  -- of the number itself
  pub number_at : (w : ℕ) (f : ℕ → F.Value) {a : Answer ℕ} {b : Answer Token}
      → a ≡ at (num w) s p → b ≡ placed (λ e n. token_of e (f n)) a → b ≡ payload_at (number w f) s p
  number_at w f k l = l ∙ ap (placed (λ e n. token_of e (f n))) k ∙ sym (numbers w f)

  -- of what g makes of the number
  pub through-at : {A : Type 0} (w : ℕ) (g : ℕ → A) (f : A → F.Value) {a : Answer A} {b : Answer Token}
      → a ≡ mapped g (at (num w) s p) → b ≡ placed (λ e x. token_of e (f x)) a → b ≡ payload_at (number w (λ n. f (g n))) s p
  through-at w g f k l =
      l ∙ ap (placed (λ e x. token_of e (f x))) k ∙ placed-mapped g (λ e x. token_of e (f x)) (at (num w) s p) ∙ sym (numbers w (λ n. f (g n)))

  -- of a compact number
  pub compact-from : (w : ℕ) (negative : Bool) {b : Answer Token}
      → b ≡ placed (λ e n. token_of e (F.F64 n)) (compact w negative s p) → b ≡ payload_at (compact_of w negative) s p
  compact-from w negative = through-at (at_most7 w) (signed_by negative) F.F64 refl

  -- of where the text stands
  pub text_at_lem : (f : List ℕ → F.Value) (h : Text → Token) → ((e : ℕ) (t : List ℕ) → token_of e (f t) ≡ h (text_of e t))
      → {a : Answer Text} {b : Answer Token} → a ≡ placed text_of (at string s p) → b ≡ placed (λ _ t. h t) a → b ≡ payload_at (text f) s p
  unfolding payload_at payload placed mapped
  text_at_lem f h k l m = m ∙ ap (placed (λ _ t. h t)) l ∙ sym (ap (placed token_of) (at-giving string f s p) ∙ go (at string s p))
    where
      go : (x : Answer (List ℕ)) → placed token_of (mapped f x) ≡ placed (λ _ t. h t) (placed text_of x)
      go (found t n) = ap (λ (y : Token). found y n) (k n t)
      go (refused e) = refl

  pub colour-at : {a : Answer F.Value} {b : Answer Token} → a ≡ at rgb s p → b ≡ placed token_of a → b ≡ payload_at colour s p
  unfolding payload_at payload
  colour-at k l = l ∙ ap (placed token_of) k

  pub nothing-at : (v : F.Value) → found (token_of p v) p ≡ payload_at (nothing v) s p
  unfolding placed
  nothing-at v = sym (numbers 0 (λ _. v) ∙ rw (num-there 0 s p zero-le, add-zero p))

  -- the empty string's text stands at the place after its id
  pub empty-at : {b : Answer Token} → b ≡ found (T.Quoted (record { start = p; len = 0 })) p → b ≡ payload_at (nothing (F.Quoted [])) s p
  unfolding token_of
  empty-at l =
      let d : p ≡ p - 0 = omega arith in
      l ∙ ap (λ (k : ℕ). found (T.Quoted (record { start = k; len = 0 })) p) d ∙ nothing-at (F.Quoted [])

-- ---- a token by its id

module _ (s : List ℕ) (p : ℕ) where
  -- by the id's entry of the table
  pub by-entry : {q q' : Payload} {b : Answer Token} → q ≡ q' → b ≡ payload_at q' s p → b ≡ placed token_of (at (payload q) s p)
  unfolding payload_at
  by-entry h l = l ∙ sym (ap (λ (x : Payload). placed token_of (at (payload x) s p)) h)

  pub after-id : {i n : ℕ} {b : Answer Token}
      → at (num 2) s p ≡ found i n → b ≡ placed token_of (at (payload (after i)) s n) → b ≡ token_at s p
  unfolding token_at
  after-id e l = l ∙ sym (ap (placed token_of) (by-id s p e refl))

  pub no-id : {f : Fault} → at (num 2) s p ≡ refused f → refused f ≡ token_at s p
  unfolding token_at placed and_then
  no-id e = sym (ap (placed token_of) (token-then s p) ∙ rw e)

-- the bytes of a compact number, by its place in its range of ids
pub compact-is : (x b : ℕ) (negative : Bool) → x < b + 8 → number (x - b) (λ n. F.F64 (signed_by negative n)) ≡ compact_of (x - b) negative
compact-is x b negative h = let k : x - b ≤ 7 = omega arith in rw (le-leb (x - b) 7 k)
