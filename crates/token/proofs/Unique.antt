-- Any two results that a promise allows are equal. No promise fixes the address of a returned part, only its bytes. Assumes nothing.
use Prim.Native.Nat.{ℕ}
use mathlib.Core.Path.{◌≡◌, refl, sym, ap, ◌∙◌}
use mathlib.Core.List.{List}
use Rattle.std.specs.Prelude.{Result, Ok, Err}
use Rattle.laws.proofs.Unique.{plain-one}
use Rattle.payload.specs.declared.answers.LexError.{LexError}
use Rattle.payload.specs.declared.answers.Text.{Text}
use Rattle.payload.specs.Texts.{part_of}
use Rattle.payload.proofs.Unique.{lexed-one}
use Rattle.token.specs.Tokens.{token_answer, token_at}
use Rattle.token.specs.Texts.{place_answer, place_of}
use Rattle.token.specs.declared.Token.{Token}
use Rattle.token.specs.declared.texts.BadPlace.{BadPlace}

place-one : (r r' : Result (Unit {0}) BadPlace) → place_answer r ≡ place_answer r' → r ≡ r'
place-one (Ok x) (Ok y) h = refl
place-one (Ok x) (Err e) h = cc
place-one (Err e) (Ok x) h = cc
place-one (Err d) (Err e) h = let p : d.0 ≡ e.0 = cc in ap (λ m. Err (record { 0 = m })) p

module _ (s : List ℕ) where
  pub read-token-one : (p : ℕ) (r r' : Result (Token × ℕ) LexError) → token_answer r ≡ token_at s p → token_answer r' ≡ token_at s p → r ≡ r'
  read-token-one p = lexed-one (λ t. t) (λ x x' e. e)

  pub text-one : (t : Text) (r r' : Result (Unit {0}) BadPlace) → place_answer r ≡ place_of s t → place_answer r' ≡ place_of s t → r ≡ r'
  text-one t r r' h k = place-one r r' (h ∙ sym k)

  -- the bytes of the part
  pub text-part-one : (t : Text) (r r' : List ℕ) → r ≡ part_of s t → r' ≡ part_of s t → r ≡ r'
  text-part-one t = plain-one
