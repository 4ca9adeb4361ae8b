-- The reply to a value goes by its own words, or by the words of what it stands for. Assumes nothing.
use Rattle.std.proofs.Common.{ℕ, ◌≡◌, refl, List, Result, Ok, Err}
use Rattle.std.specs.Prelude.{Option, Some, None}
use Rattle.payload.specs.Answers.{option_as, colour_of}
use Rattle.payload.specs.declared.answers.Rgb.{Rgb}
use Rattle.token.specs.Tokens.{token_of}
use Rattle.lexer.specs.declared.Lexer.{Lexer}
use Rattle.lexer.specs.declared.answers.Refusal.{Refusal}
use Rattle.lexer.specs.Calls.{read_call}
use Rattle.source.specs.declared.ParserSource.{ParserSource}
use Rattle.source.specs.declared.answers.Stop.{Stop}
use Rattle.source.specs.Answers.{drawn_as}
use Rattle.capi.specs.Replies.{reply_of, reply_or_none}
use Rattle.capi.specs.Words.{colour_words, rgb_words}
use Rattle.capi.specs.Sources.{source_reply_to}

module _ {V A : Type 0} (value : V → A) (words : A → List ℕ) (own : V → List ℕ) (same : (v : V) → words (value v) ≡ own v) where
  pub read : (c : Lexer) (r : Result (V × Lexer) Refusal) → reply_of words (read_call value c r) ≡ reply_of own (read_call (λ v. v) c r)
  read c (Ok x) = rw (same x.0)
  read c (Err e) = refl

  pub taken : (r : Result (V × ParserSource) Stop) (buffer : List ℕ)
      → source_reply_to (reply_of words) (drawn_as value r) buffer ≡ source_reply_to (reply_of own) (drawn_as (λ v. v) r) buffer
  taken (Ok x) buffer = rw (same x.0)
  taken (Err e) buffer = refl

  pub tried : (r : Result (Option V × ParserSource) Stop) (buffer : List ℕ)
      → source_reply_to (reply_or_none words) (drawn_as (option_as value) r) buffer ≡ source_reply_to (reply_or_none own) (drawn_as (option_as (λ v. v)) r) buffer
  tried (Ok (Some x, s)) buffer = rw (same x)
  tried (Ok (None, s)) buffer = refl
  tried (Err e) buffer = refl

-- of a colour
pub colour_own : (x : Rgb) → colour_words (colour_of x) ≡ rgb_words x
unfolding token_of
colour_own x = go x.a
  where
    go : (a : Option ℕ) → colour_words (colour_of (record { r = x.r; g = x.g; b = x.b; a = a })) ≡ rgb_words (record { r = x.r; g = x.g; b = x.b; a = a })
    go None = refl
    go (Some a) = refl
