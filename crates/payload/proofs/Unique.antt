-- Any two results that a promise allows are equal: each answer can be read back from what it stands for. Assumes nothing.
use Prim.Native.Nat.{ℕ}
use mathlib.Core.Path.{◌≡◌, refl, sym, ap, ◌∙◌}
use mathlib.Core.Option.{Option, none, some}
use Rattle.std.specs.Prelude.{Result, Ok, Err, Option as MayBe, Some, None}
use Rattle.form.specs.Refusals.{Fault, too_short, bad_colour}
use Rattle.form.specs.Values as F
use Rattle.form.specs.Readers.{Answer}
use Rattle.laws.proofs.Unique.{same}
use Rattle.lexeme.specs.declared.LexemeId.{LexemeId}
use Rattle.payload.specs.Answers.{fault_of, read_as, lexed_as, alpha_of, colour_of}
use Rattle.payload.specs.declared.answers.Eof.{Eof}
use Rattle.payload.specs.declared.answers.LexError.{LexError}
use Rattle.payload.specs.declared.answers.LexError.TheVariants as Refused
use Rattle.payload.specs.declared.answers.Rgb.{Rgb}

abbrev lex_error_of : Fault → LexError
lex_error_of (too_short m) = Refused.Eof m
lex_error_of bad_colour = Refused.InvalidRgb

error-back : (e : LexError) → lex_error_of (fault_of e) ≡ e
error-back (Refused.Eof m) = refl
error-back Refused.InvalidRgb = refl

-- an error is told by what is wrong
pub refusal-one : {f : Fault} (e e' : LexError) → fault_of e ≡ f → fault_of e' ≡ f → e ≡ e'
refusal-one = same fault_of lex_error_of error-back

abbrev eof_of : Fault → Eof
eof_of (too_short m) = record { 0 = m }
eof_of bad_colour = record { 0 = 0 }

-- where a value is told by what it stands for, so is an answer
module _ {V A : Type 0} (value : V → A) (one : (x x' : V) → value x ≡ value x' → x ≡ x') where
  reads : (r r' : Result (V × ℕ) Eof) → read_as value r ≡ read_as value r' → r ≡ r'
  reads (Ok (x, n)) (Ok (x', n')) p =
      let v : value x ≡ value x' = cc in
      let m : n ≡ n' = cc in
      cc (one x x' v)
  reads (Ok (x, n)) (Err e) p = cc
  reads (Err e) (Ok (x, n)) p = cc
  reads (Err e) (Err e') p = let m : e.0 ≡ e'.0 = cc in ap (λ m. Err (record { 0 = m })) m

  pub read-one : {a : Answer A} (r r' : Result (V × ℕ) Eof) → read_as value r ≡ a → read_as value r' ≡ a → r ≡ r'
  read-one r r' p q = reads r r' (p ∙ sym q)

  lexes : (r r' : Result (V × ℕ) LexError) → lexed_as value r ≡ lexed_as value r' → r ≡ r'
  lexes (Ok (x, n)) (Ok (x', n')) p =
      let v : value x ≡ value x' = cc in
      let m : n ≡ n' = cc in
      cc (one x x' v)
  lexes (Ok (x, n)) (Err e) p = cc
  lexes (Err e) (Ok (x, n)) p = cc
  lexes (Err e) (Err e') p =
      let f : fault_of e ≡ fault_of e' = cc in
      ap Err (refusal-one e e' f refl)

  pub lexed-one : {a : Answer A} (r r' : Result (V × ℕ) LexError) → lexed_as value r ≡ a → lexed_as value r' ≡ a → r ≡ r'
  lexed-one r r' p q = lexes r r' (p ∙ sym q)

-- a number, a truth or a text stands for itself
pub plain-one : {A : Type 0} {a : Answer A} (r r' : Result (A × ℕ) Eof) → read_as (λ x. x) r ≡ a → read_as (λ x. x) r' ≡ a → r ≡ r'
plain-one = read-one (λ x. x) (λ x x' p. p)

ids : (x x' : LexemeId) → x.0 ≡ x'.0 → x ≡ x'
ids x x' p = ap (λ i. record { 0 = i }) p

pub id-one : {a : Answer ℕ} (r r' : Result (LexemeId × ℕ) Eof) → read_as (λ x. x.0) r ≡ a → read_as (λ x. x.0) r' ≡ a → r ≡ r'
id-one = read-one (λ x. x.0) ids

-- a colour stands for a value of one case only, so it is told by that case's parts
abbrev alpha_back : Option ℕ → MayBe ℕ
alpha_back none = None
alpha_back (some a) = Some a

alpha-back : (a : MayBe ℕ) → alpha_back (alpha_of a) ≡ a
alpha-back None = refl
alpha-back (Some a) = refl

abbrev painted : ℕ → ℕ → ℕ → MayBe ℕ → Rgb
painted r g b a = record { r = r; g = g; b = b; a = a }

pub colour-one : (x x' : Rgb) → colour_of x ≡ colour_of x' → x ≡ x'
colour-one x x' p =
    let r : x.r ≡ x'.r = cc in
    let g : x.g ≡ x'.g = cc in
    let b : x.b ≡ x'.b = cc in
    let o : alpha_of x.a ≡ alpha_of x'.a = cc in
    let a : x.a ≡ x'.a = same alpha_of alpha_back alpha-back x.a x'.a o refl in
    let e : painted x.r x.g x.b x.a ≡ painted x'.r x'.g x'.b x'.a = rw (r, g, b, a) in
    e

pub rgb-one : {a : Answer F.Value} (r r' : Result (Rgb × ℕ) LexError) → lexed_as colour_of r ≡ a → lexed_as colour_of r' ≡ a → r ≡ r'
rgb-one = lexed-one colour_of colour-one
