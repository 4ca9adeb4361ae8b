-- Any two results that a promise allows are equal, with the buffers that they leave. Each theorem is for every call that gives the answer of
-- its name; the other public calls' promises are plain equations. Assumes nothing.
use mathlib.Core.Path.{◌≡◌, refl, sym, ap, ◌∙◌}
use mathlib.Core.Bool.{Bool}
use mathlib.Core.Option.{Option}
use mathlib.Core.List.{List, [], ◌∷◌}
use Prim.Native.Nat.{ℕ}
use Rattle.std.specs.Prelude.{Result, Ok, Err, Option as MayBe, Some, None}
use Rattle.form.specs.Refusals as F
use Rattle.form.specs.Values.{Value}
use Rattle.laws.proofs.Unique.{same, eof_or_number}
use Rattle.lexeme.specs.declared.LexemeId.{LexemeId}
use Rattle.payload.specs.declared.answers.Text.{Text}
use Rattle.payload.specs.declared.answers.Rgb.{Rgb}
use Rattle.payload.specs.Answers.{option_as, colour_of}
use Rattle.payload.proofs.Unique.{colour-one}
use Rattle.source.specs.declared.ParserSource.{ParserSource}
use Rattle.source.specs.declared.answers.ParserError.{ParserError}
use Rattle.source.specs.declared.answers.ParserError.TheVariants.{Eof, InvalidRgb, BufferTooSmall, ReadFailed, BadPlace}
use Rattle.source.specs.declared.answers.Stop.{Stop}
use Rattle.source.specs.Window.{Drawn, drawn, halted}
use Rattle.source.specs.Answers.{refusal_of, drawn_as, ensured_answer, window_len_answer}

-- ---- refusals; the code has no LongString, WideLookup, ReservedId, NoRoom and TooLong

abbrev error_of : F.Refusal → ParserError
error_of r = eof_or_number Eof ((2, InvalidRgb) ∷ (5, BufferTooSmall) ∷ (6, ReadFailed) ∷ []) BadPlace r

error-back : (e : ParserError) → error_of (refusal_of e) ≡ e
unfolding F.refusal_number F.refusal_value F.refusal_values
error-back (Eof p m) = refl
error-back (InvalidRgb p) = refl
error-back (BufferTooSmall p) = refl
error-back (ReadFailed p) = refl
error-back (BadPlace p) = refl

abbrev stop_of : F.Refusal → ParserSource → Stop
stop_of r s = record { error = error_of r; next = s }

stop-back : (x : Stop) → stop_of (refusal_of x.error) x.next ≡ x
stop-back x = λ i. record { error = error-back x.error i; next = x.next }

-- ---- the law: over any answer whose value can be read back, with the buffer that the call leaves

abbrev left_by : {A : Type 0} → Drawn A → List ℕ
left_by (drawn a s buffer) = buffer
left_by (halted r s buffer) = buffer

-- the results, and the buffers
abbrev Same : {E : Type 0} → E → E → List ℕ → List ℕ → Type 0
Same r r' b b' = (r ≡ r') × (b ≡ b')

-- two refusals that stand for the same
stop-one : (A : Type 0) (x x' : Stop) (b b' : List ℕ) → ◌≡◌ {A = Drawn A} (halted (refusal_of x.error) x.next b) (halted (refusal_of x'.error) x'.next b') → x ≡ x'
stop-one A x x' b b' p =
    let e : refusal_of x.error ≡ refusal_of x'.error = cc in
    let s : x.next ≡ x'.next = cc in
    sym (stop-back x) ∙ (λ i. stop_of (e i) (s i)) ∙ stop-back x'

module _ {V A : Type 0} (value : V → A) (one : (v v' : V) → value v ≡ value v' → v ≡ v') where
  drawn_same : (r r' : Result (V × ParserSource) Stop) (b b' : List ℕ) → drawn_as value r b ≡ drawn_as value r' b' → r ≡ r'
  drawn_same (Ok x) (Ok x') b b' p =
      let v = one x.0 x'.0 (cc) in
      let s : x.1 ≡ x'.1 = cc in
      λ i. Ok (v i, s i)
  drawn_same (Ok x) (Err y) b b' p = cc
  drawn_same (Err y) (Ok x) b b' p = cc
  drawn_same (Err y) (Err y') b b' p = ap Err (stop-one A y y' b b' p)

  drawn_left : (r : Result (V × ParserSource) Stop) (b : List ℕ) → left_by (drawn_as value r b) ≡ b
  drawn_left (Ok x) b = refl
  drawn_left (Err y) b = refl

  pub drawn_one : {a : Drawn A} (r r' : Result (V × ParserSource) Stop) (b b' : List ℕ) → drawn_as value r b ≡ a → drawn_as value r' b' ≡ a → Same r r' b b'
  drawn_one r r' b b' p q =
      (drawn_same r r' b b' (p ∙ sym q), sym (drawn_left r b) ∙ ap left_by (p ∙ sym q) ∙ drawn_left r' b')

-- a value that may be none
option-one : {V A : Type 0} (value : V → A) → ((v v' : V) → value v ≡ value v' → v ≡ v') → (o o' : MayBe V) → option_as value o ≡ option_as value o' → o ≡ o'
option-one value one None None p = refl
option-one value one None (Some v) p = cc
option-one value one (Some v) None p = cc
option-one value one (Some v) (Some v') p = ap Some (one v v' (cc))

itself : {A : Type 0} (a a' : A) → a ≡ a' → a ≡ a'
itself a a' p = p

id_same : (i i' : LexemeId) → i.0 ≡ i'.0 → i ≡ i'
id_same i i' p = λ j. record { 0 = p j }

-- ---- the answers

ensured_same : (r r' : Result ParserSource Stop) (b b' : List ℕ) → ensured_answer r b ≡ ensured_answer r' b' → r ≡ r'
ensured_same (Ok s) (Ok s') b b' p = let q : s ≡ s' = cc in ap Ok q
ensured_same (Ok s) (Err y) b b' p = cc
ensured_same (Err y) (Ok s) b b' p = cc
ensured_same (Err y) (Err y') b b' p = ap Err (stop-one (Unit {0}) y y' b b' p)

ensured_left : (r : Result ParserSource Stop) (b : List ℕ) → left_by (ensured_answer r b) ≡ b
ensured_left (Ok s) b = refl
ensured_left (Err y) b = refl

pub ensured-one : {a : Drawn (Unit {0})} (r r' : Result ParserSource Stop) (b b' : List ℕ) → ensured_answer r b ≡ a → ensured_answer r' b' ≡ a → Same r r' b b'
ensured-one r r' b b' p q =
    (ensured_same r r' b b' (p ∙ sym q), sym (ensured_left r b) ∙ ap left_by (p ∙ sym q) ∙ ensured_left r' b')

pub refilled-one : {a : Drawn ℕ} (r r' : Result (ℕ × ParserSource) Stop) (b b' : List ℕ) → drawn_as (λ n. n) r b ≡ a → drawn_as (λ n. n) r' b' ≡ a → Same r r' b b'
refilled-one = drawn_one (λ n. n) itself

pub advanced-one : {a : Drawn Bool} (b : List ℕ) (r r' : Result (Bool × ParserSource) Stop) → drawn_as (λ m. m) r b ≡ a → drawn_as (λ m. m) r' b ≡ a → r ≡ r'
advanced-one b r r' p q = (drawn_one (λ m. m) itself r r' b b p q).0

abbrev length_of : Drawn ℕ → Result ℕ ParserError
length_of (drawn n s b) = Ok n
length_of (halted r s b) = Err (error_of r)

window-len-back : (s : ParserSource) (b : List ℕ) (r : Result ℕ ParserError) → length_of (window_len_answer s r b) ≡ r
window-len-back s b (Ok n) = refl
window-len-back s b (Err e) = ap Err (error-back e)

pub window-len-one : {a : Drawn ℕ} (s : ParserSource) (b : List ℕ) (r r' : Result ℕ ParserError) → window_len_answer s r b ≡ a → window_len_answer s r' b ≡ a → r ≡ r'
window-len-one s b = same (λ r. window_len_answer s r b) length_of (window-len-back s b)

pub taken-one : {a : Drawn Text} (r r' : Result (Text × ParserSource) Stop) (b b' : List ℕ) → drawn_as (λ t. t) r b ≡ a → drawn_as (λ t. t) r' b' ≡ a → Same r r' b b'
taken-one = drawn_one (λ t. t) itself

pub tried-one : {a : Drawn (Option Text)} (r r' : Result (MayBe Text × ParserSource) Stop) (b b' : List ℕ)
    → drawn_as (option_as (λ t. t)) r b ≡ a → drawn_as (option_as (λ t. t)) r' b' ≡ a → Same r r' b b'
tried-one = drawn_one (option_as (λ t. t)) (option-one (λ t. t) itself)

pub id-one : {a : Drawn ℕ} (r r' : Result (LexemeId × ParserSource) Stop) (b b' : List ℕ) → drawn_as (λ i. i.0) r b ≡ a → drawn_as (λ i. i.0) r' b' ≡ a → Same r r' b b'
id-one = drawn_one (λ i. i.0) id_same

pub peeked-id-one : {a : Drawn (Option ℕ)} (r r' : Result (MayBe LexemeId × ParserSource) Stop) (b b' : List ℕ)
    → drawn_as (option_as (λ i. i.0)) r b ≡ a → drawn_as (option_as (λ i. i.0)) r' b' ≡ a → Same r r' b b'
peeked-id-one = drawn_one (option_as (λ i. i.0)) (option-one (λ i. i.0) id_same)

-- a colour stands for a value of one case only, so two are compared
pub colour-answer-one : {a : Drawn Value} (r r' : Result (Rgb × ParserSource) Stop) (b b' : List ℕ) → drawn_as colour_of r b ≡ a → drawn_as colour_of r' b' ≡ a → Same r r' b b'
colour-answer-one = drawn_one colour_of colour-one
