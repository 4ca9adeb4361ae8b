-- What the answers of the code stand for.
use Rattle.std.specs.Prelude.{ℕ, ◌-◌, List, length, Result, Ok, Err, Option as MayBe, Some, None}
use Rattle.std.proofs.Math.Option.{Option, none, some}
use Rattle.form.specs.Refusals.{Fault, too_short, bad_colour, Refusal, refusal_at}
use Rattle.form.specs.Values as F
use Rattle.form.specs.Readers.{Answer, found, refused}
use Rattle.form.specs.Writing.{Outcome, wrote, declined}
use Rattle.payload.specs.declared.answers.Eof.{Eof}
use Rattle.payload.specs.declared.answers.LexError.{LexError}
use Rattle.payload.specs.declared.answers.LexError.TheVariants as Refused
use Rattle.payload.specs.declared.answers.LexErrorAt.{LexErrorAt}
use Rattle.payload.specs.declared.answers.Text.{Text}
use Rattle.payload.specs.declared.answers.Rgb.{Rgb}

abbrev pub fault_of : LexError → Fault
fault_of (Refused.Eof m) = too_short m
fault_of Refused.InvalidRgb = bad_colour

-- why a token is refused, and the place where it begins
abbrev pub refusal_of : LexErrorAt → Refusal
refusal_of e = refusal_at e.at (fault_of e.kind)

-- a text that ends at a place
abbrev pub text_of : ℕ → List ℕ → Text
text_of e t = record { start = e - length t; len = length t }

-- what the code may have, as what the definition may have
abbrev pub option_as : {V A : Type 0} → (V → A) → MayBe V → Option A
option_as value None = none
option_as value (Some x) = some (value x)

abbrev pub alpha_of : MayBe ℕ → Option ℕ
alpha_of = option_as (λ a. a)

-- a colour as a value
abbrev pub colour_of : Rgb → F.Value
colour_of x = F.Rgb x.r x.g x.b (alpha_of x.a)

-- ---- the answers: what the value stands for, and the place after it

-- of a read that only lacking bytes refuse
abbrev pub read_as : {V A : Type 0} → (V → A) → Result (V × ℕ) Eof → Answer A
read_as value (Ok x) = found (value x.0) x.1
read_as value (Err e) = refused (too_short e.0)

-- of one that may find no colour
abbrev pub lexed_as : {V A : Type 0} → (V → A) → Result (V × ℕ) LexError → Answer A
lexed_as value (Ok x) = found (value x.0) x.1
lexed_as value (Err e) = refused (fault_of e)

-- of a call that tells a number: how many bytes were written, or entries listed
abbrev pub outcome_as : {E : Type 0} → (E → Refusal) → Result ℕ E → Outcome
outcome_as why (Ok n) = wrote n
outcome_as why (Err e) = declined (why e)
