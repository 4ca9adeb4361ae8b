-- What the answers of the code stand for, with the buffer that the call leaves.
use Rattle.std.specs.Prelude.{ℕ, ◌&&◌, List, leb, Result, Ok, Err, Option as MayBe, Some, None}
use Rattle.form.specs.Numbers.{pick}
use Rattle.form.specs.Refusals as F
use Rattle.payload.specs.declared.answers.Text.{Text}
use Rattle.source.specs.declared.ParserSource.{ParserSource}
use Rattle.source.specs.declared.answers.ParserError.{ParserError}
use Rattle.source.specs.declared.answers.ParserError.TheVariants.{Eof, InvalidRgb, BufferTooSmall, ReadFailed, BadPlace}
use Rattle.source.specs.declared.answers.Stop.{Stop}
use Rattle.source.specs.Window.{Drawn, drawn, halted}

-- the refusal that an error stands for
abbrev pub refusal_of : ParserError → F.Refusal
refusal_of (Eof p m) = F.Eof p m
refusal_of (InvalidRgb p) = F.InvalidRgb p
refusal_of (BufferTooSmall p) = F.BufferTooSmall p
refusal_of (ReadFailed p) = F.ReadFailed p
refusal_of (BadPlace p) = F.BadPlace p

abbrev pub stop_answer : {A : Type 0} → Stop → List ℕ → Drawn A
stop_answer x buffer = halted (refusal_of x.error) x.next buffer

-- what a call answers: what the value stands for, and the state
abbrev pub drawn_as : {V A : Type 0} → (V → A) → Result (V × ParserSource) Stop → List ℕ → Drawn A
drawn_as value (Ok x) buffer = drawn (value x.0) x.1 buffer
drawn_as value (Err x) buffer = stop_answer x buffer

-- the state is all that is answered
abbrev pub ensured_answer : Result ParserSource Stop → List ℕ → Drawn (Unit {0})
ensured_answer (Ok s) buffer = drawn tt s buffer
ensured_answer (Err x) buffer = stop_answer x buffer

-- the state is the one that was asked
abbrev pub window_len_answer : ParserSource → Result ℕ ParserError → List ℕ → Drawn ℕ
window_len_answer s (Ok n) buffer = drawn n s buffer
window_len_answer s (Err e) buffer = halted (refusal_of e) s buffer

-- ---- what is refused

-- a state with a number that does not fit
unfoldable pub judged : ParserSource → MayBe ℕ → Result (Unit {0}) Stop
judged s None = Ok tt
judged s (Some p) = Err (record { error = BadPlace p; next = s })

-- Eof with no byte unread is no refusal to the optional forms
abbrev pub or_nothing : Stop → Result (MayBe Text × ParserSource) Stop
or_nothing x = pick (F.is_eof (refusal_of x.error) && leb x.next.end x.next.start) (Ok (None, x.next)) (Err x)
