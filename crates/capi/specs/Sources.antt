-- The calls on a source, whose state a caller keeps as six words: what the caller has after each.
use Rattle.std.specs.Prelude.{ℕ, List, [], ◌∷◌, ◌++◌, length, drop, get_or, leb, eqb, Result, Ok, Err}
use Rattle.form.specs.Numbers.{pick}
use Rattle.form.specs.Spelling.{bit}
use Rattle.form.specs.Calls as F
use Rattle.payload.specs.declared.answers.Text.{Text}
use Rattle.source.specs.declared.ParserSource.{ParserSource}
use Rattle.source.specs.Window.{Drawn, drawn, halted, Draw, drawn_then, text_at, window_len}
use Rattle.capi.specs.Replies.{ANSWERED, SHORT_ANSWER, BAD_ARGUMENT, Reply, Returned, returned, into}
use Rattle.capi.specs.Code.{as_reply}
use Rattle.capi.specs.declared.states.BadCall.{BadCall}
use Rattle.capi.specs.declared.states.BadCall.TheVariants.{ShortAnswer, BadArgument}
use Rattle.capi.specs.declared.source_replies.SourceReply as C

-- ---- the state

abbrev pub state_words : ParserSource → List ℕ
state_words s = s.start ∷ s.end ∷ s.supply ∷ s.schedule ∷ s.position ∷ bit s.streaming ∷ []

abbrev pub state_of : List ℕ → ParserSource
state_of ws = record {
  start = get_or ws 0 0;
  end = get_or ws 1 0;
  supply = get_or ws 2 0;
  schedule = get_or ws 3 0;
  position = get_or ws 4 0;
  streaming = eqb (get_or ws 5 0) 1;
}

-- a state in the first six words; the others stay
abbrev pub with_state : ParserSource → List ℕ → List ℕ
with_state s l = state_words s ++ drop 6 l

-- the state that is handed over, or why there is none: the answer list is tested first
unfoldable pub asked : List ℕ → List ℕ → Result ParserSource BadCall
asked answer state =
    pick (leb 8 (length answer))
    (pick (leb 6 (length state)) (pick (leb (get_or state 5 0) 1) (Ok (state_of state)) (Err BadArgument)) (Err BadArgument))
    (Err ShortAnswer)

-- the number to return then
abbrev pub bad_call_number : BadCall → ℕ
bad_call_number ShortAnswer = SHORT_ANSWER
bad_call_number BadArgument = BAD_ARGUMENT

-- `from_slice` and `from_reader`: a new state, where there is room for it
unfoldable pub begun : ParserSource → List ℕ → Returned
begun s l = pick (leb 6 (length l)) (returned ANSWERED (with_state s l)) (returned BAD_ARGUMENT l)

-- ---- a call

-- what a call leaves: its reply, the state and the buffer
pub record SourceReply : Type 0 where
  pub reply : Reply
  pub next : ParserSource
  pub buffer : List ℕ

abbrev pub source_reply : Reply → ParserSource → List ℕ → SourceReply
source_reply r s buffer = record { reply = r; next = s; buffer = buffer }

-- what the code's stands for, with the buffer
abbrev pub source_reply_of : C.SourceReply → List ℕ → SourceReply
source_reply_of x buffer = source_reply (as_reply x.reply) x.next buffer

-- by the reply to what is answered, with the position for a cursor
abbrev pub source_reply_at : {A : Type 0} → (F.Call A → Reply) → Drawn A → SourceReply
source_reply_at reply (drawn a s buffer) = source_reply (reply (F.gives a (F.cursor_at s.position))) s buffer
source_reply_at reply (halted r s buffer) = source_reply (reply (F.refuses r (F.cursor_at s.position))) s buffer

-- from a buffer
abbrev pub source_reply_to : {A : Type 0} → (F.Call A → Reply) → (List ℕ → Drawn A) → List ℕ → SourceReply
source_reply_to reply f buffer = source_reply_at reply (f buffer)

-- what the caller has then: the number returned with the answer list, the list of the state and the buffer
pub record Caller : Type 0 where
  pub answer : Returned
  pub state : List ℕ
  pub buffer : List ℕ

abbrev pub caller_has : Returned → List ℕ → List ℕ → Caller
caller_has r state buffer = record { answer = r; state = state; buffer = buffer }

abbrev pub handed : List ℕ → List ℕ → SourceReply → Caller
handed answer state x = caller_has (into answer x.reply) (with_state x.next state) x.buffer

-- any call, by the reply to what it answers; where no state is handed over nothing is changed
module _ {A : Type 0} (reply : F.Call A → Reply) (call : Draw A) (answer state buffer : List ℕ) where
  unfoldable pub called_from : Result ParserSource BadCall → Caller
  called_from (Ok s) = handed answer state (source_reply_to reply (call s) buffer)
  called_from (Err e) = caller_has (returned (bad_call_number e) answer) state buffer

  unfoldable pub called : Caller
  called = called_from (asked answer state)

-- ---- `window`

-- as many bytes as are unread, from where they start
abbrev pub as_part : Drawn ℕ → Drawn Text
as_part x = drawn_then x (λ n s buffer. drawn (text_at s.start n) s buffer)

unfoldable pub window_part : List ℕ → List ℕ → Draw Text
window_part supply schedule s buffer = as_part (window_len supply schedule s buffer)
