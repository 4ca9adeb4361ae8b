-- Laws of the calls on a source, whatever is called. Assumes nothing.
use Prim.Native.Nat.{ℕ, ◌+◌, ◌≤◌}
use native.Mathlib.Omega.{arith}
use mathlib.Core.Path.{◌≡◌, refl, subst}
use mathlib.Core.Bool.{Bool, true, false}
use mathlib.Core.List.{List}
use lib.ListN.{length}
use borrow.Author.Tests.{le-leb}
use Rattle.form.specs.Calls as F
use Rattle.std.proofs.Common.{Result, Ok}
use Rattle.source.specs.Answers.{window_len_answer}
use Rattle.source.specs.declared.answers.ParserError.{ParserError}
use Rattle.source.specs.declared.ParserSource.{ParserSource}
use Rattle.source.specs.Window.{Drawn, drawn, Draw, drawn_then, if_given, unread, held_in, window, taken_part, window_len, window_of}
use Rattle.source.proofs.Cases.{by-check, held}
use Rattle.capi.specs.Replies.{Reply, reply_of, returned, into}
use Rattle.capi.specs.Code.{as_reply}
use Rattle.capi.specs.Words.{text_words}
use Rattle.capi.specs.Sources.{with_state, asked, source_reply_of, source_reply_to, caller_has, called_from, called, as_part, window_part}
use Rattle.capi.specs.declared.states.BadCall.{BadCall}
use Rattle.capi.specs.declared.source_replies.SourceReply as C

-- the next call begins with the state that the last one put back
pub read_back : (s : ParserSource) (answer l : List ℕ) → 8 ≤ length answer → asked answer (with_state s l) ≡ Ok s
unfolding asked
read_back s answer l h = go s.streaming refl
  where
    six : 6 ≤ length (with_state s l)
    six = omega arith

    go : (b : Bool) → s.streaming ≡ b → asked answer (with_state s l) ≡ Ok s
    go true e = rw (le-leb 8 (length answer) h, le-leb 6 (length (with_state s l)) six, e)
    go false e = rw (le-leb 8 (length answer) h, le-leb 6 (length (with_state s l)) six, e)

-- ---- a call's three steps: a state is asked for, the source answers, and all is handed over

module _ (answer state : List ℕ) {a : Result ParserSource BadCall} (ask : a ≡ asked answer state) {A : Type 0} (reply : F.Call A → Reply) (call : Draw A) (buffer : List ℕ) where
  -- f is what the source answered, and x what is handed over
  pub called-by : {s : ParserSource} (f : List ℕ → Drawn A) (x : C.SourceReply) {n : ℕ} {list words bytes : List ℕ}
      → a ≡ Ok s → f bytes ≡ call s buffer → source_reply_of x bytes ≡ source_reply_to reply f bytes
      → (returned n list ≡ into answer (as_reply x.reply)) × (words ≡ with_state x.next state)
      → caller_has (returned n list) words bytes ≡ called reply call answer state buffer
  unfolding called called_from
  called-by f x e g l h = rw (← ask, e, ← g, ← l, h.0, h.1)

-- ---- `window`

-- the reply of what is handed on is that of what the source answered
pub part-of : (s : ParserSource) (x : C.SourceReply) {r t : Result ℕ ParserError} {buffer : List ℕ}
    → source_reply_of x buffer ≡ source_reply_to (reply_of text_words) (λ l. as_part (window_len_answer s r l)) buffer → r ≡ t
    → source_reply_of x buffer ≡ source_reply_to (reply_of text_words) (λ l. as_part (window_len_answer s t l)) buffer
part-of s x {buffer = buffer} h e = subst (λ r. source_reply_of x buffer ≡ source_reply_to (reply_of text_words) (λ l. as_part (window_len_answer s r l)) buffer) e h

-- the bytes of its part are those of `window`
pub part_bytes : (supply schedule : List ℕ) (s : ParserSource) (buffer : List ℕ) → taken_part supply (window_part supply schedule s buffer) ≡ window_of supply schedule s buffer
unfolding window_part window_of window_len if_given drawn_then taken_part
part_bytes supply schedule s buffer =
    by-check
    supply
    schedule
    s
    buffer
    (λ x. taken_part supply (as_part x) ≡ if_given x (window supply s buffer))
    (λ t b. drawn (unread t) t b)
    (λ p. refl)
    (λ e. let g = held supply schedule s buffer e in rw (le-leb (s.start + unread s) (length (held_in supply s buffer)) (omega (arith, g.ordered, g.within))))
