-- The window: what each call answers, the state that it leaves and every byte of the buffer.
use Rattle.std.specs.Prelude.{ℕ, ◌+◌, ◌-◌, Bool, true, false, ◌&&◌, List, [], ◌++◌, length, take, drop, leb, ltb, Option as MayBe, Some, None}
use Rattle.std.proofs.Math.Option.{Option, none, some}
use Rattle.std.proofs.lemmas.List.Edits.{sets}
use Rattle.form.specs.Numbers.{pick, MAX}
use Rattle.form.specs.Refusals.{Refusal, Eof, BufferTooSmall, ReadFailed, BadPlace, is_eof}
use Rattle.source.specs.declared.ParserSource.{ParserSource}
use Rattle.source.specs.declared.reads.Reads.{Reads}
use Rattle.payload.specs.declared.answers.Text.{Text}
use Rattle.payload.specs.Texts.{part_of}
use Rattle.source.specs.Reads.{one, fill}

-- ---- the state

-- nothing is read
abbrev pub new_stream : ParserSource
new_stream = record { start = 0; end = 0; supply = 0; schedule = 0; position = 0; streaming = true }

-- all n bytes of the supply are handed over, and the window lies in the supply itself
abbrev pub new_slice : ℕ → ParserSource
new_slice n = record { start = 0; end = n; supply = n; schedule = 0; position = 0; streaming = false }

-- how many bytes are unread
abbrev pub unread : ParserSource → ℕ
unread s = s.end - s.start

-- the unread bytes, in the bytes that hold them
abbrev pub unread_in : ParserSource → List ℕ → List ℕ
unread_in s held = take (unread s) (drop s.start held)

-- the first number of a state that does not fit, if any, where the window lies in so many bytes, with a supply and a schedule so long
unfoldable pub checked : ParserSource → ℕ → ℕ → ℕ → MayBe ℕ
checked s held supply schedule =
    pick (ltb s.end s.start) (Some s.start)
    (pick (ltb held s.end) (Some s.end)
    (pick (ltb supply s.supply) (Some s.supply)
    (pick (ltb schedule s.schedule) (Some s.schedule)
    (pick (ltb MAX (s.position + unread s + (supply - s.supply))) (Some s.position) None))))

-- n of the unread bytes are read
abbrev pub read_past : ℕ → ParserSource → ParserSource
read_past n s = record {
  start = s.start + n;
  end = s.end;
  supply = s.supply;
  schedule = s.schedule;
  position = s.position + n;
  streaming = s.streaming;
}

-- the unread bytes are at the front, and behind them what reads gave
abbrev pub filled : ParserSource → Reads → ParserSource
filled s r = record {
  start = 0;
  end = unread s + r.got;
  supply = s.supply + r.got;
  schedule = s.schedule + r.used;
  position = s.position;
  streaming = s.streaming;
}

-- ---- calls

-- what a call answers, or why it refuses; the state that it leaves; and the buffer
pub data Drawn (A : Type 0) : Type 0 where
  drawn : A → ParserSource → List ℕ → Drawn A
  halted : Refusal → ParserSource → List ℕ → Drawn A

-- from a state and a buffer
abbrev pub Draw : Type 0 → Type 0
Draw A = ParserSource → List ℕ → Drawn A

unfoldable pub drawn_then : {A B : Type 0} → Drawn A → (A → Draw B) → Drawn B
drawn_then (drawn a s buffer) f = f a s buffer
drawn_then (halted r s buffer) f = halted r s buffer

-- a call, and then what g says; where it refuses, that is the end
infixr 20 ◌then◌
unfoldable pub ◌then◌ : {A B : Type 0} → Draw A → (A → Draw B) → Draw B
◌then◌ f g s buffer = drawn_then (f s buffer) g

unfoldable pub if_fine : {A : Type 0} → MayBe ℕ → ParserSource → List ℕ → Drawn A → Drawn A
if_fine None s buffer x = x
if_fine (Some p) s buffer x = halted (BadPlace p) s buffer

-- a part of the bytes; empty where the call is refused
unfoldable pub if_given : {A : Type 0} → Drawn A → List ℕ → List ℕ
if_given (drawn a s buffer) part = part
if_given (halted r s buffer) part = []

-- refused for Eof with no byte unread: there is nothing
unfoldable pub attempted : {A : Type 0} → Drawn A → Drawn (Option A)
attempted (drawn a s buffer) = drawn (some a) s buffer
attempted (halted r s buffer) = pick (is_eof r && leb s.end s.start) (drawn none s buffer) (halted r s buffer)

-- n bytes from a place
abbrev pub text_at : ℕ → ℕ → Text
text_at start n = record { start = start; len = n }

-- ---- over a supply

module _ (supply : List ℕ) where
  -- the bytes that hold the window: of a stream the buffer, of a slice the supply
  abbrev pub held_in : ParserSource → List ℕ → List ℕ
  held_in s buffer = pick s.streaming buffer supply

  -- the unread bytes
  abbrev pub window : ParserSource → List ℕ → List ℕ
  window s buffer = unread_in s (held_in s buffer)

  -- the buffer where reads gave r: the unread bytes, those of the supply, and then the bytes that were there
  abbrev pub filled_in : ParserSource → Reads → List ℕ → List ℕ
  filled_in s r buffer = sets buffer 0 (unread_in s buffer ++ take r.got (drop s.supply supply))

  -- what was moved and read stays, also where a read failed or too little came
  unfoldable pub topped_by : ℕ → ParserSource → List ℕ → Reads → Drawn (Unit {0})
  topped_by n s buffer r =
      pick r.failed (halted (ReadFailed s.position) (filled s r) (filled_in s r buffer))
      (pick (leb n (unread s + r.got)) (drawn tt (filled s r) (filled_in s r buffer)) (halted (Eof s.position (n - (unread s + r.got))) (filled s r) (filled_in s r buffer)))

  unfoldable pub once_by : ParserSource → List ℕ → Reads → Drawn ℕ
  once_by s buffer r =
      pick r.failed (halted (ReadFailed s.position) (filled s r) (filled_in s r buffer)) (drawn r.got (filled s r) (filled_in s r buffer))

  -- the bytes of a text; none where it does not lie within those that hold the window
  abbrev pub text_in : Text → ParserSource → List ℕ → List ℕ
  text_in t s buffer = part_of (held_in s buffer) t

  -- the part that an answer hands over: empty where there is nothing or it is refused
  unfoldable pub taken_part : Drawn Text → List ℕ
  taken_part (drawn t s buffer) = text_in t s buffer
  taken_part (halted r s buffer) = []

  unfoldable pub tried_part : Drawn (Option Text) → List ℕ
  tried_part (drawn (some t) s buffer) = text_in t s buffer
  tried_part (drawn none s buffer) = []
  tried_part (halted r s buffer) = []

-- ---- over a supply and a schedule

module _ (supply schedule : List ℕ) where
  abbrev pub checked_in : ParserSource → List ℕ → MayBe ℕ
  checked_in s buffer = checked s (length (held_in supply s buffer)) (length supply) (length schedule)

  -- a state that does not fit is refused before anything else, and nothing is moved
  unfoldable pub fitting : {A : Type 0} → Draw A → Draw A
  fitting f s buffer = if_fine (checked_in s buffer) s buffer (f s buffer)

  -- `refill_slow` of a stream
  unfoldable pub topped : ℕ → Draw (Unit {0})
  topped n s buffer = topped_by supply n s buffer (fill (length buffer - unread s) (length supply - s.supply) (drop s.schedule schedule))

  -- `ensure_bytes`
  unfoldable pub ensured : ℕ → Draw (Unit {0})
  ensured n =
      fitting (λ s buffer. pick (leb n (unread s)) (drawn tt s buffer)
      (pick s.streaming (pick (leb n (length buffer)) (topped n s buffer) (halted (BufferTooSmall s.position) s buffer))
      (halted (Eof s.position (n - unread s)) s buffer)))

  -- one read of a stream
  unfoldable pub once : Draw ℕ
  once s buffer = once_by supply s buffer (one (length buffer - unread s) (length supply - s.supply) (drop s.schedule schedule))

  -- `refill`
  unfoldable pub refilled : Draw ℕ
  refilled =
      fitting (λ s buffer. pick s.streaming (pick (leb (length buffer) (unread s)) (halted (BufferTooSmall s.position) s buffer) (once s buffer))
      (drawn 0 s buffer))

  -- `advance`
  unfoldable pub advanced : ℕ → Draw Bool
  advanced n = fitting (λ s buffer. pick (leb n (unread s)) (drawn true (read_past n s) buffer) (drawn false s buffer))

  -- `window_len`
  unfoldable pub window_len : Draw ℕ
  window_len = fitting (λ s buffer. drawn (unread s) s buffer)

  -- `window`: empty where the state is refused
  unfoldable pub window_of : ParserSource → List ℕ → List ℕ
  window_of s buffer = if_given (window_len s buffer) (window supply s buffer)

  -- `take` and `take_bytes`
  unfoldable pub taken : ℕ → Draw Text
  taken n = ensured n then (λ _ s buffer. drawn (text_at s.start n) (read_past n s) buffer)

  -- `try_take` and `try_take_bytes`
  unfoldable pub tried : ℕ → Draw (Option Text)
  tried n s buffer = attempted (taken n s buffer)

  -- `peek`
  unfoldable pub peeked : ℕ → Draw (Option Text)
  peeked n s buffer = attempted ((ensured n then (λ _ t b. drawn (text_at t.start n) t b)) s buffer)
