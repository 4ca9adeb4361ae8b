-- Reading the format through the window: numbers, ids, strings and colours.
use Rattle.std.specs.Prelude.{ℕ, ◌+◌, List, take, drop, eqb}
use Rattle.std.proofs.Math.Option.{Option, none, some}
use Rattle.form.specs.Numbers.{pick, le}
use Rattle.form.specs.Values.{Value, Rgb}
use Rattle.form.specs.Ids.{OPEN, CLOSE, CHANNEL}
use Rattle.form.specs.Refusals.{InvalidRgb}
use Rattle.payload.specs.declared.answers.Text.{Text}
use Rattle.source.specs.declared.ParserSource.{ParserSource}
use Rattle.source.specs.Window.{read_past, drawn, halted, Draw, ◌then◌, text_at, held_in, ensured, taken, peeked}

-- the number that n bytes from a place spell
abbrev pub spelled_at : List ℕ → ℕ → ParserSource → ℕ → List ℕ → ℕ
spelled_at supply n s at buffer = le (take n (drop at (held_in supply s buffer)))

-- an id that is not the one expected: the source stays after it, and that is the position
abbrev pub invalid : {A : Type 0} → Draw A
invalid s buffer = halted (InvalidRgb s.position) s buffer

unfoldable pub mapped_option : {A B : Type 0} → (A → B) → Option A → Option B
mapped_option f none = none
mapped_option f (some a) = some (f a)

module _ (supply schedule : List ℕ) where
  -- the number that the next n bytes spell, which are read
  unfoldable pub number : ℕ → Draw ℕ
  number n = taken supply schedule n then (λ t s buffer. drawn (spelled_at supply n s t.start buffer) s buffer)

  -- `read_lexeme_id`
  abbrev pub id : Draw ℕ
  id = number 2

  -- `peek_lexeme_id`
  unfoldable pub peeked_id : Draw (Option ℕ)
  peeked_id = peeked supply schedule 2 then (λ o s buffer. drawn (mapped_option (λ t. spelled_at supply 2 s t.start buffer) o) s buffer)

  -- a string of n bytes whose length is unread before it: it is read when it is whole
  unfoldable pub string_of : ℕ → Draw Text
  string_of n = ensured supply schedule (2 + n) then (λ _ s buffer. drawn (text_at (s.start + 2) n) (read_past (2 + n) s) buffer)

  -- `read_bstr`
  unfoldable pub string : Draw Text
  string = ensured supply schedule 2 then (λ _ s buffer. string_of (spelled_at supply 2 s s.start buffer) s buffer)

  -- an id that has to be this one
  unfoldable pub expected : ℕ → Draw (Unit {0})
  expected i = id then (λ j. pick (eqb j i) (drawn tt) invalid)

  -- a channel of a colour
  unfoldable pub channel : Draw ℕ
  channel = expected CHANNEL then (λ _. number 4)

  -- a colour's alpha and its end
  unfoldable pub with_alpha : ℕ → ℕ → ℕ → Draw Value
  with_alpha r g b = number 4 then (λ a. expected CLOSE then (λ _. drawn (Rgb r g b (some a))))

  -- what an id after the third channel says
  unfoldable pub ended_by : ℕ → ℕ → ℕ → ℕ → Draw Value
  ended_by r g b e = pick (eqb e CLOSE) (drawn (Rgb r g b none)) (pick (eqb e CHANNEL) (with_alpha r g b) invalid)

  -- what follows the third channel
  unfoldable pub ending : ℕ → ℕ → ℕ → Draw Value
  ending r g b = id then ended_by r g b

  unfoldable pub channels : Draw Value
  channels = channel then (λ r. channel then (λ g. channel then (λ b. ending r g b)))

  -- `read_rgb`: each id is judged as it comes
  unfoldable pub colour : Draw Value
  colour = expected OPEN then (λ _. channels)
