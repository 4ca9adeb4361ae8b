-- No public promise goes through this file. Any sequence of calls on one source, whose buffer, supply and schedule come back untouched by
-- others.
use Rattle.std.specs.Prelude.{ℕ, ◌-◌, ◌≡◌, List, [], ◌∷◌, ◌++◌, length, take, drop}
use Rattle.source.specs.declared.ParserSource.{ParserSource}
use Rattle.source.specs.Window.{Drawn, drawn, halted, window, ensured, refilled, advanced, window_len, taken, tried, peeked}
use Rattle.source.specs.Binary.{id, peeked_id, string, colour}

-- the calls; those on bytes are as those on arrays
pub data Ask : Type 0 where
  ensure-bytes advance take_next try-take peek : ℕ → Ask
  refill window-len read-bstr read-lexeme-id peek-lexeme-id read-rgb : Ask

-- what is to come: the window, and then the supply that is left
abbrev pub ahead : List ℕ → ParserSource → List ℕ → List ℕ
ahead supply s buffer = window supply s buffer ++ drop s.supply supply

-- between two calls: the state, the buffer and all the bytes consumed
pub record World : Type 0 where
  pub state : ParserSource
  pub buffer : List ℕ
  pub consumed : List ℕ

-- a call consumes those of the bytes to come that its position passes
abbrev pub passed : List ℕ → World → ParserSource → List ℕ → World
passed supply w s buffer = record {
  state = s;
  buffer = buffer;
  consumed = w.consumed ++ take (s.position - w.state.position) (ahead supply w.state w.buffer);
}

unfoldable pub leaving : {A : Type 0} → List ℕ → World → Drawn A → World
leaving supply w (drawn a s buffer) = passed supply w s buffer
leaving supply w (halted r s buffer) = passed supply w s buffer

module _ (supply schedule : List ℕ) where
  unfoldable pub asked : Ask → World → World
  asked (ensure-bytes n) w = leaving supply w (ensured supply schedule n w.state w.buffer)
  asked (advance n) w = leaving supply w (advanced supply schedule n w.state w.buffer)
  asked (take_next n) w = leaving supply w (taken supply schedule n w.state w.buffer)
  asked (try-take n) w = leaving supply w (tried supply schedule n w.state w.buffer)
  asked (peek n) w = leaving supply w (peeked supply schedule n w.state w.buffer)
  asked refill w = leaving supply w (refilled supply schedule w.state w.buffer)
  asked window-len w = leaving supply w (window_len supply schedule w.state w.buffer)
  asked read-bstr w = leaving supply w (string supply schedule w.state w.buffer)
  asked read-lexeme-id w = leaving supply w (id supply schedule w.state w.buffer)
  asked peek-lexeme-id w = leaving supply w (peeked_id supply schedule w.state w.buffer)
  asked read-rgb w = leaving supply w (colour supply schedule w.state w.buffer)

  unfoldable pub run : List Ask → World → World
  run [] w = w
  run (q ∷ qs) w = run qs (asked q w)

-- a source before its first call
abbrev pub fresh : ParserSource → List ℕ → World
fresh s buffer = record { state = s; buffer = buffer; consumed = [] }

-- bytes consumed, then the window, then the supply left are the supply; the position is the number consumed
pub record Conserved (supply : List ℕ) (w : World) : Type 0 where
  pub joined : w.consumed ++ ahead supply w.state w.buffer ≡ supply
  pub counted : w.state.position ≡ length w.consumed
