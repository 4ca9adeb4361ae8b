-- The fast step: the next token of a window by its kind and length, with its number, length or id in eight held bytes.
use Rattle.std.specs.Prelude.{ℕ, ◌+◌, List, [], length, take, drop, leb}
use Rattle.form.specs.Numbers.{pick, le, le_bytes}
use Rattle.form.specs.Values.{Value, Open, Close, Equal, U32, U64, F32, F64, Lookup, Id, I32, I64, Truth, Quoted, Unquoted, Rgb, kind}
use Rattle.form.specs.Table.{Payload, number, text, colour, after}
use Rattle.form.specs.Writing.{over}

-- the kind and the length; or not fast
pub data Step : Type 0 where
  fast : ℕ → ℕ → Step
  slow : Step

-- with the eight bytes that are held after it
pub record Stepped : Type 0 where
  pub step : Step
  pub held : List ℕ

-- not fast: nothing is changed
abbrev pub stays : List ℕ → Stepped
stays held = record { step = slow; held = held }

-- what a token without a text puts to the front of the held bytes; n is the number that was read. A Bool puts the byte itself, and the
-- empty string eight zeros
unfoldable pub front : Value → ℕ → List ℕ
front Open n = []
front Close n = []
front Equal n = []
front (U32 x) n = le_bytes 4 n
front (U64 x) n = le_bytes 8 n
front (F32 x) n = le_bytes 4 n
front (F64 x) n = le_bytes 8 x
front (Lookup x) n = le_bytes 8 n
front (Id i) n = le_bytes 2 i
front (I32 z) n = le_bytes 4 n
front (I64 z) n = le_bytes 8 n
front (Truth b) n = le_bytes 1 n
front (Quoted t) n = le_bytes 8 n
front (Unquoted t) n = le_bytes 8 n
front (Rgb r g b a) n = []

-- a number n after the id: w bytes of it
unfoldable pub step_number : ℕ → (ℕ → Value) → ℕ → List ℕ → Stepped
step_number w f n held = record { step = fast (kind (f n)) (2 + w); held = over (front (f n) n) held }

-- a text of n bytes after its length, in a window of so many: its length is held
unfoldable pub step_text : (List ℕ → Value) → ℕ → ℕ → List ℕ → Stepped
step_text f n size held =
    pick (leb (4 + n) size) (record { step = fast (kind (f [])) (4 + n); held = over (le_bytes 2 n) held }) (stays held)

-- the payload p, after the id of the window s
unfoldable pub step_by : Payload → List ℕ → List ℕ → Stepped
step_by (number w f) s held = step_number w f (le (take w (drop 2 s))) held
step_by (text f) s held = step_text f (le (take 2 (drop 2 s))) (length s) held
step_by colour s held = stays held

-- a window of 16 bytes or more holds every token but strings and colours
unfoldable pub fast_step : List ℕ → List ℕ → Stepped
fast_step s held = pick (leb 16 (length s)) (step_by (after (le (take 2 s))) s held) (stays held)
