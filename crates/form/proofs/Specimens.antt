-- The marked specimens of FORMAT.md, and its worked example, as one table with one theorem. Assumes nothing.
use Prim.Native.Nat.{ℕ}
use mathlib.Core.Path.{◌≡◌, refl}
use mathlib.Core.Option.{Option, none}
use mathlib.Core.List.{List, [], ◌∷◌, map}
use lib.ListN.{replicate}
use lib.Dec.{lit≤}
use native.Mathlib.Omega.{arith}
use Rattle.form.specs.Numbers.{le, le_bytes}
use Rattle.form.specs.Values.{Value, F64, Lookup, Id, kind}
use Rattle.form.specs.Table.{table, entries, find, or_plain, after, reserved}
use Rattle.form.specs.Ids.{OPEN, CLOSE, CHANNEL}
use Rattle.form.specs.Refusals.{Eof, WideLookup, NoRoom, refusal_at}
use Rattle.form.specs.Readers.{further, and_then, mapped, ◌followed-by◌, ◌giving◌, at}
use Rattle.form.specs.Reading.{next, piece, num, string, rgb, payload, token}
use Rattle.form.specs.Skipping.{stepped, passing, or_stop, closed, turned, skip_f, skipping, skip_container, skip_value}
use Rattle.form.specs.Calls.{cursor_at, at_start, Call, gives, refuses, fits, within, ended, reads, optional, nexts, landed, skips}
use Rattle.form.specs.Spelling.{tag, body, spell, reason, writable, wide}
use Rattle.form.specs.Saves.{step, walk_f, walk, values, whole, tokens, spell_all, normal, all_narrow, Clean}
use Rattle.form.specs.Writing.{Output, written, unwritten, fitted, write, first_refusal, unless, normalise}

-- a question to the definitions: a call on bytes, from the start or from a cursor; a token or a save to be written, with so much room
pub data Ask : Type 0 where
  next-token read-token read-id skip-container : List ℕ → Ask
  skip-value-after : ℕ → ℕ → List ℕ → Ask
  writes : ℕ → Value → Ask
  normalises : ℕ → List ℕ → Ask

pub data Reply : Type 0 where
  value : Call Value → Reply
  value-or-none : Call (Option Value) → Reply
  number : Call ℕ → Reply
  skip : Call (Unit {0}) → Reply
  output : Output → Reply

unfoldable pub answer : Ask → Reply
answer (next-token s) = value-or-none (nexts (at token) s at_start)
answer (read-token s) = value (reads (at token) s at_start)
answer (read-id s) = number (reads (at (num 2)) s at_start)
answer (skip-container s) = skip (skips skip_container s at_start)
answer (skip-value-after i p s) = skip (skips (skip_value i) s (cursor_at p))
answer (writes room v) = output (write room v)
answer (normalises room s) = output (normalise room s)

pub record Specimen : Type 0 where
  pub ask : Ask
  pub reply : Reply

infix 10 ◌⇒◌
unfoldable pub ◌⇒◌ : Ask → Reply → Specimen
a ⇒ r = record { ask = a; reply = r }

-- a value, with the cursor after it
infix 15 ◌to◌
abbrev pub ◌to◌ : Value → ℕ → Reply
v to p = value (gives v (cursor_at p))

-- nothing read: the position and how many bytes are missing, and the cursor where it was
abbrev pub eof : {A : Type 0} → ℕ → ℕ → Call A
eof p m = refuses (Eof p m) (cursor_at p)

-- the worked example
unfoldable pub save : List ℕ
save = 0x01 ∷ 0x28 ∷ 0x01 ∷ 0x00 ∷ 0x03 ∷ 0x00 ∷ 0x4f ∷ 0x0d ∷ 0x05 ∷ 0x47 ∷ 0x0d ∷ 0x42 ∷ 0x0d ∷ 0x40 ∷ 0x0d ∷ 0x07 ∷ 0x04 ∷ 0x00 ∷ []

-- its tokens, each as Token::write spells it
unfoldable pub save_normal : List ℕ
save_normal =
    0x01 ∷ 0x28 ∷ 0x01 ∷ 0x00 ∷ 0x03 ∷ 0x00
    ∷ 0x67 ∷ 0x01 ∷ 0xfb ∷ 0xff ∷ 0xff ∷ 0xff ∷ 0xff ∷ 0xff ∷ 0xff ∷ 0xff
    ∷ 0x67 ∷ 0x01 ∷ 0x00 ∷ 0x00 ∷ 0x00 ∷ 0x00 ∷ 0x00 ∷ 0x00 ∷ 0x00 ∷ 0x00
    ∷ 0x0f ∷ 0x00 ∷ 0x00 ∷ 0x00
    ∷ 0x41 ∷ 0x0d ∷ 0x07 ∷ 0x00 ∷ 0x00
    ∷ 0x04 ∷ 0x00
    ∷ []

unfoldable pub specimens : List Specimen
specimens =
    (next-token [] ⇒ value-or-none (gives none (cursor_at 0)))
    ∷ (read-token [] ⇒ value (eof 0 2))
    ∷ (next-token (0x03 ∷ []) ⇒ value-or-none (eof 0 1))
    ∷ (read-token (0x03 ∷ []) ⇒ value (eof 0 1))
    ∷ (read-token (0x47 ∷ 0x0d ∷ []) ⇒ F64 (le (replicate 8 0)) to 2)
    ∷ (read-token (0x4f ∷ 0x0d ∷ 0x05 ∷ []) ⇒ F64 (le (0xfb ∷ replicate 7 0xff)) to 3)
    ∷ (read-token (0x55 ∷ 0x0d ∷ 0x01 ∷ replicate 6 0) ⇒ F64 (le (replicate 8 0xff)) to 9)
    ∷ (read-token (0x4e ∷ 0x0d ∷ replicate 7 0xff) ⇒ F64 (le (replicate 7 0xff)) to 9)
    ∷ (read-token (0x56 ∷ 0x0d ∷ []) ⇒ Id 3414 to 2)
    ∷ (read-token (0x0f ∷ 0x00 ∷ 0x02 ∷ 0x00 ∷ 0x61 ∷ []) ⇒ value (eof 0 1))
    ∷ (read-id (0x0f ∷ 0x00 ∷ 0x02 ∷ 0x00 ∷ 0x61 ∷ []) ⇒ number (gives 0x000f (cursor_at 2)))
    ∷ (skip-value-after 0x000f 2 (0x0f ∷ 0x00 ∷ 0x02 ∷ 0x00 ∷ 0x61 ∷ []) ⇒ skip (eof 2 1))
    ∷ (normalises 5 (0x3f ∷ 0x0d ∷ 0xff ∷ 0xff ∷ 0xff ∷ 0x00 ∷ []) ⇒ output (written (0x41 ∷ 0x0d ∷ 0xff ∷ 0xff ∷ 0xff ∷ [])))
    ∷ (read-token (0x3f ∷ 0x0d ∷ 0x00 ∷ 0x00 ∷ 0x00 ∷ 0x01 ∷ []) ⇒ Lookup 16777216 to 6)
    ∷ (writes 99 (Lookup 16777216) ⇒ output (unwritten (WideLookup 0)))
    ∷ (normalises 99 (0x3f ∷ 0x0d ∷ 0x00 ∷ 0x00 ∷ 0x00 ∷ 0x01 ∷ []) ⇒ output (unwritten (WideLookup 0)))
    ∷ (normalises 3 (0x0e ∷ 0x00 ∷ 0x02 ∷ []) ⇒ output (written (0x0e ∷ 0x00 ∷ 0x01 ∷ [])))
    ∷ (read-token (0x43 ∷ 0x02 ∷ 0x04 ∷ 0x00 ∷ []) ⇒ value (eof 0 20))
    ∷ (skip-container (0x43 ∷ 0x02 ∷ 0x04 ∷ 0x00 ∷ []) ⇒ skip (gives tt (cursor_at 4)))
    ∷ (normalises 37 save ⇒ output (written save_normal))
    ∷ (normalises 36 save ⇒ output (unwritten (NoRoom 37)))
    ∷ []

-- the definitions answer each specimen as FORMAT.md says
pub specimens-hold : map (λ (s : Specimen). answer s.ask) specimens ≡ map (λ (s : Specimen). s.reply) specimens
unfolding answer specimens save save_normal ◌⇒◌ le le_bytes kind table entries find or_plain after OPEN CLOSE CHANNEL refusal_at further
    and_then mapped ◌followed-by◌ ◌giving◌ next piece num string rgb payload token at fits within ended reads optional nexts landed skips tag body spell
    reserved reason stepped passing or_stop closed turned skip_f skipping skip_container skip_value step walk_f walk values tokens spell_all normal fitted write
    first_refusal unless normalise
specimens-hold = refl

pub save-clean : Clean save
unfolding save le kind table entries find or_plain after further and_then mapped ◌followed-by◌ ◌giving◌ next num payload token reason writable wide step walk_f walk values whole tokens all_narrow
save-clean = record { limit = lit≤ tt; bytes = omega arith; ends = tt; narrow = tt }
