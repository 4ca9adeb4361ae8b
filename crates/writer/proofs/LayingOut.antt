-- The layout of each token: writing it is writing the token. Assumes nothing.
use Prim.Native.Nat.{ℕ, ◌+◌}
use native.Mathlib.Omega.{arith}
use mathlib.Core.Path.{◌≡◌, refl}
use mathlib.Core.Bool.{Bool, true, false}
use mathlib.Core.Option.{none, some}
use mathlib.Core.List.{List}
use lib.ListN.{length, take, drop}
use lib.Dec.{ltb}
use borrow.Author.Tests.{leb-true}
use mir.Syntax.{w32, w64}
use mir.Val.{of_z}
use Rattle.form.specs.Numbers.{pick, le_bytes}
use Rattle.form.specs.Values.{kind}
use Rattle.form.specs.Table.{table, entries}
use Rattle.form.specs.Spelling.{tag, body, spell, reason, bit}
use Rattle.form.specs.Refusals.{LongString, BadPlace}
use Rattle.form.specs.Writing.{Output, fitted, unless, write}
use Rattle.laws.proofs.Never.{never}
use Rattle.laws.proofs.Runs.{part_length}
use Rattle.payload.specs.declared.answers.Text.{Text as Place}
use Rattle.token.specs.declared.Token.{Token}
use Rattle.token.specs.declared.Token.TheVariants as T
use Rattle.token.specs.Tokens.{value_of}
use Rattle.payload.specs.Texts.{lies, part_of}
use Rattle.token.specs.Texts.{place_of}
use Rattle.writer.specs.Writes.{misplaced, write_token}
use Rattle.writer.specs.declared.layout.Layout.{Layout}
use Rattle.writer.specs.declared.layout.Layout.TheVariants.{Number, Text, Lookup, Rgb, Id}
use Rattle.writer.specs.Layouts.{id_text, spelled_by, misplaced_by, reason_by, write_by, LaysOut}

-- a text that lies within the bytes is as long as it says
pub text-length : (s : List ℕ) (t : Place) → lies s t ≡ true → length (take t.len (drop t.start s)) ≡ t.len
text-length s t h = part_length s t.start t.len (omega (arith, leb-true (t.start + t.len) (length s) h))

pub placed-length : (s : List ℕ) (t : Place) → place_of s t ≡ none → length (part_of s t) ≡ t.len
placed-length s t q = go (lies s t) refl q
  where
    go : (b : Bool) → lies s t ≡ b → pick b none (some (BadPlace t.start)) ≡ none → length (part_of s t) ≡ t.len
    go true h q = rw h (text-length s t h)
    go false h q = never (cc)

-- of a text that does not, nothing is written
text_same : (s : List ℕ) (t : Place) (f : List ℕ → ℕ → Output)
    → (let x = take t.len (drop t.start s) in unless (place_of s t) (f (part_of s t) t.len) ≡ unless (place_of s t) (f x (length x)))
unfolding unless
text_same s t f = go (lies s t) refl
  where
    x : List ℕ
    x = take t.len (drop t.start s)

    go : (b : Bool) → lies s t ≡ b → unless (place_of s t) (f (part_of s t) t.len) ≡ unless (place_of s t) (f x (length x))
    go true h = rw (h, text-length s t h)
    go false h = rw h

-- a text of at most 65,535 bytes, under an id
abbrev texted : ℕ → ℕ → List ℕ → ℕ → Output
texted room i x n = unless (pick (ltb n 65536) none (some (LongString 0))) (fitted room (id_text i x))

abbrev pub layout_for : Token → Layout
layout_for T.Open = Number (record { 0 = 0x0003 }) 0 0
layout_for T.Close = Number (record { 0 = 0x0004 }) 0 0
layout_for T.Equal = Number (record { 0 = 0x0001 }) 0 0
layout_for (T.U32 n) = Number (record { 0 = 0x0014 }) 4 n
layout_for (T.U64 n) = Number (record { 0 = 0x029c }) 8 n
layout_for (T.I32 z) = Number (record { 0 = 0x000c }) 4 (of_z w32 z)
layout_for (T.Bool b) = Number (record { 0 = 0x000e }) 1 (bit b)
layout_for (T.Quoted t) = Text (record { 0 = 0x000f }) t
layout_for (T.Unquoted t) = Text (record { 0 = 0x0017 }) t
layout_for (T.F32 n) = Number (record { 0 = 0x000d }) 4 n
layout_for (T.F64 n) = Number (record { 0 = 0x0167 }) 8 n
layout_for (T.Rgb c) = Rgb c
layout_for (T.I64 z) = Number (record { 0 = 0x0317 }) 8 (of_z w64 z)
layout_for (T.Lookup n) = Lookup n
layout_for (T.Id i) = Id i

pub lays-out : (t : Token) → LaysOut t (layout_for t)
unfolding write_by misplaced_by reason_by spelled_by write_token misplaced value_of write reason spell tag body le_bytes unless kind entries table
lays-out T.Open room s = refl
lays-out T.Close room s = refl
lays-out T.Equal room s = refl
lays-out (T.U32 n) room s = refl
lays-out (T.U64 n) room s = refl
lays-out (T.I32 z) room s = refl
lays-out (T.Bool b) room s = refl
lays-out (T.Quoted t) room s = text_same s t (texted room 0x000f)
lays-out (T.Unquoted t) room s = text_same s t (texted room 0x0017)
lays-out (T.F32 n) room s = refl
lays-out (T.F64 n) room s = refl
lays-out (T.Rgb c) room s = refl
lays-out (T.I64 z) room s = refl
lays-out (T.Lookup n) room s = refl
lays-out (T.Id i) room s = refl
