-- Examples of tables of contents: a save's entries, which of them holds a position, and the file that keeps them. Assumes nothing.
use Prim.Native.Nat.{ℕ}
use mathlib.Core.Path.{◌≡◌, refl}
use mathlib.Core.Bool.{false}
use mathlib.Core.Option.{none, some}
use mathlib.Core.List.{List, [], ◌∷◌}
use lib.ListN.{replicate}
use Rattle.form.specs.Numbers.{le, le_bytes}
use Rattle.form.specs.Values.{kind}
use Rattle.form.specs.Table.{table, entries, find, or_plain, after}
use Rattle.form.specs.Refusals.{Eof, ListFull, BadIndex, NoRoom, refusal_at}
use Rattle.form.specs.Readers.{further, and_then, mapped, ◌followed-by◌, ◌giving◌}
use Rattle.form.specs.Reading.{next, num, payload, token}
use Rattle.form.specs.Saves.{step, walk_f, walk}
use Rattle.form.specs.Writing.{written, unwritten, fitted}
use Rattle.form.specs.Keys.{is_open, is_close, is_equal, deeper, ahead, makes_key, is_key, those, keys_of}
use Rattle.form.specs.Finding.{cut_by}
use Rattle.form.specs.Contents.{Entry, span, entries_to, contents, in_order, holds_at, holder, keys_up_to, holder_in, filled, unfilled, room_for, unless_cut, fill, held, nowhere, unsearched, search, flat, big, big_number, big_all, file, write_file, entries_in, entries_of, is_file, read_file}

-- a stray, then two keys
abbrev save : List ℕ
save = 0x04 ∷ 0x00 ∷ 0x01 ∷ 0x28 ∷ 0x01 ∷ 0x00 ∷ 0x03 ∷ 0x00 ∷ 0x02 ∷ 0x28 ∷ 0x01 ∷ 0x00 ∷ 0x04 ∷ 0x00
    ∷ 0x04 ∷ 0x00 ∷ 0x01 ∷ 0x28 ∷ 0x03 ∷ 0x00 ∷ 0x04 ∷ 0x00 ∷ 0x04 ∷ 0x00 ∷ []

abbrev two : List Entry
two = span 2 16 ∷ span 16 24 ∷ []

-- the second begins after the first's end
abbrev gap : List Entry
gap = span 2 16 ∷ span 17 24 ∷ []

abbrev kept : List ℕ
kept = 1 ∷ 0 ∷ 0 ∷ 0 ∷ 16 ∷ 0 ∷ 0 ∷ 0 ∷ 2 ∷ 0 ∷ 0 ∷ 0 ∷ 16 ∷ 0 ∷ 0 ∷ 0 ∷ 16 ∷ 0 ∷ 0 ∷ 0 ∷ 24 ∷ []

-- what stands before the first key is in no entry; a list that is too short is refused, and what cannot be read before that
pub contents-hold : (contents save ≡ two)
    × (fill 2 save ≡ filled two)
    × (fill 1 save ≡ unfilled (ListFull 2))
    × (fill 0 (0x01 ∷ 0x28 ∷ 0x01 ∷ 0x00 ∷ 0x04 ∷ []) ≡ unfilled (Eof 4 1))
    × (fill 0 [] ≡ filled [])
unfolding le kind table entries find or_plain after refusal_at further and_then mapped ◌followed-by◌ ◌giving◌ next num payload token step walk_f walk is_open
    is_close is_equal deeper ahead makes_key is_key those keys_of cut_by entries_to contents room_for unless_cut fill
contents-hold = (refl, refl, refl, refl, refl)

-- an entry holds its start and not its end; an empty list is in order, one with a gap or an empty entry is not
pub search-holds : (search two 16 ≡ held 1)
    × (search two 15 ≡ held 0)
    × (search two 2 ≡ held 0)
    × (search two 1 ≡ nowhere)
    × (search two 24 ≡ nowhere)
    × (search two 4294967298 ≡ nowhere)
    × (search [] 0 ≡ nowhere)
    × (search gap 3 ≡ unsearched BadIndex)
    × (in_order (span 2 2 ∷ []) ≡ false)
    × (holder_in 16 save ≡ some 1)
    × (holder_in 1 save ≡ none)
    × (holder_in 24 save ≡ none)
unfolding le kind table entries find or_plain after further and_then mapped ◌followed-by◌ ◌giving◌ next num payload token step walk_f walk is_open
    is_close is_equal deeper ahead makes_key is_key those keys_of in_order holds_at holder keys_up_to holder_in search
search-holds = (refl, refl, refl, refl, refl, refl, refl, refl, refl, refl, refl, refl)

-- the file, and a list that has none; bytes that are no file: too few, another version, a count that is not of what follows or no
-- multiple of 8, entries that are not in order
pub file-holds : (write_file 21 two ≡ written kept)
    × (write_file 20 two ≡ unwritten (NoRoom 21))
    × (write_file 99 gap ≡ unwritten BadIndex)
    × (file [] ≡ 1 ∷ 0 ∷ 0 ∷ 0 ∷ 0 ∷ [])
    × (read_file 2 kept ≡ filled two)
    × (read_file 1 kept ≡ unfilled (ListFull 2))
    × (read_file 0 (1 ∷ 0 ∷ 0 ∷ 0 ∷ 0 ∷ []) ≡ filled [])
    × (read_file 0 (1 ∷ 0 ∷ 0 ∷ 0 ∷ []) ≡ unfilled BadIndex)
    × (read_file 0 (2 ∷ 0 ∷ 0 ∷ 0 ∷ 0 ∷ []) ≡ unfilled BadIndex)
    × (read_file 1 (1 ∷ 0 ∷ 0 ∷ 0 ∷ 9 ∷ 0 ∷ 0 ∷ 0 ∷ 2 ∷ 0 ∷ 0 ∷ 0 ∷ 16 ∷ 0 ∷ 0 ∷ []) ≡ unfilled BadIndex)
    × (read_file 1 (1 ∷ 0 ∷ 0 ∷ 0 ∷ 9 ∷ 0 ∷ 0 ∷ 0 ∷ 2 ∷ 0 ∷ 0 ∷ 0 ∷ 16 ∷ 0 ∷ []) ≡ unfilled BadIndex)
    × (read_file 1 (1 ∷ 0 ∷ 0 ∷ 0 ∷ 8 ∷ replicate 8 0) ≡ unfilled BadIndex)
unfolding le le_bytes fitted in_order flat room_for big big_number big_all file write_file entries_in entries_of is_file read_file
file-holds = (refl, refl, refl, refl, refl, refl, refl, refl, refl, refl, refl, refl)
