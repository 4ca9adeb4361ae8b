-- What FORMAT.md says in sentences that no marked specimen tries: a theorem of examples for each part of the definition. Assumes nothing.
use Prim.Native.Nat.{ℕ, ◌+◌, ◌-◌}
use mathlib.Core.Path.{◌≡◌, refl}
use mathlib.Core.Bool.{true, false}
use mathlib.Core.Option.{none, some}
use mathlib.Core.List.{List, [], ◌∷◌, ◌++◌}
use lib.ListN.{length, replicate}
use lib.Dec.{ltb}
use Rattle.form.specs.Numbers.{le, le_bytes, MAX}
use Rattle.form.specs.Values.{Value, Open, Close, Equal, F64, Lookup, Id, Truth, Quoted, Unquoted, Rgb, kind}
use Rattle.form.specs.Table.{table, entries, find, or_plain, after, reserved}
use Rattle.form.specs.Ids.{OPEN, CLOSE, CHANNEL}
use Rattle.form.specs.Refusals.{Eof, LongString, WideLookup, ReservedId, NoRoom, BadPlace, refusal_at, refusal_value, refusal_values}
use Rattle.form.specs.Readers.{further, and_then, mapped, ◌followed-by◌, ◌giving◌, give, at}
use Rattle.form.specs.Reading.{next, piece, num, string, channel, alpha_end, with_alpha, ending, headed, judged, channels, rgb, payload, token}
use Rattle.form.specs.Skipping.{stepped, passing, or_stop, closed, turned, skip_f, skipping, skip_container}
use Rattle.form.specs.Calls.{cursor_in, cursor_at, at_start, gives, refuses, fits, within, positions, ended, reads, optional, nexts, if_found, peeks, landed, skips}
use Rattle.form.specs.Spelling.{tag, body, spell, reason}
use Rattle.form.specs.Shortest.{held_by, first_of, first_in, otherwise, or_spelled, shortest}
use Rattle.form.specs.Saves.{Walk, done, then, step, walk_f, walk, values, whole, tokens, spell_all}
use Rattle.form.specs.Writing.{written, unwritten, leaves, fitted, write, first_refusal, unless, normalise}
use Rattle.form.specs.Fast.{fast, slow, front, step_number, step_text, step_by, fast_step}
use Rattle.form.specs.Keys.{is_open, is_close, is_equal, deeper, ahead, makes_key, is_key, those, keys_of, count, counts}
use Rattle.form.specs.Finding.{is_plain, first_plain, cut_by, firstly, sought, staying, walk_at, finds}
use Rattle.form.specs.Rescue.{open_after, read_to, kept_of, closes, rescued, report, rescue, if_written, told, readable, balanced}
use Rattle.form.specs.Ascii.{ascii, decimal_f, decimal, spaced, line}
use Rattle.form.specs.Listing.{name, shown, token_line, count_words, end_line, refusal_word, error_line, lines_of, listing}
use Rattle.form.proofs.Specimens.{eof}

-- a skip ends with the container that it began in; refused, it stays where its failing read began: after an id whose payload fails, and at an
-- id cut short
pub skips-hold : (skips skip_container (0x03 ∷ 0x00 ∷ 0x04 ∷ 0x00 ∷ 0x04 ∷ 0x00 ∷ []) at_start ≡ gives tt (cursor_at 6))
    × (skips skip_container (0x0f ∷ 0x00 ∷ 0x02 ∷ 0x00 ∷ 0x61 ∷ []) at_start ≡ eof 2 1)
    × (skips skip_container (0x01 ∷ 0x00 ∷ 0x04 ∷ []) at_start ≡ eof 2 1)
unfolding le kind table entries find or_plain after OPEN CLOSE CHANNEL refusal_at further and_then mapped ◌followed-by◌ ◌giving◌ next
    num string channel rgb payload at stepped passing or_stop closed turned skip_f skipping skip_container fits within landed skips
skips-hold = (refl, refl, refl)

-- a colour with an alpha, and a lookup of three bytes by its second id
pub reads-hold : (reads (at token)
    (0x43 ∷ 0x02 ∷ 0x03 ∷ 0x00 ∷ 0x14 ∷ 0x00 ∷ 0x01 ∷ 0x00 ∷ 0x00 ∷ 0x00 ∷ 0x14 ∷ 0x00 ∷ 0x02 ∷ 0x00 ∷ 0x00 ∷ 0x00 ∷ 0x14 ∷ 0x00 ∷ 0x03 ∷ 0x00 ∷ 0x00 ∷ 0x00 ∷ 0x14 ∷ 0x00 ∷ 0x04 ∷ 0x00 ∷ 0x00 ∷ 0x00 ∷ 0x04 ∷ 0x00 ∷ [])
    at_start
    ≡ gives (Rgb 1 2 3 (some 4)) (cursor_at 30))
    × (reads (at token) (0x45 ∷ 0x0d ∷ 0x07 ∷ 0x00 ∷ 0x00 ∷ []) at_start ≡ gives (Lookup 7) (cursor_at 5))
unfolding le table entries find or_plain after OPEN CLOSE CHANNEL further and_then mapped ◌followed-by◌ ◌giving◌ give next piece num channel alpha_end with_alpha ending headed
    judged channels rgb payload token at fits within ended reads
reads-hold = (refl, refl)

-- what is missing of a piece, not of a token: of an id, a text's length, the text, a colour's first 22 bytes, and its last six; a skip tells it
-- of a number as it does of an id; and it is returned after the position
pub missing-holds : (reads (at token) [] at_start ≡ eof 0 2)
    × (reads (at token) (0x0f ∷ 0x00 ∷ 0x09 ∷ []) at_start ≡ eof 0 1)
    × (reads (at token) (0x0f ∷ 0x00 ∷ 0x09 ∷ 0x00 ∷ 0x61 ∷ []) at_start ≡ eof 0 8)
    × (reads (at token) (0x43 ∷ 0x02 ∷ 0x03 ∷ 0x00 ∷ []) at_start ≡ eof 0 20)
    × (reads (at token)
    (0x43 ∷ 0x02 ∷ 0x03 ∷ 0x00 ∷ 0x14 ∷ 0x00 ∷ 0x01 ∷ 0x00 ∷ 0x00 ∷ 0x00 ∷ 0x14 ∷ 0x00 ∷ 0x02 ∷ 0x00 ∷ 0x00 ∷ 0x00 ∷ 0x14 ∷ 0x00 ∷ 0x03 ∷ 0x00 ∷ 0x00 ∷ 0x00 ∷ 0x14 ∷ 0x00 ∷ 0x04 ∷ [])
    at_start
    ≡ eof 0 5)
    × (skips skip_container (0x14 ∷ 0x00 ∷ 0x01 ∷ 0x00 ∷ 0x00 ∷ 0x00 ∷ 0x01 ∷ 0x28 ∷ 0x14 ∷ 0x00 ∷ []) at_start ≡ eof 10 4)
    × (refusal_values (Eof 10 4) ≡ 10 ∷ 4 ∷ [])
unfolding le kind table entries find or_plain after OPEN CLOSE CHANNEL refusal_at refusal_values further and_then mapped ◌followed-by◌ ◌giving◌ next
    piece num string channel alpha_end with_alpha ending headed judged channels rgb payload token at stepped passing or_stop closed turned skip_f skipping skip_container fits within
    landed skips ended reads
missing-holds = (refl, refl, refl, refl, refl, refl, refl)

-- a peek moves nothing, and answers none where the read is refused; a cursor past the input is refused, by a `next_..` too
pub calls-hold : (peeks (at token) (0x03 ∷ 0x00 ∷ []) at_start ≡ gives (some Open) at_start)
    × (peeks (at token) (0x03 ∷ []) at_start ≡ gives none at_start)
    × (nexts (at token) [] (cursor_at 1) ≡ refuses (BadPlace 1) (cursor_at 1))
unfolding le table entries find or_plain after refusal_at further and_then mapped ◌followed-by◌ ◌giving◌ next num payload token at fits within ended reads optional
    nexts if_found peeks
calls-hold = (refl, refl, refl)

-- a position is one of the file: a refusal's, a key's and the cursor's own; the cursor and a place that is refused are the input's; the largest
-- position there can be is allowed, and an offset beyond that is refused before the cursor, by every call
pub offsets-hold : (positions (0x03 ∷ 0x00 ∷ []) (cursor_in 100 2) ≡ gives 102 (cursor_in 100 2))
    × (reads (at token) (0x03 ∷ []) (cursor_in 100 0) ≡ refuses (Eof 100 1) (cursor_in 100 0))
    × (reads (at token) (0x03 ∷ 0x00 ∷ []) (cursor_in 100 0) ≡ gives Open (cursor_in 100 2))
    × (nexts (at token) (0x03 ∷ []) (cursor_in 100 2) ≡ refuses (BadPlace 2) (cursor_in 100 2))
    × (skips skip_container (0x0f ∷ 0x00 ∷ 0x02 ∷ 0x00 ∷ 0x61 ∷ []) (cursor_in 100 0) ≡ refuses (Eof 102 1) (cursor_in 100 2))
    × (finds 0x2801 (0x01 ∷ 0x28 ∷ 0x01 ∷ 0x00 ∷ []) (cursor_in 100 0) ≡ gives (some 100) (cursor_in 100 0))
    × (finds 0x2801 (0x01 ∷ 0x28 ∷ 0x01 ∷ []) (cursor_in 100 0) ≡ refuses (Eof 102 1) (cursor_in 100 0))
    × (nexts (at token) (0x03 ∷ 0x00 ∷ []) (cursor_in (MAX - 2) 2) ≡ gives none (cursor_in (MAX - 2) 2))
    × (nexts (at token) (0x03 ∷ 0x00 ∷ []) (cursor_in (MAX - 1) 2) ≡ refuses (BadPlace (MAX - 1)) (cursor_in (MAX - 1) 2))
    × (peeks (at token) (0x03 ∷ 0x00 ∷ []) (cursor_in (MAX - 1) 3) ≡ refuses (BadPlace (MAX - 1)) (cursor_in (MAX - 1) 3))
    × (positions (0x03 ∷ 0x00 ∷ []) (cursor_in (MAX - 1) 0) ≡ refuses (BadPlace (MAX - 1)) (cursor_in (MAX - 1) 0))
unfolding le kind table entries find or_plain after OPEN CLOSE CHANNEL refusal_at further and_then mapped ◌followed-by◌ ◌giving◌ next num string channel rgb payload token at
    stepped passing or_stop closed turned skip_f skipping skip_container fits within positions ended reads optional nexts if_found peeks landed skips step walk_f tag
    is_open is_close is_equal deeper ahead makes_key is_key those keys_of is_plain first_plain cut_by firstly sought staying walk_at finds
offsets-hold = (refl, refl, refl, refl, refl, refl, refl, refl, refl, refl, refl)

-- a wide lookup is refused at its position; what is written changes only the bytes written, and a refusal none
pub writing-holds : (normalise 99 (0x01 ∷ 0x00 ∷ 0x3f ∷ 0x0d ∷ 0x00 ∷ 0x00 ∷ 0x00 ∷ 0x01 ∷ []) ≡ unwritten (WideLookup 2))
    × (leaves (write 3 Open) (7 ∷ 8 ∷ 9 ∷ []) ≡ 0x03 ∷ 0x00 ∷ 9 ∷ [])
    × (leaves (write 1 Open) (7 ∷ []) ≡ 7 ∷ [])
unfolding le le_bytes kind table entries find or_plain after further and_then mapped ◌followed-by◌ ◌giving◌ next num payload token tag
    body spell reason step walk_f walk leaves fitted write first_refusal unless normalise
writing-holds = (refl, refl, refl)

-- a text of 65,536 bytes and more is too long, a reserved id is refused, and a plain one is not; a true is spelled 1
pub reasons-hold : ((t : List ℕ) → ltb (length t) 65536 ≡ false → reason 9 (Quoted t) ≡ some (LongString 9))
    × (reason 9 (Id 0x0001) ≡ some (ReservedId 9))
    × (reason 9 (Id 0x2801) ≡ none)
    × (spell (Truth true) ≡ 0x0e ∷ 0x00 ∷ 0x01 ∷ [])
unfolding le_bytes tag body spell reserved table entries find reason
reasons-hold = ((λ t h. rw h), refl, refl, refl)

-- the shortest spellings: an empty text, every lookup, and floats by the bytes of their magnitude
pub shortest-holds : (shortest (Quoted []) ≡ 0x42 ∷ 0x0d ∷ [])
    × (shortest (Unquoted []) ≡ 0x17 ∷ 0x00 ∷ 0x00 ∷ 0x00 ∷ [])
    × (shortest (Lookup 7) ≡ 0x40 ∷ 0x0d ∷ 0x07 ∷ [])
    × (shortest (Lookup 16777216) ≡ 0x3f ∷ 0x0d ∷ 0x00 ∷ 0x00 ∷ 0x00 ∷ 0x01 ∷ [])
    × (shortest (F64 0) ≡ 0x47 ∷ 0x0d ∷ [])
    × (shortest (F64 (le (0x00 ∷ replicate 7 0xff))) ≡ 0x50 ∷ 0x0d ∷ 0x00 ∷ 0x01 ∷ [])
    × (shortest (F64 (le (0x01 ∷ replicate 6 0 ++ (0xff ∷ [])))) ≡ 0x55 ∷ 0x0d ∷ replicate 7 0xff)
    × (shortest (F64 (le (replicate 7 0 ++ (0x80 ∷ [])))) ≡ 0x67 ∷ 0x01 ∷ replicate 7 0 ++ (0x80 ∷ []))
unfolding le le_bytes tag body spell held_by first_of first_in otherwise or_spelled shortest
shortest-holds = (refl, refl, refl, refl, refl, refl, refl, refl)

-- a lookup changes all the held bytes, a Bool one, which is the byte that stands there; under 16 bytes no step is fast, and nothing is changed
pub fast-holds : (fast_step (0x40 ∷ 0x0d ∷ 0x07 ∷ replicate 13 0) (replicate 8 0xff) ≡ record { step = fast (kind (Lookup 7)) 3; held = 0x07 ∷ replicate 7 0 })
    × (fast_step (0x0e ∷ 0x00 ∷ 0x02 ∷ replicate 13 0) (replicate 8 0xff) ≡ record { step = fast (kind (Truth true)) 3; held = 0x02 ∷ replicate 7 0xff })
    × (fast_step (0x03 ∷ replicate 14 0) (replicate 8 0xff) ≡ record { step = slow; held = replicate 8 0xff })
unfolding le le_bytes kind table entries find or_plain after front step_number step_text step_by fast_step
fast-holds = (refl, refl, refl)

-- a key stands at depth 0, a Close there is a stray, and one elsewhere ends a container; a refusal's line is the last
pub lists-hold : (listing (0x04 ∷ 0x00 ∷ 0x03 ∷ 0x00 ∷ 0x01 ∷ 0x28 ∷ 0x01 ∷ 0x00 ∷ 0x04 ∷ 0x00 ∷ 0x01 ∷ 0x28 ∷ 0x01 ∷ 0x00 ∷ 0x04 ∷ 0x00 ∷ [])
    ≡ ascii "0 close\n2 open\n4 id 10241\n6 equal\n8 close\n10 id 10241\n12 equal\n14 close\nend 16 tokens 8 containers 1 keys 1 stray 2\n")
    × (listing (0x04 ∷ 0x00 ∷ 0x03 ∷ []) ≡ ascii "0 close\nerror eof 2\n")
unfolding le kind table entries find or_plain after refusal_at further and_then mapped ◌followed-by◌ ◌giving◌ next num payload token step walk_f walk is_open
    is_close is_equal deeper ahead makes_key is_key those keys_of count counts decimal_f decimal spaced line name shown token_line count_words end_line refusal_value refusal_values
    refusal_word error_line lines_of listing
lists-hold = (refl, refl)

-- a walk over such tokens, each of two bytes
abbrev in_turn : ℕ → List Value → Walk
in_turn p [] = done
in_turn p (v ∷ vs) = then p 2 v (in_turn (p + 2) vs)

-- a key stands before Equal, or right before its bracket; a value before a bracket is none, and one before Equal is; neither end of a container
-- is a key, nor is Equal; a colour opens nothing, and may itself be a key
pub keys-hold : (keys_of (in_turn 0 (Id 7 ∷ Equal ∷ Id 8 ∷ Id 9 ∷ Open ∷ Id 7 ∷ Open ∷ Close ∷ Close ∷ [])) ≡ (0, Id 7) ∷ (6, Id 9) ∷ [])
    × (keys_of (in_turn 0 (Id 7 ∷ Equal ∷ Id 8 ∷ Open ∷ [])) ≡ (0, Id 7) ∷ [])
    × (keys_of (in_turn 0 (Id 7 ∷ Equal ∷ Id 8 ∷ Equal ∷ [])) ≡ (0, Id 7) ∷ (4, Id 8) ∷ [])
    × (keys_of (in_turn 0 (Close ∷ Equal ∷ Equal ∷ Close ∷ Open ∷ Open ∷ [])) ≡ [])
    × (keys_of (in_turn 0 (Id 7 ∷ Rgb 1 2 3 none ∷ Open ∷ [])) ≡ (2, Rgb 1 2 3 none) ∷ [])
unfolding kind is_open is_close is_equal deeper ahead makes_key is_key those keys_of
keys-hold = (refl, refl, refl, refl, refl)

-- a key is found where it stands, also before damage, from a cursor on, and at depth 0 from there; before a key that is not found the refusal
-- is answered; a reserved id is never a key, and a plain one before nothing, or before what is no token, is none; a cursor past the input is
-- refused; a key may stand right before its bracket, a value does not, but for a walk that begins there
pub finds-hold : (finds 0x2802 (0x01 ∷ 0x28 ∷ 0x01 ∷ 0x00 ∷ 0x02 ∷ 0x28 ∷ 0x02 ∷ 0x28 ∷ 0x01 ∷ 0x00 ∷ []) at_start ≡ gives (some 6) at_start)
    × (finds 0x2801 (0x01 ∷ 0x28 ∷ 0x01 ∷ 0x00 ∷ 0x0f ∷ 0x00 ∷ 0x09 ∷ 0x00 ∷ []) at_start ≡ gives (some 0) at_start)
    × (finds 0x2802 (0x03 ∷ 0x00 ∷ 0x02 ∷ 0x28 ∷ 0x01 ∷ 0x00 ∷ 0x04 ∷ 0x00 ∷ []) at_start ≡ gives none at_start)
    × (finds 0x2802 (0x03 ∷ 0x00 ∷ 0x02 ∷ 0x28 ∷ 0x01 ∷ 0x00 ∷ 0x04 ∷ 0x00 ∷ []) (cursor_at 2) ≡ gives (some 2) (cursor_at 2))
    × (finds 0x2802 (0x01 ∷ 0x28 ∷ 0x01 ∷ 0x00 ∷ 0x0f ∷ 0x00 ∷ 0x09 ∷ 0x00 ∷ []) at_start ≡ refuses (Eof 4 9) at_start)
    × (finds 0x000e (0x0e ∷ 0x00 ∷ 0x01 ∷ 0x01 ∷ 0x00 ∷ []) at_start ≡ gives none at_start)
    × (finds 0x2801 (0x01 ∷ 0x28 ∷ []) at_start ≡ gives none at_start)
    × (finds 0x2801 (0x01 ∷ 0x28 ∷ 0x01 ∷ []) at_start ≡ refuses (Eof 2 1) at_start)
    × (finds 0x2801 [] (cursor_at 1) ≡ refuses (BadPlace 1) (cursor_at 1))
    × (finds 0x2801 (0x02 ∷ 0x28 ∷ 0x01 ∷ 0x28 ∷ 0x03 ∷ 0x00 ∷ 0x04 ∷ 0x00 ∷ []) at_start ≡ gives (some 2) at_start)
    × (finds 0x2802 (0x02 ∷ 0x28 ∷ 0x01 ∷ 0x28 ∷ 0x03 ∷ 0x00 ∷ 0x04 ∷ 0x00 ∷ []) at_start ≡ gives none at_start)
    × (finds 0x2801 (0x02 ∷ 0x28 ∷ 0x01 ∷ 0x00 ∷ 0x01 ∷ 0x28 ∷ 0x03 ∷ 0x00 ∷ []) at_start ≡ gives none at_start)
    × (finds 0x2801 (0x02 ∷ 0x28 ∷ 0x01 ∷ 0x00 ∷ 0x01 ∷ 0x28 ∷ 0x03 ∷ 0x00 ∷ []) (cursor_at 4) ≡ gives (some 4) (cursor_at 4))
unfolding le kind table entries find or_plain after refusal_at further and_then mapped ◌followed-by◌ ◌giving◌ next num string payload token step walk_f tag
    is_open is_close is_equal deeper ahead makes_key is_key those keys_of fits within is_plain first_plain cut_by firstly sought staying walk_at finds
finds-hold = (refl, refl, refl, refl, refl, refl, refl, refl, refl, refl, refl, refl, refl)

abbrev clipped : List ℕ
clipped = 0x04 ∷ 0x00 ∷ 0x01 ∷ 0x28 ∷ 0x01 ∷ 0x00 ∷ 0x03 ∷ 0x00 ∷ 0x0e ∷ 0x00 ∷ 0x02 ∷ 0x03 ∷ 0x00 ∷ 0x0f ∷ 0x00 ∷ 0x09 ∷ 0x00 ∷ 0x61 ∷ []

-- of a clipped save the stray is left out, the refused token's first bytes are cut, and both containers are closed; the room is asked for
-- that; strays in a row count each; nothing is left of a save that begins with damage; what lacks nothing stays, whatever its spellings
pub rescue-holds : (rescue 15 clipped ≡ written (0x01 ∷ 0x28 ∷ 0x01 ∷ 0x00 ∷ 0x03 ∷ 0x00 ∷ 0x0e ∷ 0x00 ∷ 0x02 ∷ 0x03 ∷ 0x00 ∷ 0x04 ∷ 0x00 ∷ 0x04 ∷ 0x00 ∷ []))
    × (report clipped ≡ record { cut_off = 5; strays = 1; added = 2 })
    × (told 15 clipped ≡ some (record { cut_off = 5; strays = 1; added = 2 }))
    × (rescue 14 clipped ≡ unwritten (NoRoom 15))
    × (told 14 clipped ≡ none)
    × (rescued (0x04 ∷ 0x00 ∷ 0x04 ∷ 0x00 ∷ 0x03 ∷ 0x00 ∷ 0x04 ∷ 0x00 ∷ 0x04 ∷ 0x00 ∷ []) ≡ 0x03 ∷ 0x00 ∷ 0x04 ∷ 0x00 ∷ [])
    × (report (0x04 ∷ 0x00 ∷ 0x04 ∷ 0x00 ∷ 0x03 ∷ 0x00 ∷ 0x04 ∷ 0x00 ∷ 0x04 ∷ 0x00 ∷ []) ≡ record { cut_off = 0; strays = 3; added = 0 })
    × (rescued (0x43 ∷ 0x02 ∷ []) ≡ [])
    × (report (0x43 ∷ 0x02 ∷ []) ≡ record { cut_off = 2; strays = 0; added = 0 })
    × (rescued (0x0e ∷ 0x00 ∷ 0x02 ∷ 0x03 ∷ 0x00 ∷ 0x04 ∷ 0x00 ∷ []) ≡ 0x0e ∷ 0x00 ∷ 0x02 ∷ 0x03 ∷ 0x00 ∷ 0x04 ∷ 0x00 ∷ [])
    × (readable clipped ≡ false)
    × (balanced (0x03 ∷ 0x00 ∷ 0x04 ∷ 0x00 ∷ []) ≡ true)
    × (balanced (0x03 ∷ 0x00 ∷ []) ≡ false)
    × (balanced (0x04 ∷ 0x00 ∷ []) ≡ false)
unfolding le le_bytes kind table entries find or_plain after OPEN CLOSE CHANNEL refusal_at further and_then mapped ◌followed-by◌ ◌giving◌ next piece num string rgb payload
    token step walk_f walk values whole tokens spell_all tag body spell fitted is_open is_close deeper those count open_after read_to kept_of closes rescued report
    rescue if_written told readable balanced
rescue-holds = (refl, refl, refl, refl, refl, refl, refl, refl, refl, refl, refl, refl, refl, refl)
