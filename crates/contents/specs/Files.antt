-- No public promise goes through this file. The steps of writing and reading a file.
use Rattle.std.specs.Prelude.{ℕ, ◌+◌, ◌-◌, ◌*◌, ◌%◌, Bool, ◌&&◌, List, length, take, drop, get_or, leb, eqb, Result, Ok, Err}
use Rattle.form.specs.Numbers.{pick}
use Rattle.form.specs.Contents.{big_number, VERSION, MANY}
use Rattle.contents.specs.declared.Entry.{Entry}
use Rattle.contents.specs.declared.file.WriteError.{WriteError}
use Rattle.contents.specs.declared.file.WriteError.TheVariants.{TooLong, NoRoom}

-- a file of n entries that are in order
abbrev pub judged : ℕ → ℕ → Result ℕ WriteError
judged n room = pick (leb MANY n) (Err (TooLong n)) (pick (leb (5 + 8 * n) room) (Ok (5 + 8 * n)) (Err (NoRoom (5 + 8 * n))))

-- five bytes and more, the version, and the number of bytes that follow, a multiple of 8
unfoldable pub is_headed : List ℕ → Bool
is_headed s = leb 5 (length s) && eqb (get_or s 0 0) VERSION && eqb (big_number (take 4 (drop 1 s))) (length s - 5) && eqb ((length s - 5) % 8) 0

-- the entry of a file after i others
abbrev pub entry_in : List ℕ → ℕ → Entry
entry_in s i = record { start = big_number (take 4 (drop (5 + 8 * i) s)); end = big_number (take 4 (drop (9 + 8 * i) s)) }
