-- The dump of FORMAT.md's worked example. Assumes nothing.
use mathlib.Core.Path.{◌≡◌, refl}
use Rattle.form.specs.Numbers.{le, le_bytes}
use Rattle.form.specs.Values.{kind}
use Rattle.form.specs.Table.{table, entries, find, or_plain, after}
use Rattle.form.specs.Readers.{further, and_then, mapped, ◌followed-by◌, ◌giving◌}
use Rattle.form.specs.Reading.{next, num, payload, token}
use Rattle.form.specs.Saves.{step, walk_f, walk}
use Rattle.form.specs.Keys.{is_open, is_close, is_equal, deeper, ahead, makes_key, is_key, those, keys_of, count, counts}
use Rattle.form.specs.Ascii.{ascii, decimal_f, decimal, hex, hex_or_dash, spaced, line}
use Rattle.form.specs.Listing.{name, shown, token_line, count_words, end_line, lines_of, listing}
use Rattle.form.proofs.Specimens.{save}

pub save-listed : listing save ≡ ascii "0 id 10241\n2 equal\n4 open\n6 f64 fbffffffffffffff\n9 f64 0000000000000000\n11 quoted -\n13 lookup 7\n16 close\nend 18 tokens 8 containers 1 keys 1 stray 0\n"
unfolding save le le_bytes kind table entries find or_plain after further and_then mapped ◌followed-by◌ ◌giving◌ next num payload token step walk_f walk is_open
    is_close is_equal deeper ahead makes_key is_key those keys_of count counts decimal_f decimal hex hex_or_dash spaced line name shown token_line count_words end_line lines_of listing
save-listed = refl
