-- `listing::line::put_colour` meets its contract. Assumes nothing.
use Rattle.form.specs.Listing.{alpha_words}
use Rattle.text.proofs.Words.{puts-words}
use Rattle.listing.proofs.line.put_colour.Goals as goal

pub returns-in-Some : goal.returns-in-Some
unfolding alpha_words
returns-in-Some c =
    rw (c.in-Some.is, ← c.from.ensures, ← c.from-2.ensures, ← c.from-3.ensures, ← c.from-in-Some.ensures)
    (puts-words _ _ c.put_number.ensures (puts-words _ _ c.put_number-2.ensures (puts-words _ _ c.put_number-3.ensures c.put_number-in-Some.ensures)))

pub returns-in_default : goal.returns-in_default
unfolding alpha_words
returns-in_default c =
    rw (c.in_default.is, ← c.from.ensures, ← c.from-2.ensures, ← c.from-3.ensures)
    (puts-words _ _ c.put_number.ensures (puts-words _ _ c.put_number-2.ensures c.put_number-3.ensures))
