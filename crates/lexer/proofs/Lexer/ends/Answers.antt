-- `lexer::Lexer::ends` meets its contract. Assumes nothing.
use Rattle.lexer.proofs.Lexer.ends.Goals as goal

pub returns-then-fits : goal.returns-then-fits
returns-then-fits c = rw (← c.fits.ensures, c.if-fits.true)

pub returns-else-fits : goal.returns-else-fits
returns-else-fits c = rw (← c.fits.ensures, c.if-fits.false)
