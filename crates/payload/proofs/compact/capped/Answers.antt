-- `payload::compact::capped` meets its contract. Assumes nothing.
use borrow.Author.Tests.{le-leb, lt-leb}
use Rattle.payload.proofs.compact.capped.Goals as goal

pub returns-then-width-le7 : goal.returns-then-width-le7
returns-then-width-le7 c = rw (le-leb _ _ c.if-width-le7.true)

pub returns-else-width-le7 : goal.returns-else-width-le7
returns-else-width-le7 c = rw (lt-leb _ _ c.if-width-le7.false)
