-- `writer::fit` meets its contract. Assumes nothing.
use mathlib.Core.Path.{sym, ap}
use borrow.Author.Tests.{le-leb, lt-leb}
use Rattle.form.specs.Writing.{wrote, outcome, fitted}
use Rattle.writer.proofs.fit.Goals as goal

pub returns-then-need-room : goal.returns-then-need-room
unfolding outcome fitted
returns-then-need-room c = λ bs e. rw (e, le-leb _ _ c.if-need-room.true) (ap wrote (sym e))

pub returns-else-need-room : goal.returns-else-need-room
unfolding outcome fitted
returns-else-need-room c = λ bs e. rw (e, lt-leb _ _ c.if-need-room.false)
