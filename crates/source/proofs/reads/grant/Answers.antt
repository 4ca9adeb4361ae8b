-- `source::reads::grant` meets its contract. Assumes nothing.
use borrow.Author.Tests.{eq-eqb, ne_eqb}
use Rattle.source.proofs.Filling.{one_at}
use Rattle.source.proofs.reads.grant.Goals as goal

pub returns-then-e : goal.returns-then-e
returns-then-e c = rw (one_at _ _ c.args.room c.args.left c.in-Some.ensures.value, eq-eqb _ _ c.if-e.true)

pub returns : goal.returns
returns c = rw (one_at _ _ c.args.room c.args.left c.in-Some.ensures.value, ne_eqb _ _ c.if-e.false, c.min.ensures, c.min-most.ensures)
