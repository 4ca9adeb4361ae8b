-- `contents::searching::follows` meets its contract. Assumes nothing.
use Rattle.contents.proofs.Orders.{no_span, first-span, next-span}
use Rattle.contents.proofs.searching.follows.Goals as goal

pub returns-then-e : goal.returns-then-e
returns-then-e c = no_span _ c.if-e.true _

pub returns-in-None : goal.returns-in-None
returns-in-None c = rw c.in-None.is (first-span _ c.if-e.false)

pub returns-in-Some : goal.returns-in-Some
returns-in-Some c = rw c.in-Some.is (next-span _ c.if-e.false _)
