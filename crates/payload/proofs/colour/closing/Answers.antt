-- `payload::colour::closing` meets its contract. Assumes nothing.
use Rattle.laws.proofs.Lookups.{close-is, channel-is}
use Rattle.laws.proofs.Places.{ending-then}
use borrow.Author.Tests.{eq-eqb, ne_eqb}
use Rattle.payload.proofs.colour.closing.Goals as goal

pub returns-in-4 : goal.returns-in-4
returns-in-4 c = simp (ending-then, close-is, channel-is, eq-eqb _ _ c.in-4.is)

pub returns-in-20 : goal.returns-in-20
returns-in-20 c = rw (ending-then, close-is, channel-is, c.in-20.is) c.read_alpha.ensures

pub returns-in_default : goal.returns-in_default
returns-in_default c = simp (ending-then, close-is, channel-is, ne_eqb _ _ c.in_default.in_default-own.rest.0.1, ne_eqb _ _ c.in_default.in_default-own.rest.1)
