-- `payload::colour::read_last` meets its contract. Assumes nothing.
use mathlib.Core.Path.{sym, ◌∙◌}
use Rattle.form.specs.Readers.{and_then}
use Rattle.laws.proofs.Lookups.{close-is}
use Rattle.laws.proofs.Places.{alpha-then}
use Rattle.payload.proofs.Handed.{handed}
use Rattle.payload.proofs.colour.read_last.Goals as goal

pub returns-in_err-a : goal.returns-in_err-a
unfolding and_then
returns-in_err-a c = rw (alpha-then, handed _ c.from_residual.ensures, sym c.in_err-a.ensures)

pub returns-in_err-end : goal.returns-in_err-end
unfolding and_then
returns-in_err-end c = rw (alpha-then, sym c.in_ok-a.ensures, handed _ c.from_residual-in_err-end.ensures, sym c.in_err-end.ensures)

pub returns-then-is : goal.returns-then-is
unfolding and_then
returns-then-is c = rw (alpha-then, sym c.in_ok-a.ensures, sym c.in_ok-end.ensures, close-is, sym c.is.ensures ∙ c.if-is.true)

pub returns-else-is : goal.returns-else-is
unfolding and_then
returns-else-is c = rw (alpha-then, sym c.in_ok-a.ensures, sym c.in_ok-end.ensures, close-is, sym c.is.ensures ∙ c.if-is.false)
