-- `payload::colour::begins` meets its contract. Assumes nothing.
use mathlib.Core.Path.{sym, ◌∙◌}
use borrow.Author.Tests.{not-true, not-false}
use Rattle.form.specs.Reading.{headed}
use Rattle.laws.proofs.Lookups.{open_is, channel-is}
use Rattle.std.proofs.Common.{ap, not}
use Rattle.payload.proofs.colour.begins.Goals as goal

pub returns-then-not-is : goal.returns-then-not-is
unfolding headed
returns-then-not-is c = simp (open_is, channel-is, sym c.is.ensures ∙ not-true _ (ap not c.if-not-is.true))

pub returns-then-not-is-2 : goal.returns-then-not-is-2
unfolding headed
returns-then-not-is-2 c =
    simp (open_is, channel-is, sym c.is.ensures ∙ not-false _ (ap not c.if-not-is.false), sym c.is-2.ensures ∙ not-true _ (ap not c.if-not-is-2.true))

pub returns-then-not-is-3 : goal.returns-then-not-is-3
unfolding headed
returns-then-not-is-3 c =
    simp (open_is, channel-is, sym c.is.ensures ∙ not-false _ (ap not c.if-not-is.false), sym c.is-2.ensures ∙ not-false _ (ap not c.if-not-is-2.false), sym c.is-3.ensures ∙ not-true _ (ap not c.if-not-is-3.true))

pub returns : goal.returns
unfolding headed
returns c =
    simp (open_is, channel-is, sym c.is.ensures ∙ not-false _ (ap not c.if-not-is.false), sym c.is-2.ensures ∙ not-false _ (ap not c.if-not-is-2.false), sym c.is-3.ensures ∙ not-false _ (ap not c.if-not-is-3.false), c.is-4.ensures)
