-- `lexer::Lexer::place` meets its contract. Assumes nothing.
use native.Mathlib.Omega.{arith}
use mathlib.Core.Path.{sym, ◌∙◌}
use borrow.Author.Tests.{not-true, not-false}
use Rattle.laws.proofs.Cursors.{fits-true, within_in, within-unfit, within-out}
use Rattle.lexer.specs.Calls.{refusal_of}
use Rattle.std.proofs.Common.{ap, not}
use Rattle.lexer.proofs.Lexer.place.Goals as goal

pub returns-then-not-fits : goal.returns-then-not-fits
unfolding refusal_of
returns-then-not-fits c = sym (within-unfit _ _ (sym c.fits.ensures ∙ not-true _ (ap not c.if-not-fits.true)) _)

pub returns-then-at-bytes : goal.returns-then-at-bytes
returns-then-at-bytes c =
    let h = fits-true _ _ (sym c.fits.ensures ∙ not-false _ (ap not c.if-not-fits.false)) in
    sym (within_in _ _ (record { fitting = h; there = c.if-at-bytes.true }))

pub returns-else-at-bytes : goal.returns-else-at-bytes
unfolding refusal_of
returns-else-at-bytes c = sym (within-out _ _ (sym c.fits.ensures ∙ not-false _ (ap not c.if-not-fits.false)) (omega (arith, c.if-at-bytes.false)) _)
