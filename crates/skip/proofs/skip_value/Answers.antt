-- `skip::skip_value` meets its contract. Assumes nothing.
use mathlib.Core.Path.{◌≡◌, sym, ◌∙◌}
use borrow.Author.Tests.{eqb-false}
use Rattle.std.proofs.Common.{rules}
use Rattle.payload.proofs.Handed.{handed, given_ok, given_err}
use Rattle.skip.proofs.Turns.{value-is, past-colour, no-colour}
use Rattle.skip.proofs.skip_value.Goals as goal

pub returns-in_err-end : goal.returns-in_err-end
returns-in_err-end c =
    let is = sym c.is.ensures ∙ c.if-is.true in
    let g = given_err _ _ c.map_err.ensures.cases c.in_err-end.was in
    let m : c.in_err-end.field-0.0 ≡ record { at = c.args.at; kind = g.0 } = search rules in
    rw (handed _ c.from_residual.ensures) (no-colour _ _ _ is c.read_rgb.ensures g.1 m)

pub returns-then-is : goal.returns-then-is
returns-then-is c = past-colour _ _ _ (sym c.is.ensures ∙ c.if-is.true) c.read_rgb.ensures (given_ok _ _ c.map_err.ensures.cases c.in_ok-end.was)

pub returns : goal.returns
returns c = c.skip_from.ensures ∙ value-is _ _ _ (eqb-false _ _ (sym c.is.ensures ∙ c.if-is.false))
