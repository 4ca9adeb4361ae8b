-- `keys::makes_key` meets its contract. Assumes nothing.
use mathlib.Core.Path.{sym, ap, ◌∙◌}
use mathlib.Core.Bool.{not}
use Rattle.keys.proofs.Passing.{before-none, before-equal, before-value, before-open}
use Rattle.keys.proofs.makes_key.Goals as goal

pub returns-in_default : goal.returns-in_default
returns-in_default c = before-none _ _ _ (sym c.in_default.ensures)

pub returns-then-is : goal.returns-then-is
returns-then-is c = c.if-is.true ∙ before-equal _ _ _ (sym c.in-Ok.ensures) (sym c.is.ensures ∙ c.if-is.true)

pub returns-then-not-value : goal.returns-then-not-value
returns-then-not-value c =
    c.is-then-not-value.ensures
    ∙ before-open _ _ _ (sym c.in-Ok.ensures) (sym c.is.ensures ∙ c.if-is.false) c.if-not-value.true

pub returns-else-not-value : goal.returns-else-not-value
returns-else-not-value c =
    ap not c.if-not-value.false
    ∙ before-value _ _ _ (sym c.in-Ok.ensures) (sym c.is.ensures ∙ c.if-is.false) c.if-not-value.false
