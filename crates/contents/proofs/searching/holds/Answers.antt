-- `contents::searching::holds` meets its contract. Assumes nothing.
use Rattle.contents.proofs.Orders.{too-early, within_end}
use Rattle.contents.proofs.searching.holds.Goals as goal

pub returns-then-e-position : goal.returns-then-e-position
returns-then-e-position c = within_end _ _ c.if-e-position.true

pub returns-else-e-position : goal.returns-else-e-position
returns-else-e-position c = too-early _ _ c.if-e-position.false
