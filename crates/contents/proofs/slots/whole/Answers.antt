-- `contents::slots::whole` meets its contract. Assumes nothing.
use Rattle.contents.proofs.Kept.{even-paired, odd-paired}
use Rattle.contents.proofs.slots.whole.Goals as goal

pub returns-then-list-ne0-clause-err : goal.returns-then-list-ne0-clause-err
returns-then-list-ne0-clause-err c = odd-paired _ c.if-list-ne0.true

pub returns-clause-ok : goal.returns-clause-ok
returns-clause-ok c = even-paired _ c.if-list-ne0.false
