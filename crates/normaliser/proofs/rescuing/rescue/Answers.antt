-- `normaliser::rescuing::rescue` meets its contract. Assumes nothing.
use Rattle.normaliser.proofs.Saving.{rescue-long, rescue-lacks, rescue-fits}
use Rattle.normaliser.proofs.rescuing.rescue.Goals as goal

pub returns-then-len-gt-LIMIT : goal.returns-then-len-gt-LIMIT
returns-then-len-gt-LIMIT c = let a = c.args in rescue-long a.bytes.now a.out.now c.if-len-gt-LIMIT.true

pub returns-then-out-need : goal.returns-then-out-need
returns-then-out-need c =
    let a = c.args in
    rescue-lacks a.bytes.now a.out.now c.if-len-gt-LIMIT.false c.needed-need.ensures c.if-out-need.true

pub returns : goal.returns
returns c =
    let a = c.args in
    rescue-fits a.bytes.now a.out.now c.if-len-gt-LIMIT.false c.needed-need.ensures c.if-out-need.false c.pass.ensures
