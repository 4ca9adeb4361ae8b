-- `writer::layout::float` meets its contract. Assumes nothing.
use Rattle.writer.proofs.ShortLayouts.{short-out, whole-out}
use Rattle.writer.proofs.layout.float.Goals as goal

pub returns-then-width-gt7 : goal.returns-then-width-gt7
returns-then-width-gt7 c =
    let w = rw c.magnitude-n.ensures at c.width_of-width.ensures in
    whole-out c.args.x c.ranges.x.fits c.width_of-width.result w c.if-width-gt7.true

pub returns : goal.returns
returns c =
    let w = rw c.magnitude-n.ensures at c.width_of-width.ensures in
    rw (c.new-id.ensures, c.magnitude-n.ensures) (short-out c.args.x c.ranges.x.fits c.width_of-width.result w c.if-width-gt7.false)
