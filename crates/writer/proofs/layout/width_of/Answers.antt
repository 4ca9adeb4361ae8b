-- `writer::layout::width_of` meets its contract: a number's leading zeros tell how many bytes it has. Assumes nothing.
use Rattle.laws.proofs.Widths.{leading-width}
use Rattle.writer.proofs.layout.width_of.Goals as goal

pub returns : goal.returns
returns c = leading-width c.args.x c.ranges.x.fits
