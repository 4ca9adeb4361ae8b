-- `writer::layout::shortest` meets its contract. Assumes nothing.
use Rattle.writer.proofs.ShortLayouts.{other-out}
use borrow.Enum.Refused.{opened}
use Rattle.writer.proofs.layout.shortest.Goals as goal

pub returns-in_default : goal.returns-in_default
returns-in_default c = other-out _ (opened c.in_default.in_default-own.keys4) _ c.laid_out.ensures
