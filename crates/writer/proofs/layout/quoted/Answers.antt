-- `writer::layout::quoted` meets its contract. Assumes nothing.
use native.Mathlib.Omega.{arith}
use Rattle.writer.proofs.ShortLayouts.{empty-out, quoted-out}
use Rattle.writer.proofs.layout.quoted.Goals as goal

pub returns-then-t-eq0 : goal.returns-then-t-eq0
returns-then-t-eq0 c = empty-out _ c.if-t-eq0.true

pub returns : goal.returns
returns c = quoted-out _ (omega (arith, c.if-t-eq0.false))
