-- `fast::compact` meets its contract: seven bytes are there, so that the read is never refused. Assumes nothing.
use mathlib.Core.Path.{sym}
use Rattle.fast.proofs.Holding.{compact-got, compact-never}
use Rattle.fast.proofs.compact.Goals as goal

pub returns-in_default : goal.returns-in_default
returns-in_default c = compact-never c.args.window.now c.requires.1 c.args.width c.requires.0 c.args.negative (sym c.in_default.ensures)

pub returns : goal.returns
returns c =
    rw c.spell.ensures (compact-got c.args.window.now c.requires.1 c.args.width c.requires.0 c.args.negative (sym c.in-Ok.ensures))
