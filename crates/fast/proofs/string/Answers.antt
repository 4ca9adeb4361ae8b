-- `fast::string` meets its contract. Assumes nothing.
use native.Mathlib.Omega.{arith}
use mathlib.Core.Path.{sym, ◌∙◌}
use Rattle.fast.proofs.Holding.{text-within, text-got, text-slow}
use Rattle.fast.proofs.string.Goals as goal

pub returns-in_default : goal.returns-in_default
returns-in_default c = c.slow.ensures ∙ text-slow c.args.window.now c.requires c.args.kind c.args.held (sym c.in_default.ensures)

pub overflow_add-result : goal.overflow_add-result
overflow_add-result c = omega (arith, text-within c.args.window.now c.requires (sym c.in-Ok.ensures))

pub returns : goal.returns
returns c = rw c.hold.ensures (text-got c.args.window.now c.requires c.args.kind c.args.held (sym c.in-Ok.ensures))
