-- `contents::searching::search_in` meets its contract. Assumes nothing.
use Rattle.std.proofs.Common.{arith}
use Rattle.contents.proofs.Orders.{said-first, said-next, said-last}
use Rattle.contents.proofs.searching.search_in.Goals as goal

pub loop-i-init : goal.loop-i-init
loop-i-init g c = rw c.new-s.ensures (said-first c.args.position _)

pub loop-i-preserved : goal.loop-i-preserved
loop-i-preserved g c = said-next c.loop-i.s c.loop-i.i c.past-s.ensures c.get.ensures c.loop-i.invariant

pub returns : goal.returns
returns g c = said-last c.loop-i.s c.loop-i.i (g.T.Slot.entries c.args.list.now) c.answer.ensures (omega arith) c.loop-i.invariant
