-- `source::reads::read_once` meets its contract. Assumes nothing.
use native.Mathlib.Omega.{arith}
use lib.ListN.{length-take}
use Rattle.source.proofs.Filling.{granted}
use Rattle.source.proofs.reads.read_once.Goals as goal

pub slice_bounds-store-end : goal.slice_bounds-store-end
slice_bounds-store-end c = omega (arith, granted _ _ _ _ c.grant-r.ensures, length-take c.grant-r.result.got c.args.supply.now)

pub store-requires : goal.store-requires
store-requires c = omega (arith, granted _ _ _ _ c.grant-r.ensures, length-take c.grant-r.result.got c.args.supply.now)
