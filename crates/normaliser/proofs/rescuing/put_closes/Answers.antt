-- `normaliser::rescuing::put_closes` meets its contract: so many of the Closes are put. Assumes nothing.
use mathlib.Core.Path.{◌≡◌}
use native.Mathlib.Omega.{arith}
use Rattle.laws.proofs.Rescuing.{closes-length}
use Rattle.normaliser.proofs.Reached.{one_more, no-close}
use Rattle.normaliser.proofs.rescuing.put_closes.Goals as goal

pub loop-init : goal.loop-init
loop-init c = no-close _ _ (omega arith)

pub put_number-need-requires : goal.put_number-need-requires
put_number-need-requires c = omega (arith, c.loop.invariant.count, closes-length c.loop.counter)

pub loop-preserved : goal.loop-preserved
loop-preserved c = one_more _ c.loop.invariant c.put_number-need.ensures

pub returns : goal.returns
returns c =
    let e : c.loop.counter ≡ c.args.count = omega arith in
    rw e at c.loop.invariant
