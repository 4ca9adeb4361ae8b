-- `normaliser::spelling::fixed` meets its contract. Assumes nothing.
use Rattle.laws.proofs.Places.{num-there, num-lt}
use Rattle.split.proofs.Enough.{there}
use Rattle.std.proofs.Common.{ap, not}
use Rattle.normaliser.proofs.spelling.fixed.Goals as goal

pub returns : goal.returns
returns c =
    let a = c.args in
    let e = num-there a.width a.bytes.now a.at (there c.has.ensures (ap not c.if-not-has.false)) in
    (_, num-lt a.width a.bytes.now a.at c.shared_slice_known-1.given e, e)
