-- `normaliser::pass_twice` meets its contract. Assumes nothing.
use native.Mathlib.Omega.{arith}
use mathlib.Core.Path.{refl}
use Rattle.payload.proofs.Handed.{handed}
use Rattle.normaliser.proofs.Choosing.{too_long, measured-refused, no_room, fitting}
use Rattle.normaliser.proofs.pass_twice.Goals as goal

pub returns-then-len-gt-LIMIT : goal.returns-then-len-gt-LIMIT
returns-then-len-gt-LIMIT g c = let a = c.args in too_long g.P.Pass.style a.bytes.now a.out.now c.if-len-gt-LIMIT.true

pub returns-in_err-need : goal.returns-in_err-need
returns-in_err-need g c =
    let a = c.args in
    rw (handed _ c.from_residual.ensures)
    (measured-refused g.P.Pass.style a.bytes.now a.out.now c.pass.new.out c.if-len-gt-LIMIT.false (omega (arith, c.pass.auto.out)) c.in_err-need.ensures.answer refl)

pub returns-then-out-need : goal.returns-then-out-need
returns-then-out-need g c =
    let a = c.args in
    no_room g.P.Pass.style a.bytes.now a.out.now c.pass.new.out c.if-len-gt-LIMIT.false (omega (arith, c.pass.auto.out)) c.in_ok-need.ensures.answer refl (omega arith)

pub returns : goal.returns
returns g c =
    let a = c.args in
    fitting g.P.Pass.style a.bytes.now a.out.now c.pass.new.out c.if-len-gt-LIMIT.false (omega (arith, c.pass.auto.out)) c.in_ok-need.ensures.answer refl (omega arith) c.pass-2.ensures
