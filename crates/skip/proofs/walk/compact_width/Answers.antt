-- `skip::walk::compact_width` meets its contract. Assumes nothing.
use Prim.Native.Nat.{◌-◌}
use native.Mathlib.Omega.{arith}
use mathlib.Core.Path.{◌≡◌, ap, ◌∙◌}
use mathlib.Core.Option.{some}
use Rattle.skip.proofs.Passing.{compact-steps, negated-steps}
use Rattle.skip.proofs.walk.compact_width.Goals as goal

pub returns-then-offset-le7 : goal.returns-then-offset-le7
returns-then-offset-le7 c = let h = c.requires in compact-steps _ h.0 (omega (arith, c.if-offset-le7.true))

pub returns-else-offset-le7 : goal.returns-else-offset-le7
returns-else-offset-le7 c =
    let n = c.args.id.0 in
    let h = c.requires in
    let e : n - 0x0d4e ≡ n - 0x0d47 - 7 = omega arith in
    negated-steps n (omega (arith, c.if-offset-le7.false)) (omega (arith, h.1)) ∙ ap some e
