-- `payload::read_compact_f64` meets its contract. Assumes nothing.
use Rattle.std.specs.Prelude.{Err}
use Rattle.std.proofs.Common.{rules}
use Prim.Native.Nat.{◌≤◌}
use native.Mathlib.Omega.{arith}
use mathlib.Core.Path.{◌≡◌, sym}
use Rattle.form.specs.Readers.{mapped}
use Rattle.payload.proofs.Few.{at-most-7, few-below}
use Rattle.payload.proofs.Handed.{handed}
use Rattle.payload.proofs.read_compact_f64.Goals as goal

pub read_width-requires : goal.read_width-requires
read_width-requires c =
    let h : c.capped.result ≤ 7 = rw c.capped.ensures (at-most-7 c.args.width) in
    omega arith

pub returns-in_err-x : goal.returns-in_err-x
unfolding mapped
returns-in_err-x c =
    let e : c.read_width.result ≡ Err c.in_err-x.field-0.0 = search rules in
    let h = rw e at c.read_width.ensures in
    rw (handed _ c.from_residual.ensures, sym c.capped.ensures, sym h)

pub negate-requires : goal.negate-requires
negate-requires c = few-below _ _ _ c.type_inv.bytes (rw c.capped.ensures (at-most-7 c.args.width)) (sym c.in_ok-x.ensures)

pub returns-then-negative : goal.returns-then-negative
unfolding mapped
returns-then-negative c = rw (sym c.capped.ensures, sym c.in_ok-x.ensures, c.if-negative.true, c.negate.ensures)

pub returns-else-negative : goal.returns-else-negative
unfolding mapped
returns-else-negative c = rw (sym c.capped.ensures, sym c.in_ok-x.ensures, c.if-negative.false)
