-- `payload::numbers::spelled` meets its contract: x is the number of the bytes from i on, and is below 256 to their count. Assumes nothing.
use Prim.Native.Nat.{suc, ◌+◌, ◌-◌, ◌≤◌}
use native.Mathlib.Nat.{pow-succ'}
use native.Mathlib.Omega.{arith}
use mathlib.Core.Path.{◌≡◌, sym, ◌∙◌}
use lib.Dec.{lit<}
use lib.ListN.{length-drop}
use Rattle.laws.proofs.LittleEndian.{within}
use Rattle.payload.proofs.HighestFirst.{upper-end, upper-more, upper-all}
use Rattle.payload.proofs.numbers.spelled.Goals as goal

pub loop-i-init : goal.loop-i-init
loop-i-init c =
    let e : c.args.width - c.args.width ≡ 0 = omega arith in
    (sym (upper-end _ _), rw e (lit< tt))

pub overflow_mul-x : goal.overflow_mul-x
overflow_mul-x c =
    let h : c.args.width - c.loop-i.i ≤ 7 = omega arith in
    omega (arith, within h)

pub overflow_add-x-in-loop-i : goal.overflow_add-x-in-loop-i
overflow_add-x-in-loop-i c =
    let h : c.args.width - c.loop-i.i ≤ 7 = omega arith in
    omega (arith, within h, c.type_inv.bytes (c.args.at + (c.loop-i.i - 1)))

pub loop-i-preserved : goal.loop-i-preserved
loop-i-preserved c =
    let a = c.args in
    let i = c.loop-i.i in
    let e : a.width - (i - 1) ≡ suc (a.width - i) = omega arith in
    let m = upper-more a.bytes.now (a.at + (i - 1)) (a.at + i) (a.at + a.width) (omega arith) (omega arith) (omega (arith, length-drop a.at a.bytes.now)) in
    (omega arith, rw (e, pow-succ' 256) (omega (arith, c.type_inv.bytes (a.at + (i - 1)))))

pub returns : goal.returns
returns c =
    let a = c.args in
    let i = c.loop-i.i in
    c.loop-i.invariant.0 ∙ upper-all a.bytes.now (a.at + i) (a.at + a.width) a.at a.width (omega arith) (omega arith)
