-- `payload::read_bytes` meets its contract. Assumes nothing.
use Prim.Native.Nat.{◌+◌, ◌-◌, ◌≤◌, ◌<◌}
use mathlib.Core.Path.{◌≡◌}
use native.Mathlib.Omega.{arith}
use lib.ListN.{length, drop, length-drop}
use lib.Seq.{length-take-le}
use Rattle.form.specs.Readers.{placed}
use Rattle.laws.proofs.Places.{at_next, at-short}
use Rattle.split.proofs.Enough.{there, short}
use Rattle.std.proofs.Common.{ap, not}
use Rattle.payload.proofs.read_bytes.Goals as goal

pub overflow_sub-missing : goal.overflow_sub-missing
overflow_sub-missing c =
    let a = c.args in
    let h : length (drop a.at a.bytes.now) < a.count = short c.has.ensures (ap not c.if-not-has.true) in
    omega (arith, c.left.ensures)

pub returns-then-not-has : goal.returns-then-not-has
unfolding placed
returns-then-not-has c =
    let a = c.args in
    rw (at-short a.count a.bytes.now a.at (short c.has.ensures (ap not c.if-not-has.true)), c.left.ensures)

pub overflow_add-end : goal.overflow_add-end
overflow_add-end c =
    let a = c.args in
    omega (arith, length-drop a.at a.bytes.now, there {n = a.count} {m = length (drop a.at a.bytes.now)} c.has.ensures (ap not c.if-not-has.false))

pub returns : goal.returns
unfolding placed
returns c =
    let a = c.args in
    let h : a.count ≤ length (drop a.at a.bytes.now) = there c.has.ensures (ap not c.if-not-has.false) in
    let b : a.at + a.count - a.count ≡ a.at = omega arith in
    rw (at_next a.count a.bytes.now a.at h, length-take-le a.count (drop a.at a.bytes.now) h, b)
