-- `writer::put::store` meets its contract. The invariant: what is still to be stored, stored into the output as it is, gives what the
-- contract says. Assumes nothing.
use mathlib.Core.Path.{◌≡◌, refl, ap, ◌∙◌}
use Prim.Native.Nat.{◌+◌, ◌-◌}
use native.Mathlib.Nat.{add-zero}
use native.Mathlib.Omega.{arith}
use lib.ListN.{length, drop, length-set}
use lib.Seq.{sets, take_all}
use Rattle.laws.proofs.Runs.{copy_step, copy_done}
use Rattle.writer.proofs.put.store.Goals as goal

pub loop-i-init : goal.loop-i-init
loop-i-init c = let a = c.args in (omega arith, refl, rw (add-zero a.at) (ap (sets a.out.now a.at) (take_all (length a.src.now - 0) a.src.now (omega arith))))

pub loop-i-preserved : goal.loop-i-preserved
loop-i-preserved c =
    let l = c.loop-i in
    let a = c.args in
    let e : a.at + (l.i + 1) ≡ a.at + l.i + 1 = omega arith in
    let f : length a.src.now - (l.i + 1) ≡ length a.src.now - l.i - 1 = omega arith in
    (omega arith, simp length-set l.invariant.1, rw (e, f) (copy_step l.out a.src.now (a.at + l.i) l.i (length a.src.now - l.i) (omega arith) (omega arith) ∙ l.invariant.2))

pub returns : goal.returns
returns c =
    let l = c.loop-i in
    let src = c.args.src.now in
    copy_done l.out (drop l.i src) (c.args.at + l.i) (length src - l.i) (omega arith) ∙ l.invariant.2
