-- `writer::write_layout` meets its contract. Assumes nothing.
use mathlib.Core.Path.{sym, ap, ◌∙◌}
use lib.ListN.{length}
use native.Mathlib.Omega.{arith}
use Rattle.form.specs.Writing.{leaves}
use Rattle.writer.specs.Layouts.{write_by}
use Rattle.laws.proofs.Puts.{put_front}
use Rattle.writer.proofs.Judging.{refused-leaves, written-fits}
use Rattle.payload.proofs.Handed.{handed}
use Rattle.writer.proofs.write_layout.Goals as goal

pub returns-in_err-n : goal.returns-in_err-n
returns-in_err-n c =
    let a = c.args in
    let e = c.in_err-n.ensures in
    rw (handed _ c.from_residual.ensures)
    (record { answer = e; output = sym (refused-leaves (write_by (length a.out.now) a.bytes.now a.p) _ a.out.now e) })

pub layout-requires : goal.layout-requires
layout-requires c =
    let a = c.args in
    omega (arith, (written-fits (length a.out.now) a.bytes.now a.p c.in_ok-n.ensures).1)

pub returns : goal.returns
unfolding leaves
returns c =
    let a = c.args in
    let f = written-fits (length a.out.now) a.bytes.now a.p c.in_ok-n.ensures in
    let done = put_front (omega arith) f.1 c.layout.ensures.put ∙ ap (λ o. leaves o a.out.now) (sym f.0) in
    record { answer = c.in_ok-n.ensures; output = grind (arith, done) }
