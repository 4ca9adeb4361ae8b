-- `writer::put::Pen::all` meets its contract. Assumes nothing.
use mathlib.Core.Path.{refl, ap, ◌∙◌}
use native.Mathlib.Omega.{arith}
use lib.ListN.{length}
use lib.Seq.{length-sets}
use Rattle.writer.proofs.put.Pen.all.Goals as goal

pub returns : goal.returns
returns c =
    let p = c.args.self.now in
    let s = c.args.src.now in
    record { put = record { next = omega arith; same = ap length c.store.ensures ∙ length-sets p.out.now p.at s; bytes = λ _. c.store.ensures }; lent = refl }
