-- `writer::put::Pen::number` meets its contract. Assumes nothing.
use mathlib.Core.Path.{refl, ap, ◌∙◌}
use native.Mathlib.Omega.{arith}
use lib.ListN.{length}
use lib.Seq.{length-sets}
use Rattle.form.specs.Numbers.{le_bytes}
use Rattle.laws.proofs.LittleEndian.{length-bytes}
use Rattle.writer.proofs.put.Pen.number.Goals as goal

pub returns : goal.returns
returns c =
    let p = c.args.self.now in
    let s = le_bytes c.args.width c.args.x in
    record {
      put = record {
        next = omega (arith, length-bytes c.args.width c.args.x);
        same = ap length c.store_number.ensures ∙ length-sets p.out.now p.at s;
        bytes = λ _. c.store_number.ensures;
      };
      lent = refl;
    }
