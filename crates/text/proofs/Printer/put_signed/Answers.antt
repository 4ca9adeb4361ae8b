-- `text::Printer::put_signed` meets its contract. Assumes nothing.
use Rattle.text.proofs.Pending.{puts_then}
use Rattle.text.proofs.Sign.{signed-minus, signed-plain}
use Rattle.text.proofs.Printer.put_signed.Goals as goal
use Rattle.text.proofs.Printer.put_signed.Goals.{then-x-lt0, else-x-lt0}

pub returns : goal.returns
returns c =
    elim c.if-x-lt0.branch [
      | then-x-lt0 w ↦
          rw (signed-minus c.args.x c.ranges.x _ w.if-x-lt0.true c.unsigned_abs.ensures.value) (puts_then w.put.ensures (rw w.self-is at c.put_decimal.ensures))
      | else-x-lt0 w ↦
          rw (signed-plain c.args.x c.ranges.x _ w.if-x-lt0.false c.unsigned_abs.ensures.value) (rw w.self-is at c.put_decimal.ensures)
    ]
