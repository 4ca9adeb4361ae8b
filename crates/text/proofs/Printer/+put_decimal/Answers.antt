-- `text::Printer::put_decimal`, which calls itself, meets its contract: the number falls at each call. Assumes nothing.
use Rattle.text.proofs.Pending.{puts_then}
use Rattle.text.proofs.Words.{decimal-one, decimal-more}
use Rattle.text.proofs.Printer.+put_decimal.Goals as goal
use Rattle.text.proofs.Printer.+put_decimal.Goals.{then-x-ge10, else-x-ge10}

pub returns : goal.returns
returns t c =
    elim c.if-x-ge10.branch [
      | then-x-ge10 w ↦ rw (decimal-more c.args.x w.if-x-ge10.true) (puts_then w.put_decimal.ensures (rw w.self-is at c.put.ensures))
      | else-x-ge10 w ↦ rw (decimal-one c.args.x w.if-x-ge10.false) (rw w.self-is at c.put.ensures)
    ]
