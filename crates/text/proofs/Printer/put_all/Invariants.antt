use lib.ListN.{drop}
use Rattle.text.proofs.Pending.{Pending}
use Rattle.text.proofs.Printer.put_all.Given as goal

abbrev pub invariant-loop-b : goal.invariant-loop-b
invariant-loop-b l = Pending l.self (drop l.b-index l.src) l.initial.self l.src
