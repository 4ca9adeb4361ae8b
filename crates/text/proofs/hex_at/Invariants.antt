use lib.ListN.{drop}
use Rattle.form.specs.Ascii.{hex}
use Rattle.text.proofs.Pending.{Pending}
use Rattle.text.proofs.hex_at.Given as goal

abbrev pub invariant-loop-b : goal.invariant-loop-b
invariant-loop-b l = Pending l.p (hex (drop l.b-index l.src)) l.initial.p (hex l.src)
