use Prim.Native.Nat.{◌-◌}
use Rattle.form.specs.Numbers.{le_bytes}
use Rattle.form.specs.Ascii.{hex}
use Rattle.text.proofs.Pending.{Pending}
use Rattle.text.proofs.Printer.put_le.Given as goal

abbrev pub invariant-loop : goal.invariant-loop
invariant-loop l = Pending l.self (hex (le_bytes (l.width - l.counter) l.rest)) l.initial.self (hex (le_bytes l.width l.x))
