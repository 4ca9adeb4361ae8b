use Rattle.form.specs.Rescue.{closes}
use Rattle.normaliser.specs.Stretches.{Appends}
use Rattle.normaliser.proofs.rescuing.put_closes.Given as goal

abbrev pub invariant-loop : goal.invariant-loop
invariant-loop l = Appends l.initial.out l.need-2 (closes l.counter) l.out l.need
