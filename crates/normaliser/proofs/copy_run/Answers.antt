-- `normaliser::copy_run` meets its contract. Assumes nothing.
use native.Mathlib.Omega.{arith}
use mathlib.Core.Path.{◌≡◌, sym, ap, ◌∙◌}
use mathlib.Core.List.{[]}
use Rattle.normaliser.specs.Stretches.{between}
use Rattle.normaliser.proofs.Joining.{between-length, between_none}
use Rattle.normaliser.proofs.Passing.{appends, appends-none}
use Rattle.normaliser.proofs.copy_run.Goals as goal

pub returns-then-start-end : goal.returns-then-start-end
returns-then-start-end c =
    let a = c.args in
    let e : between a.bytes.now a.start a.end ≡ [] = ap (λ q. between a.bytes.now a.start q) (sym c.if-start-end.true) ∙ between_none a.bytes.now a.start in
    rw e (appends-none a.out.now a.need (omega arith))

pub returns : goal.returns
returns c =
    let a = c.args in
    appends (omega arith) c.place-to.ensures c.copy.ensures.output (omega (arith, between-length a.bytes.now a.start a.end c.requires.1))
