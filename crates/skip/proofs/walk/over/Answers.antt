-- `skip::walk::over` meets its contract. Assumes nothing.
use native.Mathlib.Omega.{arith}
use mathlib.Core.Path.{◌≡◌, sym, ◌∙◌}
use Rattle.std.specs.Prelude.{Err}
use Rattle.std.proofs.Common.{rules}
use Rattle.laws.proofs.SkipSteps.{passing-on}
use Rattle.payload.proofs.Handed.{handed}
use Rattle.skip.proofs.Turns.{cut_short, deeper, out, higher, onward, over-at}
use Rattle.skip.proofs.walk.over.Goals as goal

pub returns-then-depth-lt2 : goal.returns-then-depth-lt2
returns-then-depth-lt2 c = record { answer = sym (out _ _ _ _ c.in-4.is c.if-depth-lt2.true); moves = tt }

pub returns-in_err-end-in_default : goal.returns-in_err-end-in_default
returns-in_err-end-in_default c =
    let e : c.skip_payload.result ≡ Err c.in_err-end-in_default.field-0.0 = search rules in
    let h = rw e at c.skip_payload.ensures in
    rw (handed _ c.from_residual.ensures) (record { answer = sym (cut_short _ _ _ _ (sym h)); moves = tt })

pub returns-then-depth-eq0 : goal.returns-then-depth-eq0
returns-then-depth-eq0 c =
    let f = sym c.in_ok-end-in_default.ensures in
    let m = c.in_default.in_default-own.rest in
    record { answer = sym (onward _ _ _ _ m.0.1 m.1 f ∙ over-at _ _ _ c.if-depth-eq0.true); moves = tt }

pub returns-in-3 : goal.returns-in-3
returns-in-3 c = record { answer = sym (deeper _ _ _ _ c.in-3.is); moves = omega arith }

pub returns-else-depth-lt2 : goal.returns-else-depth-lt2
returns-else-depth-lt2 c = record { answer = sym (higher _ _ _ _ c.in-4.is (omega arith)); moves = omega arith }

pub returns-else-depth-eq0 : goal.returns-else-depth-eq0
returns-else-depth-eq0 c =
    let f = sym c.in_ok-end-in_default.ensures in
    let m = c.in_default.in_default-own.rest in
    let l = passing-on _ _ _ f in
    record { answer = sym (onward _ _ _ _ m.0.1 m.1 f); moves = (l, omega arith, omega arith) }
