-- `keys::next_key` meets its contract.
-- The invariant: what is sought from here on, at this depth, is what is sought from the beginning on. Assumes nothing.
use native.Mathlib.Omega.{arith}
use mathlib.Core.Path.{◌∙◌}
use mathlib.Core.Bool.{false}
use Rattle.keys.specs.Seeking.{wants}
use Rattle.keys.proofs.Passing.{known, known-as, plain-may, other-may, to-open, to-close, to-equal, to-value, to-key, to-refused, to_end}
use Rattle.keys.proofs.next_key.Goals as goal

pub returns-in-Err : goal.returns-in-Err
returns-in-Err c = to-refused _ _ _ _ _ c.loop-at-test.true (known c.pass.ensures c.in-Err.is) c.loop-at.invariant.2

pub loop-at-smaller-in-Open : goal.loop-at-smaller-in-Open
loop-at-smaller-in-Open c = (to-open (λ _. false) false 0 _ _ (known-as c.pass.ensures c.in-Ok.is c.in-Open.is)).less

pub loop-at-preserved-in-Open : goal.loop-at-preserved-in-Open
loop-at-preserved-in-Open c =
    let l = c.loop-at in
    let g = to-open _ _ _ _ _ (known-as c.pass.ensures c.in-Ok.is c.in-Open.is) in
    (g.deep l.invariant.0, omega (arith, l.invariant.1, g.on), g.same ∙ l.invariant.2)

pub loop-at-smaller-in-Close : goal.loop-at-smaller-in-Close
loop-at-smaller-in-Close c = (to-close (λ _. false) false 0 _ _ (known-as c.pass.ensures c.in-Ok.is c.in-Close.is)).less

pub loop-at-preserved-in-Close : goal.loop-at-preserved-in-Close
loop-at-preserved-in-Close c =
    let l = c.loop-at in
    let g = to-close (wants c.args.wanted) l.equal l.depth c.args.bytes.now l.at (known-as c.pass.ensures c.in-Ok.is c.in-Close.is) in
    rw c.saturating_sub-depth.ensures (g.deep l.invariant.0, omega (arith, l.invariant.1, g.on), g.same ∙ l.invariant.2)

pub loop-at-smaller-in-Equal : goal.loop-at-smaller-in-Equal
loop-at-smaller-in-Equal c = (to-equal (λ _. false) false 0 _ _ (known-as c.pass.ensures c.in-Ok.is c.in-Equal.is)).less

pub loop-at-preserved-in-Equal : goal.loop-at-preserved-in-Equal
loop-at-preserved-in-Equal c =
    let l = c.loop-at in
    let g = to-equal _ _ _ _ _ (known-as c.pass.ensures c.in-Ok.is c.in-Equal.is) in
    (g.deep l.invariant.0, omega (arith, l.invariant.1, g.on), g.same ∙ l.invariant.2)

pub returns-then-is_key : goal.returns-then-is_key
returns-then-is_key c =
    let m = plain-may c.args.wanted _ _ (known-as c.pass.ensures c.in-Ok.is c.in-Plain.is) c.is_wanted.ensures in
    to-key _ _ _ _ _ m c.is_key.ensures c.loop-at.invariant.1 c.loop-at.invariant.2 c.if-is_key.true

pub loop-at-smaller-else-is_key : goal.loop-at-smaller-else-is_key
loop-at-smaller-else-is_key c =
    let m = plain-may c.args.wanted _ _ (known-as c.pass.ensures c.in-Ok.is c.in-Plain.is) c.is_wanted.ensures in
    (to-value _ _ _ _ _ m c.is_key.ensures c.if-is_key.false).less

pub loop-at-preserved-else-is_key : goal.loop-at-preserved-else-is_key
loop-at-preserved-else-is_key c =
    let l = c.loop-at in
    let m = plain-may c.args.wanted _ _ (known-as c.pass.ensures c.in-Ok.is c.in-Plain.is) c.is_wanted.ensures in
    let g = to-value _ _ _ _ _ m c.is_key.ensures c.if-is_key.false in
    (g.deep l.invariant.0, omega (arith, l.invariant.1, g.on), g.same ∙ l.invariant.2)

pub returns-then-is_key-2 : goal.returns-then-is_key-2
returns-then-is_key-2 c =
    let m = other-may c.args.wanted _ _ (known-as c.pass.ensures c.in-Ok.is c.in-Other.is) c.is_other_wanted.ensures in
    to-key _ _ _ _ _ m c.is_key-in-Other.ensures c.loop-at.invariant.1 c.loop-at.invariant.2 c.if-is_key-2.true

pub loop-at-smaller : goal.loop-at-smaller
loop-at-smaller c =
    let m = other-may c.args.wanted _ _ (known-as c.pass.ensures c.in-Ok.is c.in-Other.is) c.is_other_wanted.ensures in
    (to-value _ _ _ _ _ m c.is_key-in-Other.ensures c.if-is_key-2.false).less

pub loop-at-preserved : goal.loop-at-preserved
loop-at-preserved c =
    let l = c.loop-at in
    let m = other-may c.args.wanted _ _ (known-as c.pass.ensures c.in-Ok.is c.in-Other.is) c.is_other_wanted.ensures in
    let g = to-value _ _ _ _ _ m c.is_key-in-Other.ensures c.if-is_key-2.false in
    (g.deep l.invariant.0, omega (arith, l.invariant.1, g.on), g.same ∙ l.invariant.2)

pub returns : goal.returns
returns c = to_end _ _ _ _ _ c.loop-at-test.false c.loop-at.invariant.2
