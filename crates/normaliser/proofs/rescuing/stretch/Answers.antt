-- `normaliser::rescuing::stretch` meets its contract. The invariant is `Reaches`: all tokens so far are kept. Assumes nothing.
use native.Mathlib.Omega.{arith}
use mathlib.Core.Path.{refl}
use Rattle.token.proofs.Walks.{read}
use Rattle.normaliser.proofs.Reached.{sets-out, over-open, over-close, over-other, at-stray, at-end}
use Rattle.normaliser.proofs.rescuing.stretch.Goals as goal

pub loop-token-init : goal.loop-token-init
loop-token-init c = sets-out _ _ c.requires

pub loop-token-smaller-in-Open : goal.loop-token-smaller-in-Open
loop-token-smaller-in-Open c =
    let r = read _ _ (rw c.in-Open.is at c.in-Some.ensures.is) in
    omega (arith, r.on, r.there)

pub loop-token-preserved-in-Open : goal.loop-token-preserved-in-Open
loop-token-preserved-in-Open c =
    over-open c.loop-token.invariant (read _ _ (rw c.in-Open.is at c.in-Some.ensures.is)) refl

pub returns-then-open-eq0 : goal.returns-then-open-eq0
returns-then-open-eq0 c =
    at-stray c.loop-token.invariant c.if-open-eq0.true (read _ _ (rw c.in-Close.is at c.in-Some.ensures.is)) refl

pub loop-token-smaller-in-Close : goal.loop-token-smaller-in-Close
loop-token-smaller-in-Close c =
    let r = read _ _ (rw c.in-Close.is at c.in-Some.ensures.is) in
    omega (arith, r.on, r.there)

pub loop-token-preserved-in-Close : goal.loop-token-preserved-in-Close
loop-token-preserved-in-Close c =
    over-close c.loop-token.invariant (read _ _ (rw c.in-Close.is at c.in-Some.ensures.is)) refl c.if-open-eq0.false

pub loop-token-smaller : goal.loop-token-smaller
loop-token-smaller c =
    let t = (rw c.in-Other.is at c.in-Some.ensures.is) in
    let r = read _ _ t.2 in
    omega (arith, r.on, r.there)

pub loop-token-preserved : goal.loop-token-preserved
loop-token-preserved c =
    let t = (rw c.in-Other.is at c.in-Some.ensures.is) in
    over-other c.loop-token.invariant (read _ _ t.2) t.1

pub returns-in_default : goal.returns-in_default
returns-in_default c = at-end c.loop-token.invariant (rw c.in_default.is at c.pass_token.ensures).is.1
