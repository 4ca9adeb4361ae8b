-- `capi::counting::count` meets its contract. The loop's invariant: what is counted so far, with the walk from here, gives the reply for the
-- whole. Assumes nothing.
use Prim.Native.Nat.{zero-le}
use native.Mathlib.Omega.{arith}
use mathlib.Core.Path.{sym, ap, ◌∙◌}
use Rattle.capi.specs.Replies as R
use Rattle.payload.proofs.Handed.{got_of}
use Rattle.token.specs.Tokens.{token_answer}
use Rattle.token.proofs.Walks.{token-read}
use Rattle.capi.proofs.Counts.{at-start, at-end, counted, cut_off_lem}
use Rattle.capi.proofs.counting.count.Goals as goal

pub loop-at-init : goal.loop-at-init
loop-at-init c = (zero-le, zero-le, at-start _)

pub returns-in-Err : goal.returns-in-Err
returns-in-Err c =
    c.refused.ensures ∙ ap (R.refused c.loop-at.at) c.into.ensures ∙ cut_off_lem _ _ c.loop-at-test.true (got_of token_answer c.read_token.ensures c.in-Err.is) _ ∙ c.loop-at.invariant.2

pub loop-at-smaller : goal.loop-at-smaller
loop-at-smaller c =
    let r = token-read _ _ (got_of token_answer c.read_token.ensures c.in-Ok.is) in
    omega (arith, r.on, r.there)

pub loop-at-preserved : goal.loop-at-preserved
loop-at-preserved c =
    let r = token-read _ _ (got_of token_answer c.read_token.ensures c.in-Ok.is) in
    (r.there, omega (arith, r.on), sym (counted _ _ r _) ∙ c.loop-at.invariant.2)

pub returns : goal.returns
returns c = c.answered.ensures ∙ at-end c.args.bytes.now c.loop-at.at _ (omega arith) ∙ c.loop-at.invariant.2
