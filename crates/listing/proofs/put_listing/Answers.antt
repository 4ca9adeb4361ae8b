-- `listing::put_listing` meets its contract. The invariant: what is left to write, written to the output as it is, gives what the promise says.
-- Assumes nothing.
use mathlib.Core.Path.{◌≡◌, sym, ap}
use Prim.Native.Nat.{◌+◌}
use native.Mathlib.Omega.{arith}
use Rattle.text.proofs.Pending.{pending-all, pending_step, pending-last}
use Rattle.token.specs.Tokens.{value_of}
use Rattle.token.proofs.Walks.{token-read, token-refused}
use Rattle.listing.specs.declared.tally.Tally.{Tally}
use Rattle.listing.proofs.Counting.{default-none, sound_none, sound-step}
use Rattle.listing.proofs.Reading.{rest_all, rest_end, rest-token, rest-refused}
use Rattle.listing.proofs.put_listing.Goals as goal

pub loop-at-init : goal.loop-at-init
loop-at-init c =
    let s = c.args.bytes.now in
    rw (default-none c.default-tally.result c.default-tally.ensures) (omega arith, omega arith, sound_none, rw (← rest_all s) (pending-all _ _ (omega arith)))

pub returns-in-Err : goal.returns-in-Err
returns-in-Err c =
    let l = c.loop-at in
    let s = c.args.bytes.now in
    let all = pending-last l.invariant.3 c.put_refusal.ensures (rest-refused s l.at l.tally (token-refused s l.at c.loop-at-test.true (sym c.in-Err.ensures))) in
    grind (arith, all)

pub after-tally-requires : goal.after-tally-requires
after-tally-requires c =
    let l = c.loop-at in
    record { sound = l.invariant.2; tokens_bound = omega (arith, l.invariant.1, c.loop-at-test.true) }

pub loop-at-smaller : goal.loop-at-smaller
loop-at-smaller c =
    let r = token-read _ _ (sym c.in-Ok.ensures) in
    omega (arith, r.on, r.there)

pub loop-at-preserved : goal.loop-at-preserved
loop-at-preserved c =
    let l = c.loop-at in
    let s = c.args.bytes.now in
    let e = sym c.in-Ok.ensures in
    let r = token-read s l.at e in
    let a = c.after-tally.ensures in
    let n : c.after-tally.result.tokens ≡ l.tally.tokens + 1 = ap (λ (x : Tally). x.tokens) (a s) in
    (r.there, omega (arith, l.invariant.1, r.on), rw (a s) (sound-step l.tally (value_of s c.in-Ok.t) l.invariant.2), pending_step _ l.invariant.3 c.put_line.ensures (rest-token s l.at l.tally e a))

pub returns : goal.returns
returns c =
    let l = c.loop-at in
    let all = pending-last l.invariant.3 c.put_end.ensures (rest_end c.args.bytes.now l.at l.tally c.loop-at-test.false) in
    grind (arith, all)
