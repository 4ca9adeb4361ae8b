-- `normaliser::shortening::ShortPass::pass` meets its contract. The invariant is `Going`: what the tokens so far are spelled by is counted, and in the
-- output if it fits. Assumes nothing.
use mathlib.Core.Path.{◌≡◌, refl}
use native.Mathlib.Omega.{arith}
use Rattle.laws.proofs.LittleEndian.{bytes-all}
use Rattle.std.proofs.Common.{rules}
use Rattle.payload.proofs.Handed.{handed, got_of, given_ok, given_err}
use Rattle.token.specs.Tokens.{token_answer}
use Rattle.normaliser.proofs.Steps.{token-spellable}
use Rattle.normaliser.proofs.Passing.{going_start, going_end, going-stopped, bounded}
use Rattle.normaliser.proofs.Respelling.{short_on, next-refused}
use Rattle.normaliser.proofs.shortening.ShortPass.pass.Goals as goal

pub loop-at-init : goal.loop-at-init
loop-at-init c = going_start _ _ (omega arith)

pub returns-in_err-t : goal.returns-in_err-t
returns-in_err-t c =
    let g = given_err _ _ c.map_err.ensures.cases c.in_err-t.was in
    let m : c.in_err-t.field-0.0 ≡ record { at = c.loop-at.at; kind = g.0 } = search rules in
    rw (handed _ c.from_residual.ensures, m)
    (going-stopped c.loop-at.invariant (next-refused c.loop-at-test.true refl (got_of token_answer c.read_token.ensures g.1)) _)

pub append-need-requires : goal.append-need-requires
append-need-requires c =
    token-spellable _ c.loop-at.at (bytes-all c.args.bytes.now c.type_inv.bytes) (got_of token_answer c.read_token.ensures (given_ok _ _ c.map_err.ensures.cases c.in_ok-t.was))

pub overflow_add-need : goal.overflow_add-need
overflow_add-need c =
    let t = short_on c.type_inv.bytes (got_of token_answer c.read_token.ensures (given_ok _ _ c.map_err.ensures.cases c.in_ok-t.was)) c.loop-at.invariant c.append-need.ensures in
    omega (arith, bounded t.1 c.requires)

pub loop-at-smaller : goal.loop-at-smaller
loop-at-smaller c =
    let t = short_on c.type_inv.bytes (got_of token_answer c.read_token.ensures (given_ok _ _ c.map_err.ensures.cases c.in_ok-t.was)) c.loop-at.invariant c.append-need.ensures in
    omega (arith, t.0, t.1.spells.there)

pub loop-at-preserved : goal.loop-at-preserved
loop-at-preserved c =
    (short_on c.type_inv.bytes (got_of token_answer c.read_token.ensures (given_ok _ _ c.map_err.ensures.cases c.in_ok-t.was)) c.loop-at.invariant c.append-need.ensures).1

pub returns : goal.returns
returns c = going_end (omega arith) c.loop-at.invariant (omega arith)
