-- `normaliser::respell` meets its contract. Assumes nothing.
use Prim.Native.Nat.{◌<◌}
use lib.ListN.{length}
use native.Mathlib.Omega.{arith}
use mathlib.Core.Path.{◌≡◌, refl, sym, ◌∙◌}
use Rattle.std.proofs.Common.{rules}
use Rattle.payload.proofs.Handed.{handed, got_of, given_ok, given_err}
use Rattle.token.specs.Tokens.{token_answer}
use Rattle.normaliser.proofs.Respelling.{next-refused, next-counted, next-wide}
use Rattle.normaliser.proofs.respell.Goals as goal

pub returns-in_err-t : goal.returns-in_err-t
returns-in_err-t c =
    let l : c.args.at < length c.args.bytes.now = omega arith in
    let g = given_err _ _ c.map_err.ensures.cases c.in_err-t.was in
    let m : c.in_err-t.field-0.0 ≡ record { at = c.args.at; kind = g.0 } = search rules in
    rw (handed _ c.from_residual.ensures, m) (next-refused l refl (got_of token_answer c.read_token.ensures g.1))

pub returns-in_default : goal.returns-in_default
returns-in_default c =
    let t = got_of token_answer c.read_token.ensures (given_ok _ _ c.map_err.ensures.cases c.in_ok-t.was) in
    next-wide _ c.type_inv.bytes _ t c.write.result c.args.out.now (omega arith) c.place-to.ensures c.write.ensures (sym c.counted.ensures ∙ c.in_default.is)

pub returns : goal.returns
returns c =
    let t = got_of token_answer c.read_token.ensures (given_ok _ _ c.map_err.ensures.cases c.in_ok-t.was) in
    next-counted _ c.type_inv.bytes _ t c.write.result c.args.out.now (omega arith) c.place-to.ensures c.write.ensures (sym c.counted.ensures ∙ c.in-Some.is)
