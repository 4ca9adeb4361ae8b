-- `skip::walk::skip_from` meets its contract. Assumes nothing.
use mathlib.Core.Path.{◌≡◌, ap, ◌∙◌}
use Rattle.std.specs.Prelude.{Ok}
use Rattle.std.proofs.Common.{rules}
use Rattle.payload.specs.Answers.{read_as}
use Rattle.payload.proofs.Handed.{handed, got_of, given_ok, given_err}
use Rattle.skip.proofs.Turns.{known, cut_at, refused-turn, ends, goes_on}
use Rattle.skip.proofs.walk.skip_from.Goals as goal

pub returns-in_err-end : goal.returns-in_err-end
returns-in_err-end c =
    let g = given_err _ _ c.map_err.ensures.cases c.in_err-end.was in
    let m : c.in_err-end.field-0.0 ≡ cut_at c.loop-end.at g.0 = search rules in
    rw (handed _ c.from_residual.ensures) (refused-turn _ _ _ _ c.over.ensures g.1 m ∙ c.loop-end.invariant.1)

pub returns-in_err-id-in-On : goal.returns-in_err-id-in-On
returns-in_err-id-in-On c =
    let t = known _ _ _ _ c.over.ensures (given_ok _ _ c.map_err.ensures.cases c.in_ok-end.was ∙ ap Ok c.in-On.is) in
    let g = given_err _ _ c.map_err-in-On.ensures.cases c.in_err-id-in-On.was in
    let m : c.in_err-id-in-On.field-0.0 ≡ cut_at c.in-On.end g.0 = search rules in
    rw (handed _ c.from_residual-in_err-id-in-On.ensures) (ends _ _ _ _ t c.read_id.ensures g.1 m ∙ c.loop-end.invariant.1)

pub loop-end-smaller : goal.loop-end-smaller
loop-end-smaller c =
    let t = known _ _ _ _ c.over.ensures (given_ok _ _ c.map_err.ensures.cases c.in_ok-end.was ∙ ap Ok c.in-On.is) in
    let q = given_ok _ _ c.map_err-in-On.ensures.cases c.in_ok-id-in-On.was in
    (goes_on _ _ _ _ t (got_of (read_as (λ x. x.0)) c.read_id.ensures q)).2

pub loop-end-preserved : goal.loop-end-preserved
loop-end-preserved c =
    let t = known _ _ _ _ c.over.ensures (given_ok _ _ c.map_err.ensures.cases c.in_ok-end.was ∙ ap Ok c.in-On.is) in
    let q = given_ok _ _ c.map_err-in-On.ensures.cases c.in_ok-id-in-On.was in
    let g = goes_on _ _ _ _ t (got_of (read_as (λ x. x.0)) c.read_id.ensures q) in
    (g.0, g.1 ∙ c.loop-end.invariant.1)

pub returns-in-Out : goal.returns-in-Out
returns-in-Out c =
    let t = known _ _ _ _ c.over.ensures (given_ok _ _ c.map_err.ensures.cases c.in_ok-end.was ∙ ap Ok c.in-Out.is) in
    t.answer ∙ c.loop-end.invariant.1
