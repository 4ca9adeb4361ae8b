-- `lexer::Lexer::skip_container` meets its contract. Assumes nothing.
use mathlib.Core.Path.{◌≡◌}
use Rattle.std.proofs.Common.{rules}
use Rattle.form.specs.Calls.{skips}
use Rattle.laws.proofs.SkipSteps.{container-by}
use Rattle.payload.proofs.Handed.{handed, given_ok, given_err}
use Rattle.lexer.proofs.Endings.{told-inside, told-outside, skipped, lands}
use Rattle.lexer.proofs.Lexer.skip_container.Goals as goal

pub returns-in_err-map_err : goal.returns-in_err-map_err
unfolding skips
returns-in_err-map_err c =
    let g = given_err _ _ c.map_err.ensures.cases c.in_err-map_err.was in
    let m : c.in_err-map_err.field-0.0 ≡ record { refusal = g.0; next = c.args.self } = search rules in
    rw (handed _ c.from_residual.ensures, m) (told-outside _ _ c.place.ensures g.1 _)

pub land-requires : goal.land-requires
land-requires c =
    let h = told-inside _ _ c.place.ensures (given_ok _ _ c.map_err.ensures.cases c.in_ok-map_err.was) in
    lands _ _ h c.skip_container.result c.skip_container.ensures (container-by _ _ h.there)

pub returns : goal.returns
returns c =
    let h = told-inside _ _ c.place.ensures (given_ok _ _ c.map_err.ensures.cases c.in_ok-map_err.was) in
    skipped _ _ _ h c.skip_container.ensures c.land.ensures
