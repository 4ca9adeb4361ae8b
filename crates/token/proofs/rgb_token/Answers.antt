-- `token::rgb_token` meets its contract. Assumes nothing.
use mathlib.Core.Path.{◌≡◌}
use Rattle.std.specs.Prelude.{Err}
use Rattle.std.proofs.Common.{rules}
use Rattle.form.specs.Readers.{placed}
use Rattle.payload.proofs.Handed.{handed}
use Rattle.token.proofs.Payloads.{colour-token}
use Rattle.token.proofs.rgb_token.Goals as goal

pub returns-in_err-colour : goal.returns-in_err-colour
unfolding placed
returns-in_err-colour c =
    let e : c.args.read ≡ Err c.in_err-colour.field-0.0 = search rules in
    rw (handed _ c.from_residual.ensures, e)

pub returns : goal.returns
unfolding placed
returns c = rw (c.in_ok-colour.was, colour-token c.in_ok-colour.next c.in_ok-colour.colour)
