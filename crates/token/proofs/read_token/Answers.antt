-- `token::read_token` meets its contract. Assumes nothing.
use mathlib.Core.Path.{sym}
use Rattle.payload.proofs.Handed.{handed}
use Rattle.token.proofs.Payloads.{after-id, no-id}
use Rattle.token.proofs.read_token.Goals as goal

pub returns-in_err-id : goal.returns-in_err-id
returns-in_err-id c = rw (handed _ c.from_residual.ensures) (no-id _ _ (sym c.in_err-id.ensures))

pub returns : goal.returns
returns c = after-id _ _ (sym c.in_ok-id.ensures) c.by_id.ensures
