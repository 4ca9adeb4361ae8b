-- `payload::colour::read_channel` meets its contract. Assumes nothing.
use Rattle.std.specs.Prelude.{Err}
use Rattle.std.proofs.Common.{rules}
use mathlib.Core.Path.{◌≡◌, sym}
use Rattle.form.specs.Readers.{and_then}
use Rattle.laws.proofs.Places.{channel-then}
use Rattle.payload.proofs.Handed.{handed}
use Rattle.payload.proofs.colour.read_channel.Goals as goal

pub returns-in_err-id : goal.returns-in_err-id
unfolding and_then
returns-in_err-id c =
    let e : c.read_id.result ≡ Err c.in_err-id.field-0.0 = search rules in
    let h = rw e at c.read_id.ensures in
    rw (channel-then, handed _ c.from_residual.ensures, sym h)

pub returns-in_err-value : goal.returns-in_err-value
unfolding and_then
returns-in_err-value c = rw (channel-then, sym c.in_ok-id.ensures, handed _ c.from_residual-in_err-value.ensures, sym c.in_err-value.ensures)

pub returns : goal.returns
unfolding and_then
returns c = rw (channel-then, sym c.in_ok-id.ensures, sym c.in_ok-value.ensures)
