-- `payload::read_bool` meets its contract. Assumes nothing.
use Rattle.std.specs.Prelude.{Err}
use Rattle.std.proofs.Common.{rules}
use mathlib.Core.Path.{◌≡◌, sym}
use Rattle.form.specs.Readers.{mapped}
use Rattle.payload.proofs.Handed.{handed}
use Rattle.payload.proofs.read_bool.Goals as goal

pub returns-in_err-truth : goal.returns-in_err-truth
unfolding mapped
returns-in_err-truth c =
    let e : c.read_width.result ≡ Err c.in_err-truth.field-0.0 = search rules in
    let h = rw e at c.read_width.ensures in
    rw (handed _ c.from_residual.ensures, sym h)

pub returns : goal.returns
unfolding mapped
returns c = rw (sym c.in_ok-truth.ensures)
