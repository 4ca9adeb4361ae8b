-- `keys::string` meets its contract. Assumes nothing.
use mathlib.Core.Path.{◌≡◌, sym}
use Rattle.std.specs.Prelude.{Err}
use Rattle.std.proofs.Common.{rules}
use Rattle.payload.specs.Answers.{text_of}
use Rattle.payload.proofs.Handed.{handed, placed-found, placed-refused}
use Rattle.keys.proofs.string.Goals as goal

pub returns-in_err-next : goal.returns-in_err-next
returns-in_err-next c =
    let e : c.read_string.result ≡ Err c.in_err-next.field-0.0 = search rules in
    let h = rw e at c.read_string.ensures in
    rw (handed _ c.from_residual.ensures) (record { is = placed-refused text_of _ (sym h) })

pub returns : goal.returns
returns c = record { is = placed-found text_of _ (sym c.in_ok-next.ensures) }
