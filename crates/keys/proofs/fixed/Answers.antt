-- `keys::fixed` meets its contract. Assumes nothing.
use mathlib.Core.Path.{◌≡◌, sym}
use Rattle.std.specs.Prelude.{Ok}
use Rattle.std.proofs.Common.{rules}
use Rattle.payload.specs.Answers.{text_of}
use Rattle.payload.proofs.Handed.{handed, placed-found, placed-refused}
use Rattle.keys.proofs.fixed.Goals as goal

pub returns-in_err-next : goal.returns-in_err-next
returns-in_err-next c = rw (handed _ c.from_residual.ensures) (record { is = placed-refused text_of _ (sym c.in_err-next.ensures) })

pub returns : goal.returns
returns c =
    let e : c.read_bytes.result ≡ Ok (c.in_ok-next.field-0-0, c.in_ok-next.next) = search rules in
    let h = rw e at c.read_bytes.ensures in
    record { is = placed-found text_of _ (sym h) }
