-- `payload::numbers::read_width` meets its contract. Assumes nothing.
use Rattle.std.specs.Prelude.{Err}
use Rattle.std.proofs.Common.{rules}
use mathlib.Core.Path.{◌≡◌, sym}
use Rattle.laws.proofs.Places.{num-there, took}
use Rattle.payload.specs.Answers.{text_of}
use Rattle.payload.proofs.Handed.{handed}
use Rattle.payload.proofs.Spells.{spells, spells-not}
use Rattle.payload.proofs.numbers.read_width.Goals as goal

pub returns-in_err-next : goal.returns-in_err-next
returns-in_err-next c =
    let e : c.read_bytes.result ≡ Err c.in_err-next.field-0.0 = search rules in
    let h = rw e at c.read_bytes.ensures in
    rw (handed _ c.from_residual.ensures) (sym (spells-not text_of _ _ _ (sym h)))

pub spelled-x-requires : goal.spelled-x-requires
spelled-x-requires c =
    let g = spells text_of _ _ _ (sym c.in_ok-next.ensures) in
    (c.requires, (took _ _ _ g.1).there)

pub returns : goal.returns
returns c =
    let g = spells text_of _ _ _ (sym c.in_ok-next.ensures) in
    let t = took _ _ _ g.1 in
    rw (c.spelled-x.ensures, t.next) (sym (num-there _ _ _ t.there))
