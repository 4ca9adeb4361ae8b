-- `keys::pass` meets its contract. Assumes nothing.
use mathlib.Core.Path.{◌≡◌, refl, sym, ◌∙◌}
use Rattle.std.specs.Prelude.{Ok}
use Rattle.std.proofs.Common.{rules}
use Rattle.form.specs.Readers.{and_then}
use Rattle.laws.proofs.Places.{by-id, token-then}
use Rattle.payload.proofs.Handed.{handed}
use Rattle.keys.proofs.Passing.{after-id}
use Rattle.keys.proofs.pass.Goals as goal

pub returns-in_err-id : goal.returns-in_err-id
unfolding and_then
returns-in_err-id c = rw (handed _ c.from_residual.ensures) (record { is = token-then _ _ ∙ rw (sym c.in_err-id.ensures) })

pub returns : goal.returns
returns c =
    let e : c.read_id.result ≡ Ok (c.in_ok-id.id, c.in_ok-id.next) = search rules in
    let h = rw e at c.read_id.ensures in
    after-id _ _ _ (by-id _ _ (sym h) refl) c.by_id.ensures
