-- The kind Id is that of the ids that the table does not have. Assumes nothing.
use mathlib.Core.Path.{◌≡◌, refl}
use mathlib.Core.Bool.{Bool, false, not}
use Prim.Native.Nat.{ℕ}
use lib.Dec.{eqb}
use Rattle.form.specs.Values.{kind}
use Rattle.form.specs.Table.{Payload, reserved, entries, table}
use Rattle.form.specs.Ids.{sample}
use Rattle.laws.proofs.Lookups.{InEach, reserved-after}
use Rattle.lexeme.specs.Kinds.{kind_by, kind_at}

-- whether a number is the kind Id's
abbrev pub is_id : ℕ → Bool
is_id k = eqb k 14

abbrev NoId : Payload → Type 0
NoId p = is_id (kind_by p) ≡ false

each : InEach NoId entries
unfolding entries table kind sample
each = (refl, (refl, (refl, (refl, (refl, (refl, (refl, (refl, (refl, (refl, (refl, (refl, (refl, (refl, (refl, (refl, (refl, (refl, ((λ _ _ _. refl), ((λ _ _ _. refl), tt))))))))))))))))))))

pub id-plain : (i : ℕ) → is_id (kind_at i) ≡ not (reserved i)
unfolding kind sample
id-plain i = reserved-after (λ b p. is_id (kind_by p) ≡ not b) each i refl
