-- What the answer for bytes and a room says of both. Assumes nothing.
use Prim.Native.Nat.{ℕ, ◌≤◌, ◌<◌}
use mathlib.Core.Path.{◌≡◌, refl}
use mathlib.Core.Bool.{Bool, true, false}
use mathlib.Core.List.{List}
use lib.ListN.{length}
use lib.Dec.{leb}
use borrow.Author.Tests.{leb-true, leb-false}
use Rattle.form.specs.Numbers.{pick}
use Rattle.form.specs.Refusals.{Refusal, NoRoom}
use Rattle.form.specs.Writing.{Output, written, unwritten, wrote, declined, outcome, fitted}
use Rattle.laws.proofs.Never.{never}

module _ (room : ℕ) (bs : List ℕ) where
  abbrev by : Bool → Output
  by f = pick f (written bs) (unwritten (NoRoom (length bs)))

  pub fitted-written : {n : ℕ} → wrote n ≡ outcome (fitted room bs) → (n ≡ length bs) × (length bs ≤ room) × (fitted room bs ≡ written bs)
  unfolding fitted outcome
  fitted-written {n} e = go (leb (length bs) room) refl e
    where
      go : (f : Bool) → leb (length bs) room ≡ f → wrote n ≡ outcome (by f) → (n ≡ length bs) × (length bs ≤ room) × (by f ≡ written bs)
      go true h e = (cc, leb-true (length bs) room h, refl)
      go false h e = never (cc)

  pub fitted-refused : {r : Refusal} → declined r ≡ outcome (fitted room bs)
      → (r ≡ NoRoom (length bs)) × (room < length bs) × (fitted room bs ≡ unwritten (NoRoom (length bs)))
  unfolding fitted outcome
  fitted-refused {r} e = go (leb (length bs) room) refl e
    where
      go : (f : Bool) → leb (length bs) room ≡ f → declined r ≡ outcome (by f) → (r ≡ NoRoom (length bs)) × (room < length bs) × (by f ≡ unwritten (NoRoom (length bs)))
      go true h e = never (cc)
      go false h e = (cc, leb-false (length bs) room h, refl)
