-- What `list` answers, by what the first pass measured. Assumes nothing.
use Prim.Native.Nat.{ℕ, ◌+◌, ◌≤◌, ◌<◌, min}
use native.Mathlib.Omega.{arith}
use mathlib.Core.Path.{◌≡◌, refl}
use mathlib.Core.List.{List, [], ◌∷◌}
use lib.ListN.{length}
use borrow.Author.Tests.{le-leb, lt-leb}
use Rattle.form.specs.Numbers.{Bytes, MAX}
use Rattle.form.specs.Refusals.{NoRoom, TooLong}
use Rattle.form.specs.Saves.{LIMIT}
use Rattle.form.specs.Writing.{written, unwritten, fitted}
use Rattle.form.specs.Listing.{listing, list}
use Rattle.laws.proofs.Rooms.{listing-length, list-fits}

-- an output of no bytes keeps none
pub none_left : (d : List ℕ) → length d ≡ 0 → d ≡ []
none_left [] h = refl
none_left (x ∷ d) h = absurd (omega arith)

module _ (s : List ℕ) (room : ℕ) where
  pub too_long : LIMIT < length s → list room s ≡ unwritten (TooLong (length s))
  unfolding list
  too_long h = rw (lt-leb (length s) LIMIT h)

  module _ (b : Bytes s) (h : length s ≤ LIMIT) {n : ℕ} (e : n ≡ min (0 + length (listing s)) MAX) where
    pub measured : n ≡ length (listing s)
    measured = omega (arith, listing-length 9 s b (omega arith))

    pub fits : n ≤ room → list room s ≡ written (listing s)
    fits l = list-fits room s h (omega (arith, measured))

    pub lacks : room < n → list room s ≡ unwritten (NoRoom n)
    unfolding list fitted
    lacks l = rw (le-leb (length s) LIMIT h, lt-leb (length (listing s)) room (omega (arith, measured)), measured)
