use Prim.Native.Nat.{◌-◌, ◌≤◌}
use lib.ListN.{length}
use Rattle.form.specs.Listing.{listing}
use Rattle.text.proofs.Pending.{Pending}
use Rattle.listing.specs.Tallies.{Sound}
use Rattle.listing.proofs.Reading.{rest}
use Rattle.listing.proofs.put_listing.Given as goal

abbrev pub invariant-loop-at : goal.invariant-loop-at
invariant-loop-at l =
    (l.at ≤ length l.bytes) × (l.tally.tokens ≤ l.at) × Sound l.tally × Pending l.p (rest l.bytes l.at l.tally) l.initial.p (listing l.bytes)

abbrev pub decreases-loop-at : goal.decreases-loop-at
decreases-loop-at l = length l.bytes - l.at
