-- `listing::tally::Tally::bracketed` meets its contract. Assumes nothing.
use Rattle.listing.proofs.Counting.{open-makes}
use Rattle.listing.proofs.tally.Tally.bracketed.Goals as goal

pub returns-then-self : goal.returns-then-self
returns-then-self c = rw c.if-self.true (open-makes c.args.self.value)
