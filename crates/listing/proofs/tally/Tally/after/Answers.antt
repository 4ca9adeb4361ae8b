-- `listing::tally::Tally::after` meets its contract. Assumes nothing.
use mathlib.Core.Path.{sym, ◌∙◌}
use Rattle.token.specs.Tokens.{value_of}
use Rattle.listing.proofs.Counting.{tally-bracket, tally-open, tally-stray, tally-close, tally-key, tally-equal, tally-plain, plain-kind}
use borrow.Enum.Refused.{opened}
use Rattle.listing.proofs.tally.Tally.after.Goals as goal

pub returns-then-bracketed : goal.returns-then-bracketed
unfolding value_of
returns-then-bracketed c s = rw c.in-Open.is (tally-bracket c.args.self (sym c.bracketed.ensures ∙ c.if-bracketed.true))

pub returns-else-bracketed : goal.returns-else-bracketed
unfolding value_of
returns-else-bracketed c s = rw c.in-Open.is (tally-open c.args.self (sym c.bracketed.ensures ∙ c.if-bracketed.false))

pub returns-then-c-eq0 : goal.returns-then-c-eq0
unfolding value_of
returns-then-c-eq0 c s = rw c.in-Close.is (tally-stray c.args.self c.if-c-eq0.true)

pub returns-else-c-eq0 : goal.returns-else-c-eq0
unfolding value_of
returns-else-c-eq0 c s = rw c.in-Close.is (tally-close c.args.self c.if-c-eq0.false)

pub returns-then-self : goal.returns-then-self
unfolding value_of
returns-then-self c s = rw c.in-Equal.is (tally-key c.args.self c.if-self.true)

pub returns-else-self : goal.returns-else-self
unfolding value_of
returns-else-self c s = rw c.in-Equal.is (tally-equal c.args.self c.if-self.false)

pub returns-in_default : goal.returns-in_default
returns-in_default c s = tally-plain c.args.self (value_of s c.args.t) (plain-kind s c.args.t (opened c.in_default.in_default-own.keys4))
