-- `lexeme::LexemeId::into_kind` meets its contract: an arm knows which entry of the table its number is in, and the default that none has it.
-- Assumes nothing.
use mathlib.Core.Path.{sym, ap}
use Rattle.form.specs.Values.{kind}
use Rattle.form.specs.Table.{after, or_plain, find, entries, table}
use Rattle.form.specs.Ids.{sample}
use Rattle.laws.proofs.Lookups.{unquoted-at, lookup1-at, lookup2-at, lookup3-at, lookup4-at, compact-at, negated-in, plain-below, plain-above}
use Rattle.lexeme.specs.Kinds.{kind_by, kind_at}
use Rattle.lexeme.proofs.LexemeId.into_kind.Goals as goal

pub returns-in-1 : goal.returns-in-1
unfolding kind sample after or_plain find entries table
returns-in-1 c = sym (ap kind_at c.in-1.is)

pub returns-in-3 : goal.returns-in-3
unfolding kind sample after or_plain find entries table
returns-in-3 c = sym (ap kind_at c.in-3.is)

pub returns-in-4 : goal.returns-in-4
unfolding kind sample after or_plain find entries table
returns-in-4 c = sym (ap kind_at c.in-4.is)

pub returns-in-20 : goal.returns-in-20
unfolding kind sample after or_plain find entries table
returns-in-20 c = sym (ap kind_at c.in-20.is)

pub returns-in-12 : goal.returns-in-12
unfolding kind sample after or_plain find entries table
returns-in-12 c = sym (ap kind_at c.in-12.is)

pub returns-in-13 : goal.returns-in-13
unfolding kind sample after or_plain find entries table
returns-in-13 c = sym (ap kind_at c.in-13.is)

pub returns-in-668 : goal.returns-in-668
unfolding kind sample after or_plain find entries table
returns-in-668 c = sym (ap kind_at c.in-668.is)

pub returns-in-791 : goal.returns-in-791
unfolding kind sample after or_plain find entries table
returns-in-791 c = sym (ap kind_at c.in-791.is)

pub returns-in-359 : goal.returns-in-359
unfolding kind sample after or_plain find entries table
returns-in-359 c = sym (ap kind_at c.in-359.is)

pub returns-in-14 : goal.returns-in-14
unfolding kind sample after or_plain find entries table
returns-in-14 c = sym (ap kind_at c.in-14.is)

pub returns-in-15 : goal.returns-in-15
unfolding kind sample after or_plain find entries table
returns-in-15 c = sym (ap kind_at c.in-15.is)

pub returns-in-23 : goal.returns-in-23
unfolding kind sample
returns-in-23 c = sym (ap kind_by (unquoted-at c.in-23.is))

pub returns-in-3394 : goal.returns-in-3394
unfolding kind sample after or_plain find entries table
returns-in-3394 c = sym (ap kind_at c.in-3394.is)

pub returns-in-579 : goal.returns-in-579
unfolding kind sample after or_plain find entries table
returns-in-579 c = sym (ap kind_at c.in-579.is)

pub returns-in-3392 : goal.returns-in-3392
unfolding kind sample
returns-in-3392 c = sym (ap kind_by (lookup1-at c.in-3392.is))

pub returns-in-3390 : goal.returns-in-3390
unfolding kind sample
returns-in-3390 c = sym (ap kind_by (lookup2-at c.in-3390.is))

pub returns-in-3393 : goal.returns-in-3393
unfolding kind sample
returns-in-3393 c = sym (ap kind_by (lookup3-at c.in-3393.is))

pub returns-in-3391 : goal.returns-in-3391
unfolding kind sample
returns-in-3391 c = sym (ap kind_by (lookup4-at c.in-3391.is))

pub returns-in-3399-to-3406 : goal.returns-in-3399-to-3406
unfolding kind sample entries table
returns-in-3399-to-3406 c = sym (ap kind_by (compact-at _ c.in-3399-to-3406.in_default-own.rest c.in-3399-to-3406.if-n-lt3390-own.false c.in-3399-to-3406.if-n-lt3407-own.true))

pub returns-in-3407-to-3413 : goal.returns-in-3407-to-3413
unfolding kind sample entries table
returns-in-3407-to-3413 c = sym (ap kind_by (negated-in _ c.in-3407-to-3413.if-n-lt3407-own.false c.in-3407-to-3413.if-n-lt3414-own.true))

pub returns-in_default : goal.returns-in_default
unfolding kind sample entries table
returns-in_default c = sym (ap kind_by (plain-below _ c.in_default.in_default-own.rest c.in_default.if-n-lt3390-own.true))

pub returns-in_default-2 : goal.returns-in_default-2
unfolding kind sample entries table
returns-in_default-2 c = sym (ap kind_by (plain-above _ c.in_default.in_default-own.rest c.in_default.if-n-lt3414-own.false))
