-- `source::reads::fill_up` meets its contract. The invariant: what came so far is in the buffer, and what came with what is still to come is
-- what all the reads give. Assumes nothing.
use native.Mathlib.Omega.{arith}
use Rattle.source.proofs.Filling.{full, within, none, goes}
use Rattle.source.proofs.reads.fill_up.Goals as goal

pub overflow_add-used : goal.overflow_add-used
overflow_add-used c =
    let o = c.read_once-r.ensures in
    omega (arith, within _ _ _ _ _ _ c.loop-got.invariant c.loop-got-test.true _ _ o.reads o.bytes)

pub returns-then-r-eq0-clause-reads : goal.returns-then-r-eq0-clause-reads
returns-then-r-eq0-clause-reads c =
    let o = c.read_once-r.ensures in
    (none _ _ _ _ _ _ c.loop-got.invariant c.loop-got-test.true _ _ o.reads o.bytes c.if-r-eq0.true).0

pub returns-then-r-eq0-clause-bytes : goal.returns-then-r-eq0-clause-bytes
returns-then-r-eq0-clause-bytes c =
    let o = c.read_once-r.ensures in
    (none _ _ _ _ _ _ c.loop-got.invariant c.loop-got-test.true _ _ o.reads o.bytes c.if-r-eq0.true).1

pub overflow_add-got : goal.overflow_add-got
overflow_add-got c =
    let o = c.read_once-r.ensures in
    omega (arith, within _ _ _ _ _ _ c.loop-got.invariant c.loop-got-test.true _ _ o.reads o.bytes)

pub loop-got-preserved : goal.loop-got-preserved
loop-got-preserved c =
    let o = c.read_once-r.ensures in
    goes _ _ _ _ _ _ c.loop-got.invariant c.loop-got-test.true _ _ o.reads o.bytes c.if-r-eq0.false

pub returns-clause-reads : goal.returns-clause-reads
returns-clause-reads c = (full _ _ _ _ _ _ c.loop-got.invariant c.loop-got-test.false).0
