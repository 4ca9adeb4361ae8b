-- `contents::filling::collect` meets its contract. Assumes nothing.
use mathlib.Core.Path.{◌≡◌}
use Rattle.std.specs.Prelude.{Err}
use Rattle.std.proofs.Common.{rules, arith}
use Rattle.std.proofs.lemmas.Result.{err_from_is_err_and}
use Rattle.laws.proofs.InOrder.{contents-length}
use Rattle.contents.proofs.Collected.{at-first, fewer, end-inside, next, at-last, first-refused, next-refused}
use Rattle.contents.proofs.filling.collect.Goals as goal

pub returns-in_err-key : goal.returns-in_err-key
returns-in_err-key g c =
    let p = err_from_is_err_and c.from_residual.result c.from_residual.ensures.1 in
    rw (p.1, p.2) (first-refused g.T.Slot.put g.T.Slot.entries c.args.bytes.now c.args.list.now c.in_err-key.field-0.0 c.in_err-key.ensures)

pub loop-key-init : goal.loop-key-init
loop-key-init g c = at-first g.T.Slot.put g.T.Slot.entries c.args.bytes.now c.args.list.now c.in_ok-key.key c.in_ok-key.ensures

pub returns-in_err-key-2 : goal.returns-in_err-key-2
returns-in_err-key-2 g c =
    let l = c.loop-key in
    let i = rw c.in-Some.is at l.invariant in
    let p = err_from_is_err_and c.from_residual-in_err-key-2.result c.from_residual-in_err-key-2.ensures.1 in
    let e : c.next_key-in-Some.result ≡ Err c.in_err-key-2.field-0.0 = search rules in
    let h = rw e at c.next_key-in-Some.ensures in
    rw (p.1, p.2) (next-refused g.T.Slot.put g.T.Slot.entries c.args.bytes.now c.args.list.now c.in-Some.k l.n l.list i c.in_err-key-2.field-0.0 h)

pub entry-requires-clause-end : goal.entry-requires-clause-end
entry-requires-clause-end g c = omega (arith, end-inside c.args.bytes.now c.in-Some.k.end c.in_ok-key-2.key c.in_ok-key-2.ensures)

pub overflow_add-n : goal.overflow_add-n
overflow_add-n g c =
    let l = c.loop-key in
    let s = c.args.bytes.now in
    let i = rw c.in-Some.is at l.invariant in
    omega (arith, contents-length s, fewer g.T.Slot.put g.T.Slot.entries s c.args.list.now c.in-Some.k l.n l.list i)

pub loop-key-preserved : goal.loop-key-preserved
loop-key-preserved g c =
    let l = c.loop-key in
    let i = rw c.in-Some.is at l.invariant in
    next g.T.Slot.put g.T.Slot.entries c.args.bytes.now c.args.list.now c.in-Some.k l.n l.list i c.in_ok-key-2.key c.in_ok-key-2.ensures c.put.new.list
    (λ h. rw c.entry.ensures at (c.put.ensures.list h)) c.put.ensures.count

pub returns : goal.returns
returns g c =
    let l = c.loop-key in
    let i = rw c.in_default.is at l.invariant in
    at-last g.T.Slot.put g.T.Slot.entries c.args.bytes.now c.args.list.now l.n l.list i
