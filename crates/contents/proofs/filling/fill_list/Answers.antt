-- `contents::filling::fill_list` meets its contract. Assumes nothing.
use Rattle.std.proofs.Common.{◌≤◌, length, ◌∙◌, arith}
use Rattle.std.proofs.lemmas.Result.{err_from_is_err_and}
use Rattle.contents.proofs.Admitted.{stays, comes, copied}
use Rattle.contents.proofs.Collected.{over-limit, cut-so, counted, too_many, in-room, put-so, told-twice, kept}
use Rattle.contents.proofs.filling.fill_list.Goals as goal

pub returns-then-len-gt-LIMIT : goal.returns-then-len-gt-LIMIT
returns-then-len-gt-LIMIT g c = stays g.T.Slot.put (over-limit _ _ c.if-len-gt-LIMIT.true)

pub returns-in_err-n : goal.returns-in_err-n
returns-in_err-n g c =
    let p = err_from_is_err_and c.from_residual.result c.from_residual.ensures.1 in
    rw (p.1, p.2) (stays g.T.Slot.put (cut-so c.in_err-n.ensures _ c.if-len-gt-LIMIT.false))

pub returns-then-count-n : goal.returns-then-count-n
returns-then-count-n g c = stays g.T.Slot.put (too_many c.in_ok-n.ensures _ c.if-len-gt-LIMIT.false (omega (arith, c.count.ensures)))

pub returns-then-n-early : goal.returns-then-n-early
returns-then-n-early g c =
    let k = c.in_ok-n.ensures in
    copied g.T.Slot.put (in-room k _ c.if-len-gt-LIMIT.false (omega (arith, c.count.ensures))) (counted k)
    (c.copy.ensures ∙ rw (kept k (omega arith)))

pub returns-in_ok-collect : goal.returns-in_ok-collect
returns-in_ok-collect g c =
    let k = c.in_ok-n.ensures in
    let room : c.in_ok-n.n ≤ length (g.T.Slot.entries c.args.list.now) = omega (arith, c.count.ensures) in
    comes g.T.Slot.put (in-room k _ c.if-len-gt-LIMIT.false room) (counted k) (put-so c.in_ok-collect.ensures (told-twice k c.in_ok-collect.ensures room))
