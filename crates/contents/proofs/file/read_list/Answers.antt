-- `contents::file::read_list` meets its contract. Assumes nothing.
use Rattle.std.proofs.Common.{length, ap, ◌∙◌, arith}
use Rattle.std.proofs.lemmas.Result.{err_from_is_err_and}
use Rattle.contents.proofs.Admitted.{filled-with, read-within, stays, copied}
use Rattle.contents.proofs.file.read_list.Goals as goal

pub returns-in_err-n : goal.returns-in_err-n
returns-in_err-n g c =
    let p = err_from_is_err_and c.from_residual.result c.from_residual.ensures.1 in
    rw (p.1, p.2, ← c.count.ensures) (stays g.T.Slot.put c.in_err-n.ensures)

pub copy-requires-clause-has : goal.copy-requires-clause-has
copy-requires-clause-has g c =
    let f = filled-with c.in_ok-n.ensures in
    omega (arith, f.2, ap length (read-within c.args.file.now c.count.result f.0 f.1).0)

pub copy-requires-clause-room : goal.copy-requires-clause-room
copy-requires-clause-room g c =
    let f = filled-with c.in_ok-n.ensures in
    omega (arith, f.2, c.count.ensures, (read-within c.args.file.now c.count.result f.0 f.1).1)

pub returns : goal.returns
returns g c =
    let f = filled-with c.in_ok-n.ensures in
    let same = (read-within c.args.file.now c.count.result f.0 f.1).0 in
    rw (← c.count.ensures) (copied g.T.Slot.put f.1 f.2 (c.copy.ensures ∙ rw same))
