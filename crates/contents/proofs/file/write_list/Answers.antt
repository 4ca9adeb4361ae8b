-- `contents::file::write_list` meets its contract. Assumes nothing.
use Rattle.std.proofs.Common.{rules, length, arith}
use Rattle.std.proofs.lemmas.Result.{err_from_is_err_and}
use Rattle.laws.proofs.FileBack.{length-file}
use Rattle.contents.specs.Slots.{put_all}
use Rattle.contents.proofs.Judged.{fits, refused-left, written-so}
use Rattle.contents.proofs.file.write_list.Goals as goal

pub returns-in_err-need : goal.returns-in_err-need
unfolding put_all
returns-in_err-need g c =
    let p = err_from_is_err_and c.from_residual.result c.from_residual.ensures.1 in
    rw (p.1, p.2) (refused-left _ (search rules) c.in_err-need.ensures)

pub put_file-requires-clause-few : goal.put_file-requires-clause-few
put_file-requires-clause-few g c = (fits (g.T.Slot.entries c.args.list.now) (length c.args.out.now) c.in_ok-need.ensures).few

pub put_file-requires-clause-room : goal.put_file-requires-clause-room
put_file-requires-clause-room g c =
    let l = g.T.Slot.entries c.args.list.now in
    omega (arith, length-file l, (fits l (length c.args.out.now) c.in_ok-need.ensures).within)

pub returns : goal.returns
returns g c =
    let f = fits (g.T.Slot.entries c.args.list.now) (length c.args.out.now) c.in_ok-need.ensures in
    written-so f.written c.in_ok-need.ensures c.put_file.ensures
