-- `contents::file::put_file` meets its contract. Assumes nothing.
use Rattle.std.proofs.Common.{length, ap, arith}
use lib.Seq.{length-sets}
use Rattle.laws.proofs.FileBack.{length-file}
use Rattle.contents.proofs.Kept.{length-entries-of}
use Rattle.contents.proofs.Judged.{laid-out}
use Rattle.contents.proofs.file.put_file.Goals as goal

pub copy-requires-clause-room : goal.copy-requires-clause-room
copy-requires-clause-room g c =
    let same = simp length-sets at (ap length c.put_head.ensures) in
    omega (arith, same, length-entries-of c.put_head.new.out)

pub returns : goal.returns
returns g c =
    let l = g.T.Slot.entries c.args.list.now in
    laid-out l c.args.out.now (omega (arith, length-file l)) c.count-n.ensures c.put_head.ensures c.copy.ensures
