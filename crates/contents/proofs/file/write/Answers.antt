-- `contents::file::write` meets its contract. Assumes nothing.
use Rattle.std.proofs.Common.{length}
use Rattle.std.proofs.lemmas.Result.{err_from_is_err_and}
use Rattle.contents.proofs.Judged.{refused-so, write-odd, write-even}
use Rattle.contents.proofs.file.write.Goals as goal

pub returns-in_err-whole : goal.returns-in_err-whole
returns-in_err-whole c =
    let p = err_from_is_err_and c.from_residual.result c.from_residual.ensures.1 in
    rw (p.1, p.2) (refused-so (write-odd c.args.list.now (length c.args.out.now) c.in_err-whole.ensures.err))

pub returns : goal.returns
returns c = rw (write-even c.args.list.now (length c.args.out.now) c.in_ok-whole.ensures.ok) c.write_list.ensures
