-- `contents::file::entry_at` meets its contract. Assumes nothing.
use Rattle.std.proofs.Common.{◌≡◌, ◌+◌, ◌*◌, arith}
use Rattle.contents.proofs.file.entry_at.Goals as goal

pub returns : goal.returns
returns c =
    let i = c.args.i in
    let e : 5 + 8 * i + 4 ≡ 9 + 8 * i = omega arith in
    rw (c.number_at.ensures, c.number_at-2.ensures, c.place-at.ensures, e)
