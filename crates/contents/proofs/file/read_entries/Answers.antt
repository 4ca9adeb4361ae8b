-- `contents::file::read_entries` meets its contract. Assumes nothing.
use Rattle.form.specs.Contents.{read_file}
use Rattle.contents.proofs.Admitted.{read-within, as-records}
use Rattle.contents.proofs.file.read_entries.Goals as goal

pub returns : goal.returns
returns c =
    let file = c.args.file.now in
    as-records (λ room. read_file room file) (λ room l e. (read-within file room l e).1) c.args.list.now c.read_list.ensures
