-- `contents::searching::search` meets its contract. Assumes nothing.
use Rattle.std.proofs.Common.{◌∙◌}
use Rattle.std.proofs.lemmas.Result.{err_from_is_err_and}
use Rattle.contents.proofs.Judged.{search-odd, search-even}
use Rattle.contents.proofs.searching.search.Goals as goal

pub returns-in_err-whole : goal.returns-in_err-whole
returns-in_err-whole c =
    let p = err_from_is_err_and c.from_residual.result c.from_residual.ensures.1 in
    rw p.1 (search-odd c.args.list.now c.args.position c.in_err-whole.ensures.err)

pub returns : goal.returns
returns c = c.search_in.ensures ∙ search-even c.args.list.now c.args.position c.in_ok-whole.ensures.ok
