-- `contents::file::measure` meets its contract. Assumes nothing.
use Rattle.std.proofs.lemmas.Result.{err_from_is_err_and}
use Rattle.contents.proofs.Judged.{out-of-order, in-order, disorder, measured}
use Rattle.contents.proofs.file.measure.Goals as goal

pub returns-in_err-search_in : goal.returns-in_err-search_in
returns-in_err-search_in g c =
    let p = err_from_is_err_and c.from_residual.result c.from_residual.ensures.1 in
    rw (p.1, p.2) (disorder _ _ (out-of-order _ _ c.in_err-search_in.ensures))

pub returns : goal.returns
returns g c = measured _ _ (in-order _ _ c.in_ok-search_in.field-0 c.in_ok-search_in.ensures) c.count.ensures c.judge.ensures
