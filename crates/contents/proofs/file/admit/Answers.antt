-- `contents::file::admit` meets its contract. Assumes nothing.
use Rattle.std.proofs.Common.{ap, not, sym, ◌∙◌}
use Rattle.std.proofs.lemmas.Result.{err_from_is_err_and}
use borrow.Author.Tests.{not-true, not-false}
use Rattle.contents.proofs.Judged.{out-of-order, in-order}
use Rattle.contents.proofs.Admitted.{not-headed, not-ordered, too_many, all_listed}
use Rattle.contents.proofs.file.admit.Goals as goal

pub returns-then-not-is_headed : goal.returns-then-not-is_headed
returns-then-not-is_headed c = not-headed _ _ (sym c.is_headed.ensures ∙ not-true _ (ap not c.if-not-is_headed.true))

pub returns-in_err-search_in : goal.returns-in_err-search_in
returns-in_err-search_in c =
    let p = err_from_is_err_and c.from_residual.result c.from_residual.ensures.1 in
    rw (p.1, p.2)
    (not-ordered _ _ (sym c.is_headed.ensures ∙ not-false _ (ap not c.if-not-is_headed.false)) (out-of-order _ _ c.in_err-search_in.ensures))

pub returns-then-room-n : goal.returns-then-room-n
returns-then-room-n c =
    too_many _ _ (sym c.is_headed.ensures ∙ not-false _ (ap not c.if-not-is_headed.false)) (in-order _ _ c.in_ok-search_in.field-0 c.in_ok-search_in.ensures) c.count-n.ensures
    c.if-room-n.true

pub returns : goal.returns
returns c =
    all_listed _ _ (sym c.is_headed.ensures ∙ not-false _ (ap not c.if-not-is_headed.false)) (in-order _ _ c.in_ok-search_in.field-0 c.in_ok-search_in.ensures) c.count-n.ensures
    c.if-room-n.false
