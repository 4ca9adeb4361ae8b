-- `normaliser::telling::pass_token` meets its contract. Assumes nothing.
use mathlib.Core.Path.{sym, ◌∙◌}
use Rattle.payload.specs.Answers.{read_as}
use Rattle.normaliser.proofs.Taken.{ok_of, err_of}
use Rattle.normaliser.proofs.Spans.{unread, told-open, told-close, told-other, told-none}
use Rattle.normaliser.proofs.telling.pass_token.Goals as goal

pub returns-in_err-id : goal.returns-in_err-id
returns-in_err-id c = rw c.from_residual.ensures (unread _ _ (err_of (read_as (λ x. x.0)) c.read_id.result c.in_err-id.ensures.value c.read_id.ensures).1)

pub returns-then-is : goal.returns-then-is
returns-then-is c =
    told-open _ _ (ok_of (read_as (λ x. x.0)) c.read_id.result c.in_ok-id.ensures.value c.read_id.ensures) (sym c.is.ensures ∙ c.if-is.true)

pub returns-then-is-2 : goal.returns-then-is-2
returns-then-is-2 c =
    told-close _ _ (ok_of (read_as (λ x. x.0)) c.read_id.result c.in_ok-id.ensures.value c.read_id.ensures) (sym c.is-2.ensures ∙ c.if-is-2.true)

pub returns-in_err-end : goal.returns-in_err-end
returns-in_err-end c =
    rw c.from_residual-in_err-end.ensures
    (told-none _ _ (ok_of (read_as (λ x. x.0)) c.read_id.result c.in_ok-id.ensures.value c.read_id.ensures) (c.in_err-end.ensures _ c.span.ensures))

pub returns : goal.returns
returns c =
    told-other _ _ (ok_of (read_as (λ x. x.0)) c.read_id.result c.in_ok-id.ensures.value c.read_id.ensures) (sym c.is.ensures ∙ c.if-is.false)
    (sym c.is-2.ensures ∙ c.if-is-2.false) (c.in_ok-end.ensures _ c.span.ensures)
