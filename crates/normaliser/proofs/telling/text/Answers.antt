-- `normaliser::telling::text` meets its contract. Assumes nothing.
use Rattle.payload.specs.Answers.{read_as, text_of}
use Rattle.normaliser.proofs.Taken.{ok_of, err_of}
use Rattle.payload.proofs.Handed.{placed-found, placed-refused}
use Rattle.normaliser.proofs.telling.text.Goals as goal

pub returns-in_err-next : goal.returns-in_err-next
returns-in_err-next c =
    let e = err_of (read_as (λ x. x)) c.read_string.result c.in_err-next.ensures.value c.read_string.ensures in
    rw c.from_residual.ensures (record { is = (_, placed-refused text_of _ e.1) })

pub returns : goal.returns
returns c = record { is = placed-found text_of _ (ok_of (read_as (λ x. x)) c.read_string.result c.in_ok-next.ensures.value c.read_string.ensures) }
