-- `normaliser::spelling::string` meets its contract. Assumes nothing.
use Rattle.payload.specs.Answers.{read_as, text_of}
use Rattle.normaliser.proofs.Taken.{ok_of}
use Rattle.payload.proofs.Handed.{placed-found}
use Rattle.normaliser.proofs.spelling.string.Goals as goal

pub returns : goal.returns
returns c = placed-found text_of _ (ok_of (read_as (λ x. x)) c.read_string.result c.in_ok-next.ensures.value c.read_string.ensures)
