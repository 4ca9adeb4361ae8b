-- `capi::words::held` meets its contract. Assumes nothing.
use Rattle.std.proofs.Common.{ap, ◌∷◌}
use Rattle.lexeme.specs.Kinds.{kind_number}
use Rattle.capi.proofs.Padded.{first_six}
use Rattle.capi.proofs.words.held.Goals as goal

pub returns : goal.returns
returns g c = rw (c.words.ensures, c.from.ensures, c.number.ensures) (ap (λ ws. kind_number c.args.kind ∷ ws) (first_six (g.T.Words.words c.args.x)))
