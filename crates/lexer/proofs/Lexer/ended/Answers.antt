-- `lexer::Lexer::ended` meets its contract. Assumes nothing.
use mathlib.Core.Path.{refl}
use Rattle.laws.proofs.Never.{never}
use Rattle.lexer.specs.Calls.{refusal_of}
use Rattle.lexer.proofs.Endings.{cut}
use Rattle.lexer.proofs.Lexer.ended.Goals as goal

pub returns-then-not-fits : goal.returns-then-not-fits
unfolding refusal_of
returns-then-not-fits g c = record { fit = λ t. never (cc); unfit = λ t. refl }

pub returns-in-Err : goal.returns-in-Err
returns-in-Err g c = record { fit = λ t. rw c.in-Err.is (c.from.result, c.from.ensures, cut _ _ _ refl c.refused.ensures); unfit = λ t. never (cc) }
