-- `lexer::Lexer::read_bool` meets its contract. Assumes nothing.
use native.Mathlib.Omega.{arith}
use mathlib.Core.Bool.{not}
use lib.Dec.{eqb}
use Rattle.lexer.proofs.Endings.{mapped-ended, either}
use Rattle.lexer.proofs.Lexer.read_bool.Goals as goal

pub returns : goal.returns
returns c =
    let h = mapped-ended (λ x. not (eqb x 0)) 1 (omega arith) _ _ (search either) c.ended.ensures in
    search (either, h)
