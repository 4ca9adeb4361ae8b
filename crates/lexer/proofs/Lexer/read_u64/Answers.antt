-- `lexer::Lexer::read_u64` meets its contract. Assumes nothing.
use native.Mathlib.Omega.{arith}
use Rattle.lexer.proofs.Endings.{num-ended, either}
use Rattle.lexer.proofs.Lexer.read_u64.Goals as goal

pub returns : goal.returns
returns c =
    let h = num-ended (λ x. x) 8 (omega arith) _ _ (search either) c.ended.ensures in
    search (either, h)
