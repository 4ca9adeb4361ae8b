-- `lexer::Lexer::read_lookup_u8` meets its contract. Assumes nothing.
use native.Mathlib.Omega.{arith}
use Rattle.lexer.proofs.Endings.{num-ended, either}
use Rattle.lexer.proofs.Lexer.read_lookup_u8.Goals as goal

pub returns : goal.returns
returns c =
    let h = num-ended (λ x. x) 1 (omega arith) _ _ (search either) c.ended.ensures in
    search (either, h)
