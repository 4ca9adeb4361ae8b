-- `lexer::Lexer::read_id` meets its contract. Assumes nothing.
use native.Mathlib.Omega.{arith}
use Rattle.lexeme.specs.declared.LexemeId.{LexemeId}
use Rattle.lexer.proofs.Endings.{num-ended, either}
use Rattle.lexer.proofs.Lexer.read_id.Goals as goal

pub returns : goal.returns
returns c =
    let h = num-ended {V = LexemeId} (λ x. x.0) 2 (omega arith) _ _ (search either) c.ended.ensures in
    search (either, h)
