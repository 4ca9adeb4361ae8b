-- `lexer::Lexer::peek_id` meets its contract. Assumes nothing.
use Rattle.lexeme.specs.declared.LexemeId.{LexemeId}
use Rattle.form.specs.Readers.{at}
use Rattle.form.specs.Reading.{num}
use Rattle.lexer.proofs.Endings.{peeked-by, either}
use Rattle.lexer.proofs.Lexer.peek_id.Goals as goal

pub returns : goal.returns
returns c =
    search (either, peeked-by (λ (x : LexemeId). x.0) (at (num 2)))
