-- `lexer::Lexer::read_token` meets its contract. Assumes nothing.
use Rattle.lexer.proofs.Endings.{either, of_token}
use Rattle.lexer.proofs.Lexer.read_token.Goals as goal

pub returns : goal.returns
returns c = search (either, of_token)
