-- `lexer::Lexer::peek_token` meets its contract. Assumes nothing.
use Rattle.token.specs.Tokens.{token_at}
use Rattle.lexer.proofs.Endings.{peeked-by, either}
use Rattle.lexer.proofs.Lexer.peek_token.Goals as goal

pub returns : goal.returns
returns c =
    search (either, peeked-by (λ t. t) token_at)
