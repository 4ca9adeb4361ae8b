-- `lexer::Lexer::next_token` meets its contract. Assumes nothing.
use Rattle.std.proofs.Common.{rules}
use Rattle.lexer.proofs.Endings.{token_begins, nexted-by}
use Rattle.lexer.proofs.Lexer.next_token.Goals as goal

pub returns : goal.returns
returns c =
    let h = nexted-by (λ t. t) _ _ _ token_begins _ c.read_token.ensures c.next.ensures in
    search (rules, h)
