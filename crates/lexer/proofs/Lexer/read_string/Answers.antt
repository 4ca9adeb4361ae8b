-- `lexer::Lexer::read_string` meets its contract. Assumes nothing.
use Rattle.form.specs.Readers.{at}
use Rattle.form.specs.Reading.{string}
use Rattle.laws.proofs.Inside.{inside-placed, string-inside}
use Rattle.lexer.specs.Calls.{string_at}
use Rattle.lexer.proofs.Endings.{read-ended, either}
use Rattle.lexer.proofs.Lexer.read_string.Goals as goal

pub returns : goal.returns
returns c =
    let h = read-ended (λ x. x) string_at _ _ (inside-placed (at string) _ string-inside) (search either) c.ended.ensures in
    search (either, h)
