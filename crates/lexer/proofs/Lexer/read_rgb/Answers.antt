-- `lexer::Lexer::read_rgb` meets its contract. Assumes nothing.
use Rattle.laws.proofs.Inside.{rgb-inside}
use Rattle.payload.specs.Answers.{colour_of}
use Rattle.lexer.proofs.Endings.{lexed-ended, either}
use Rattle.lexer.proofs.Lexer.read_rgb.Goals as goal

pub returns : goal.returns
returns c =
    let h = lexed-ended colour_of _ _ _ rgb-inside _ (search either) _ c.ended.ensures in
    search (either, h)
