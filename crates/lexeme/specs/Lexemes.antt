-- Ids as the code has them.
use Rattle.std.specs.Prelude.{ℕ, List, [], ◌∷◌}
use Rattle.lexeme.specs.declared.LexemeId.{LexemeId}

abbrev pub lexemes : List ℕ → List LexemeId
lexemes [] = []
lexemes (i ∷ is) = record { 0 = i } ∷ lexemes is
