-- `lexeme::LexemeId::reserved` meets its contract. Assumes nothing.
use mathlib.Core.Path.{refl}
use Rattle.form.specs.Table.{table, entries, reserved_ids}
use Rattle.lexeme.proofs.LexemeId.reserved.Goals as goal

pub returns : goal.returns
unfolding reserved_ids entries table
returns c = refl
