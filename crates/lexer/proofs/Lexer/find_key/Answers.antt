-- `lexer::Lexer::find_key` meets its contract. Assumes nothing.
use mathlib.Core.Path.{sym, ◌∙◌}
use Rattle.form.specs.Finding.{finds}
use Rattle.laws.proofs.Cursors.{within_in}
use Rattle.payload.proofs.Handed.{handed}
use Rattle.lexer.proofs.Endings.{told-inside, told-outside}
use Rattle.lexer.proofs.Lexer.find_key.Goals as goal

pub returns-in_err-place : goal.returns-in_err-place
unfolding finds
returns-in_err-place c = rw (handed _ c.from_residual.ensures) (told-outside _ _ c.place.ensures c.in_err-place.was _)

pub returns : goal.returns
unfolding finds
returns c = c.walk.ensures ∙ sym (within_in _ _ (told-inside _ _ c.place.ensures c.in_ok-place.was))
