-- `lexer::Lexer::position` meets its contract. Assumes nothing.
use mathlib.Core.Path.{sym, ap, ◌∙◌}
use Rattle.form.specs.Calls.{gives, positions}
use Rattle.laws.proofs.Cursors.{within_in}
use Rattle.payload.proofs.Handed.{handed}
use Rattle.lexer.specs.Calls.{cursor_of}
use Rattle.lexer.proofs.Endings.{told-inside, told-outside, stands}
use Rattle.lexer.proofs.Lexer.position.Goals as goal

pub returns-in_err-place : goal.returns-in_err-place
unfolding positions
returns-in_err-place c = rw (handed _ c.from_residual.ensures) (told-outside _ _ c.place.ensures c.in_err-place.was _)

pub position_in_file-requires : goal.position_in_file-requires
position_in_file-requires c = stands _ _ (told-inside _ _ c.place.ensures c.in_ok-place.was)

pub returns : goal.returns
unfolding positions
returns c =
    let h = told-inside _ _ c.place.ensures c.in_ok-place.was in
    ap (λ p. gives p (cursor_of c.args.self)) c.position_in_file.ensures ∙ sym (within_in _ _ h)
