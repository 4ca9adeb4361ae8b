-- `lexer::Lexer::refused` meets its contract. Assumes nothing.
use mathlib.Core.Path.{sym, ap, ◌∙◌}
use Rattle.form.specs.Calls.{refuses, ended, reads}
use Rattle.laws.proofs.Cursors.{within_in}
use Rattle.lexer.specs.Calls.{cursor_of}
use Rattle.lexer.proofs.Endings.{told-inside, told-outside, stands}
use Rattle.lexer.proofs.Lexer.refused.Goals as goal

pub located-requires : goal.located-requires
located-requires c = stands _ _ (told-inside _ _ c.place.ensures c.in-Ok.is)

pub returns-in-Ok : goal.returns-in-Ok
unfolding reads ended
returns-in-Ok c =
    let a = c.args in
    let h = told-inside a.self _ c.place.ensures c.in-Ok.is in
    ap (λ r. refuses r (cursor_of a.self)) c.located.ensures ∙ sym (within_in _ _ h)

pub returns-in-Err : goal.returns-in-Err
unfolding reads
returns-in-Err c =
    let a = c.args in
    told-outside a.self _ c.place.ensures c.in-Err.is _
