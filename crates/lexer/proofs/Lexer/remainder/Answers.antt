-- `lexer::Lexer::remainder` meets its contract. Assumes nothing.
use native.Mathlib.Omega.{arith}
use mathlib.Core.Path.{sym}
use Rattle.laws.proofs.Cursors.{within_in}
use Rattle.payload.proofs.Handed.{handed}
use Rattle.lexer.proofs.Endings.{told-inside, told-outside}
use Rattle.lexer.proofs.Lexer.remainder.Goals as goal

pub returns-in_err-place : goal.returns-in_err-place
returns-in_err-place c = rw (handed _ c.from_residual.ensures) (told-outside _ _ c.place.ensures c.in_err-place.was _)

pub overflow_sub-len : goal.overflow_sub-len
overflow_sub-len c = omega (arith, (told-inside _ _ c.place.ensures c.in_ok-place.was).there)

pub returns : goal.returns
returns c = sym (within_in _ _ (told-inside _ _ c.place.ensures c.in_ok-place.was))
