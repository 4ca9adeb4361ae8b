-- `payload::read_string` meets its contract. Assumes nothing.
use Rattle.std.proofs.Common.{rules}
use mathlib.Core.Path.{sym}
use Rattle.form.specs.Readers.{and_then, placed}
use Rattle.laws.proofs.Places.{string-then}
use Rattle.payload.proofs.Handed.{handed}
use Rattle.payload.proofs.read_string.Goals as goal

pub returns-in_err-len : goal.returns-in_err-len
unfolding placed and_then
returns-in_err-len c = rw (string-then, handed _ c.from_residual.ensures, sym c.in_err-len.ensures)

pub returns : goal.returns
unfolding and_then
returns c = rw (string-then, sym c.in_ok-len.ensures) (search rules)
