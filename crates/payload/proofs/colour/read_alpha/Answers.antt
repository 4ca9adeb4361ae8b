-- `payload::colour::read_alpha` meets its contract. Assumes nothing.
use mathlib.Core.Path.{sym, ◌∙◌}
use Rattle.form.specs.Reading.{with_alpha}
use Rattle.payload.specs.Answers.{text_of}
use Rattle.payload.proofs.Handed.{handed}
use Rattle.payload.proofs.Pieces.{piece-not, piece-there}
use Rattle.payload.proofs.colour.read_alpha.Goals as goal

pub returns-in_err-read_bytes : goal.returns-in_err-read_bytes
unfolding with_alpha
returns-in_err-read_bytes c = rw (handed _ c.from_residual.ensures) (sym (piece-not text_of 6 _ _ _ (sym c.in_err-read_bytes.ensures)))

pub returns : goal.returns
unfolding with_alpha
returns c = c.read_last.ensures ∙ sym (piece-there text_of 6 _ _ _ (sym c.in_ok-read_bytes.ensures))
