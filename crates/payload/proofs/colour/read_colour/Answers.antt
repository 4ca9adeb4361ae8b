-- `payload::colour::read_colour` meets its contract. Assumes nothing.
use mathlib.Core.Path.{sym, ◌∙◌}
use Rattle.form.specs.Reading.{rgb}
use Rattle.payload.specs.Answers.{text_of}
use Rattle.payload.proofs.Handed.{handed}
use Rattle.payload.proofs.Pieces.{piece-not, piece-there}
use Rattle.payload.proofs.colour.read_colour.Goals as goal

pub returns-in_err-read_bytes : goal.returns-in_err-read_bytes
unfolding rgb
returns-in_err-read_bytes c = rw (handed _ c.from_residual.ensures) (sym (piece-not text_of 22 _ _ _ (sym c.in_err-read_bytes.ensures)))

pub returns : goal.returns
unfolding rgb
returns c = c.read_channels.ensures ∙ sym (piece-there text_of 22 _ _ _ (sym c.in_ok-read_bytes.ensures))
