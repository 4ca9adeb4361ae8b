-- `normaliser::telling::after` meets its contract. Assumes nothing.
use mathlib.Core.Path.{sym, ◌∙◌}
use Rattle.normaliser.proofs.Spans.{text-ends, colour-ends, fixed-ends}
use Rattle.normaliser.proofs.telling.after.Goals as goal

pub returns-in-Bytes : goal.returns-in-Bytes
returns-in-Bytes c q e = fixed-ends _ _ q (sym c.in-Bytes.is ∙ e) c.fixed.ensures

pub returns-in-Text : goal.returns-in-Text
returns-in-Text c q e = text-ends _ _ q (sym c.in-Text.is ∙ e) c.text.ensures

pub returns-in-Colour : goal.returns-in-Colour
returns-in-Colour c q e = colour-ends _ _ q (sym c.in-Colour.is ∙ e) c.colour.ensures
