-- `skip::skip_container` meets its contract. Assumes nothing.
use mathlib.Core.Path.{◌∙◌}
use Rattle.skip.proofs.Turns.{container-is}
use Rattle.skip.proofs.skip_container.Goals as goal

pub returns : goal.returns
returns c = c.skip_from.ensures ∙ container-is _ _
