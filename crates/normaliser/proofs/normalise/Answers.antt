-- `normaliser::normalise` meets its contract. Assumes nothing.
use Rattle.form.specs.Saves.{normal}
use Rattle.form.specs.Writing.{normalise}
use Rattle.normaliser.proofs.normalise.Goals as goal

pub returns : goal.returns
unfolding normalise normal
returns c = c.pass_twice.ensures
