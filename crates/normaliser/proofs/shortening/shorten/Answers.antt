-- `normaliser::shortening::shorten` meets its contract. Assumes nothing.
use Rattle.form.specs.Saves.{shortened}
use Rattle.form.specs.Writing.{shorten}
use Rattle.normaliser.proofs.shortening.shorten.Goals as goal

pub returns : goal.returns
unfolding shorten shortened
returns c = c.pass_twice.ensures
