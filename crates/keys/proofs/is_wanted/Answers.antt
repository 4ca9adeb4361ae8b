-- `keys::is_wanted` meets its contract. Assumes nothing.
use Rattle.form.specs.Finding.{is_plain}
use Rattle.form.specs.Spelling.{tag}
use Rattle.form.specs.Values.{kind}
use Rattle.keys.specs.Seeking.{wants}
use Rattle.keys.proofs.is_wanted.Goals as goal

pub returns-in_default : goal.returns-in_default
unfolding wants
returns-in_default c = rw c.in_default.is

pub returns : goal.returns
unfolding wants is_plain kind tag
returns c = rw c.in-Some.is c.is.ensures
