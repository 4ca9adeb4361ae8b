-- `lexer::Lexer::fits` meets its contract. Assumes nothing.
use native.Mathlib.Omega.{arith}
use lib.ListN.{length}
use Rattle.form.specs.Numbers.{MAX}
use Rattle.form.specs.Calls.{fits}
use Rattle.laws.proofs.Cursors.{leb-room}
use Rattle.lexer.proofs.Lexer.fits.Goals as goal

pub returns : goal.returns
unfolding fits
returns c = leb-room (length c.args.bytes.now) c.args.self.offset MAX (omega arith)
