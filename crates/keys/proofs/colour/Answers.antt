-- `keys::colour` meets its contract. Assumes nothing.
use native.Mathlib.Omega.{arith}
use mathlib.Core.Path.{sym}
use borrow.Author.Rules.{part_to_end}
use Rattle.form.specs.Values.{kind}
use Rattle.payload.specs.Answers.{colour_of}
use Rattle.payload.proofs.Handed.{handed}
use Rattle.keys.proofs.colour.Goals as goal

pub returns-in_err-next : goal.returns-in_err-next
returns-in_err-next c =
    let k = rw (part_to_end c.args.bytes.now 0) at c.in_err-next.ensures in
    rw (handed _ c.from_residual.ensures) (record { is = sym k })

pub returns : goal.returns
unfolding kind
returns c =
    let k = rw (part_to_end c.args.bytes.now 0) at c.in_ok-next.ensures in
    record { is = (colour_of c.in_ok-next.field-0-0, omega arith, omega arith, sym k) }
