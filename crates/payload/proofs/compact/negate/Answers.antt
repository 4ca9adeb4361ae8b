-- `payload::compact::negate` meets its contract. Assumes nothing.
use native.Mathlib.Omega.{arith}
use mathlib.Core.Path.{◌∙◌}
use mir.Syntax.{w64}
use Rattle.payload.proofs.Signed.{negation-fits, negation-bits}
use Rattle.payload.proofs.compact.negate.Goals as goal

pub overflow_sub-negative : goal.overflow_sub-negative
overflow_sub-negative c = negation-fits w64 c.args.x (omega (arith, c.requires))

pub returns : goal.returns
returns c = c.of_i64.ensures ∙ negation-bits c.args.x (omega (arith, c.requires))
