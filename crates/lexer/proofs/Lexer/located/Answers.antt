-- `lexer::Lexer::located` meets its contract. Assumes nothing.
use mathlib.Core.Path.{ap}
use Rattle.form.specs.Refusals.{refusal_at}
use Rattle.payload.specs.Answers.{fault_of}
use Rattle.lexer.specs.Calls.{refusal_of}
use Rattle.lexer.proofs.Lexer.located.Goals as goal

pub returns : goal.returns
unfolding refusal_of
returns c = ap (λ p. refusal_at p (fault_of c.args.e)) c.position_in_file-position.ensures
