-- `lexer::Lexer::read_i64` meets its contract. Assumes nothing.
use native.Mathlib.Omega.{arith}
use Rattle.std.specs.Int.{w64}
use Rattle.std.proofs.Common.{to_z}
use Rattle.lexer.proofs.Endings.{mapped-ended, either}
use Rattle.lexer.proofs.Lexer.read_i64.Goals as goal

pub returns : goal.returns
returns c =
    let h = mapped-ended (to_z w64) 8 (omega arith) _ _ (search either) c.ended.ensures in
    search (either, h)
