-- `lexer::Lexer::read_i32` meets its contract. Assumes nothing.
use native.Mathlib.Omega.{arith}
use Rattle.std.specs.Int.{w32}
use Rattle.std.proofs.Common.{to_z}
use Rattle.lexer.proofs.Endings.{mapped-ended, either}
use Rattle.lexer.proofs.Lexer.read_i32.Goals as goal

pub returns : goal.returns
returns c =
    let h = mapped-ended (to_z w32) 4 (omega arith) _ _ (search either) c.ended.ensures in
    search (either, h)
