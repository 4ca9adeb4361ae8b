-- `lexer::Lexer::land` meets its contract. Assumes nothing.
use Rattle.form.specs.Calls.{landed}
use Rattle.lexer.proofs.Endings.{stopped-lands, land-cut}
use Rattle.lexer.proofs.Lexer.land.Goals as goal

pub located-refusal-requires : goal.located-refusal-requires
located-refusal-requires c = stopped-lands c.args.self c.requires c.in-Err.is c.moved-next.ensures

pub returns-in-Ok : goal.returns-in-Ok
unfolding landed
returns-in-Ok c = rw (c.in-Ok.is, c.moved.ensures)

pub returns-in-Err : goal.returns-in-Err
returns-in-Err c = rw c.in-Err.is (land-cut _ _ c.located-refusal.ensures c.moved-next.ensures)
