-- `lexer::Lexer::walk` meets its contract. Assumes nothing.
use Rattle.lexer.specs.Calls.{cursor_of}
use Rattle.lexer.proofs.Endings.{inside, reaches}
use Rattle.lexer.proofs.SoughtKeys.{tell-key, tell-absent, tell-refused, key-inside, refused-inside}
use Rattle.lexer.proofs.Lexer.walk.Goals as goal

pub position_in_file-requires : goal.position_in_file-requires
position_in_file-requires c =
    let a = c.args in
    let k = rw (c.in-Ok-Some.is, c.in-Ok-Some.field-0-is) at c.next_key.ensures in
    reaches _ (cursor_of a.self) (inside _ _ c.requires) c.moved.ensures (key-inside _ _ (cursor_of a.self) k)

pub located-requires : goal.located-requires
located-requires c =
    let a = c.args in
    let h = inside _ _ c.requires in
    let k = rw c.in-Err.is at c.next_key.ensures in
    reaches _ (cursor_of a.self) h c.moved-in-Err.ensures (refused-inside _ _ (cursor_of a.self) h.there k)

pub returns-in-Ok-Some : goal.returns-in-Ok-Some
returns-in-Ok-Some c =
    let k = rw (c.in-Ok-Some.is, c.in-Ok-Some.field-0-is) at c.next_key.ensures in
    tell-key _ _ _ k c.moved.ensures c.position_in_file.ensures

pub returns-in-Ok-None : goal.returns-in-Ok-None
returns-in-Ok-None c =
    let k = rw (c.in-Ok-None.is, c.in-Ok-None.field-0-is) at c.next_key.ensures in
    tell-absent _ _ _ k

pub returns-in-Err : goal.returns-in-Err
returns-in-Err c =
    let k = rw c.in-Err.is at c.next_key.ensures in
    tell-refused _ _ _ k c.moved-in-Err.ensures c.located.ensures
