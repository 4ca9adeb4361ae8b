-- `token::texts::text` meets its contract. Assumes nothing.
use native.Mathlib.Omega.{arith}
use Rattle.payload.proofs.Texts.{within, beyond}
use Rattle.token.proofs.texts.text.Goals as goal

pub returns-then-len-bytes : goal.returns-then-len-bytes
returns-then-len-bytes c =
    let a = c.args in
    rw (within a.bytes.now a.t (omega arith))

pub returns-else-len-bytes : goal.returns-else-len-bytes
returns-else-len-bytes c =
    let a = c.args in
    rw (beyond a.bytes.now a.t (omega arith))

pub returns-else-start-bytes : goal.returns-else-start-bytes
returns-else-start-bytes c =
    let a = c.args in
    rw (beyond a.bytes.now a.t (omega arith))
