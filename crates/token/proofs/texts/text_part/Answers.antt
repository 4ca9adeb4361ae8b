-- `token::texts::text_part` meets its contract. Assumes nothing.
use Prim.Native.Nat.{ℕ}
use native.Mathlib.Nat.{add-sub_cancel_left}
use native.Mathlib.Omega.{arith}
use mathlib.Core.Path.{ap}
use lib.ListN.{take, drop}
use Rattle.payload.proofs.Texts.{within, beyond}
use Rattle.token.proofs.texts.text_part.Goals as goal

pub returns-then-len-bytes : goal.returns-then-len-bytes
returns-then-len-bytes c =
    let a = c.args in
    rw (within a.bytes.now a.t (omega arith)) (ap (λ (k : ℕ). take k (drop a.t.start a.bytes.now)) (add-sub_cancel_left a.t.start a.t.len))

pub returns-else-len-bytes : goal.returns-else-len-bytes
returns-else-len-bytes c =
    let a = c.before.before.before.args in
    rw (beyond a.bytes.now a.t (omega arith))

pub returns-else-start-bytes : goal.returns-else-start-bytes
returns-else-start-bytes c =
    let a = c.before.before.args in
    rw (beyond a.bytes.now a.t (omega arith))
