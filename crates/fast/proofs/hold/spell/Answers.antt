-- `fast::hold::spell` meets its contract: a byte of the number is what is left of it after so many divisions by 256. Assumes nothing.
use Prim.Native.Nat.{◌/◌}
use mathlib.Core.Path.{◌≡◌}
use native.Mathlib.Omega.{arith}
use Rattle.form.specs.Numbers.{le_bytes}
use Rattle.fast.proofs.hold.spell.Goals as goal

pub returns : goal.returns
unfolding le_bytes
returns c =
    let x = c.args.x in
    let two : x / 256 / 256 ≡ x / 65536 = omega arith in
    let three : x / 65536 / 256 ≡ x / 16777216 = omega arith in
    let four : x / 16777216 / 256 ≡ x / 4294967296 = omega arith in
    let five : x / 4294967296 / 256 ≡ x / 1099511627776 = omega arith in
    let six : x / 1099511627776 / 256 ≡ x / 281474976710656 = omega arith in
    let seven : x / 281474976710656 / 256 ≡ x / 72057594037927936 = omega arith in
    rw (two, three, four, five, six, seven) c.to_le_bytes.ensures
