-- `normaliser::spelling::among_lookups` meets its contract. Assumes nothing.
use Prim.Native.Nat.{◌<◌}
use native.Mathlib.Omega.{arith}
use mathlib.Core.Path.{◌∙◌}
use mathlib.Core.Bool.{true, false}
use mathlib.Core.Logic.{inr}
use Rattle.laws.proofs.Lookups.{lookup1-at, lookup2-at, lookup3-at, lookup4-at, compact-in, negated-in}
use Rattle.laws.proofs.Standing.{of_one, Kept, kept3, threes-kept}
use Rattle.token.proofs.Payloads.{compact-is}
use Rattle.payload.specs.Answers.{read_as}
use Rattle.normaliser.proofs.Taken.{ok_of}
use Rattle.payload.specs.Compact.{signed_by}
use Rattle.normaliser.proofs.Spelled.{number-arm, lookup-arm, float-arm}
use Rattle.normaliser.proofs.spelling.among_lookups.Goals as goal

pub returns-then-n-le-FIXED5_U56 : goal.returns-then-n-le-FIXED5_U56
returns-then-n-le-FIXED5_U56 c p e =
    let a = c.args in
    let h : a.id.0 < 0x0d4f = omega (arith, c.if-n-le-FIXED5_U56.true) in
    float-arm a.bytes.now c.shared_slice_known-1.given p e (signed_by false) (compact-in a.id.0 c.if-n-lt-FIXED5_ZERO.false h ∙ compact-is a.id.0 0x0d47 false h) c.compact.result c.compact.ensures

pub returns-then-n-le-FIXED5_I56 : goal.returns-then-n-le-FIXED5_I56
returns-then-n-le-FIXED5_I56 c p e =
    let a = c.args in
    let h : a.id.0 < 0x0d56 = omega (arith, c.if-n-le-FIXED5_I56.true) in
    float-arm a.bytes.now c.shared_slice_known-1.given p e (signed_by true) (negated-in a.id.0 c.if-n-le-FIXED5_U56.false h ∙ compact-is a.id.0 0x0d4e true h) c.compact-then-n-le-FIXED5_I56.result c.compact-then-n-le-FIXED5_I56.ensures

pub returns-in-3393 : goal.returns-in-3393
returns-in-3393 c p e =
    let a = c.args in
    number-arm a.bytes.now c.shared_slice_known-1.given p e (of_one (Kept 3) kept3 threes-kept c.in-3393.is) c.fixed.result c.fixed.ensures

pub returns-in_ok-x-in-3392 : goal.returns-in_ok-x-in-3392
returns-in_ok-x-in-3392 c p e =
    let a = c.args in
    let k = ok_of (read_as (λ x. x)) c.read_lookup_u8.result c.in_ok-x-in-3392.ensures.value c.read_lookup_u8.ensures in
    lookup-arm a.bytes.now c.shared_slice_known-1.given p e (lookup1-at c.in-3392.is) c.lookup.result (rw k c.lookup.ensures)

pub returns-in_ok-x-in-3390 : goal.returns-in_ok-x-in-3390
returns-in_ok-x-in-3390 c p e =
    let a = c.args in
    let k = ok_of (read_as (λ x. x)) c.read_lookup_u16.result c.in_ok-x-in-3390.ensures.value c.read_lookup_u16.ensures in
    lookup-arm a.bytes.now c.shared_slice_known-1.given p e (lookup2-at c.in-3390.is) c.lookup-in-3390.result (rw k c.lookup-in-3390.ensures)

pub returns-in_ok-x-in-3397 : goal.returns-in_ok-x-in-3397
returns-in_ok-x-in-3397 c p e =
    let a = c.args in
    let k = ok_of (read_as (λ x. x)) c.read_lookup_u24.result c.in_ok-x-in-3397.ensures.value c.read_lookup_u24.ensures in
    lookup-arm a.bytes.now c.shared_slice_known-1.given p e (lookup3-at (inr c.in-3397.is)) c.lookup-in-3397.result (rw k c.lookup-in-3397.ensures)

pub returns-in_ok-x-in-3391 : goal.returns-in_ok-x-in-3391
returns-in_ok-x-in-3391 c p e =
    let a = c.args in
    let k = ok_of (read_as (λ x. x)) c.read_lookup_u32.result c.in_ok-x-in-3391.ensures.value c.read_lookup_u32.ensures in
    lookup-arm a.bytes.now c.shared_slice_known-1.given p e (lookup4-at c.in-3391.is) c.lookup-in-3391.result (rw k c.lookup-in-3391.ensures)
