-- A save's normal form is whole, or the line of its first refusal stands in its place: there is room for either. Assumes nothing.
use native.Mathlib.Omega.{arith}
use Rattle.form.specs.Refusals as R
use Rattle.laws.proofs.LittleEndian.{bytes-all}
use Rattle.payload.specs.Answers.{refusal_of}
use Rattle.normal.proofs.Whole.{normalised, why, lined}
use Rattle.normal.proofs.form.Goals as goal

pub returns-in-Ok : goal.returns-in-Ok
returns-in-Ok c =
    let whole = normalised c.args.bytes.now c.args.out.now (bytes-all c.args.bytes.now c.type_inv.bytes) c.requires c.in-Ok.ensures.answer c.in-Ok.ensures.output in
    record { len = whole.0; output = whole.1 }

pub returns-in-Err-Refused : goal.returns-in-Err-Refused
returns-in-Err-Refused c =
    let follows = rw c.in-Err-Refused.field-0-is at c.in-Err-Refused.ensures in
    let line = lined c.args.bytes.now c.args.out.now (bytes-all c.args.bytes.now c.type_inv.bytes) c.requires (refusal_of c.in-Err-Refused.e)
    follows.answer follows.output (omega arith) c.put_refused.ensures in
    record { len = line.0; output = line.1 }

pub returns-in-Err-WideLookup : goal.returns-in-Err-WideLookup
returns-in-Err-WideLookup c =
    let follows = rw c.in-Err-WideLookup.field-0-is at c.in-Err-WideLookup.ensures in
    let line = lined c.args.bytes.now c.args.out.now (bytes-all c.args.bytes.now c.type_inv.bytes) c.requires (R.WideLookup c.in-Err-WideLookup.at)
    follows.answer follows.output (omega arith) c.put_wide.ensures in
    record { len = line.0; output = line.1 }

pub unreachable-requires : goal.unreachable-requires
unreachable-requires c =
    let follows = rw c.in-Err-NoRoom.field-0-is at c.in-Err-NoRoom.ensures in
    absurd (why c.args.bytes.now c.args.out.now (bytes-all c.args.bytes.now c.type_inv.bytes) c.requires (R.NoRoom _) follows.answer).1

pub unreachable-requires-in-Err-TooLong : goal.unreachable-requires-in-Err-TooLong
unreachable-requires-in-Err-TooLong c =
    let follows = rw c.in-Err-TooLong.field-0-is at c.in-Err-TooLong.ensures in
    absurd (why c.args.bytes.now c.args.out.now (bytes-all c.args.bytes.now c.type_inv.bytes) c.requires (R.TooLong _) follows.answer).1
