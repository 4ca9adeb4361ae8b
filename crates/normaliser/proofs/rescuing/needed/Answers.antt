-- `normaliser::rescuing::needed` meets its contract. Assumes nothing.
use native.Mathlib.Omega.{arith}
use Rattle.laws.proofs.Rescuing.{rescued-length}
use Rattle.normaliser.proofs.Saving.{measured}
use Rattle.normaliser.proofs.rescuing.needed.Goals as goal

pub returns-then-bytes-room : goal.returns-then-bytes-room
returns-then-bytes-room c = record { fits = λ _. omega (arith, c.if-bytes-room.true, rescued-length c.args.bytes.now); lacks = λ h. absurd (omega arith) }

pub returns : goal.returns
returns c = measured _ c.pass-measured.ensures.need
