-- `listing::list` meets its contract: the first pass stores nothing, and measures. Assumes nothing.
use mathlib.Core.Path.{◌≡◌, refl, ap, ◌∙◌}
use mathlib.Core.List.{◌++◌}
use Prim.Native.Nat.{◌≤◌}
use native.Mathlib.Omega.{arith}
use lib.ListN.{length}
use Rattle.form.specs.Writing.{wrote, outcome, leaves}
use Rattle.form.specs.Listing.{listing}
use Rattle.laws.proofs.LittleEndian.{bytes-all}
use Rattle.laws.proofs.Runs.{sets-front}
use Rattle.form.specs.Numbers.{MAX}
use Rattle.listing.proofs.Answer.{none_left, too_long, measured, fits, lacks}
use Rattle.listing.proofs.list.Goals as goal

pub returns-then-len-gt-LIMIT : goal.returns-then-len-gt-LIMIT
unfolding outcome leaves
returns-then-len-gt-LIMIT c =
    let a = c.args in
    rw (too_long a.bytes.now (length a.out.now) c.if-len-gt-LIMIT.true) (record { answer = refl; output = refl })

pub returns-then-out-needed : goal.returns-then-out-needed
unfolding outcome leaves
returns-then-out-needed c =
    let a = c.args in
    let s = a.bytes.now in
    let room = length a.out.now in
    let first = c.put_listing-needed in
    let e : first.new.out ++ a.out.now ≡ a.out.now = rw (none_left first.new.out first.ensures.same) in
    let b = bytes-all s c.shared_slice_known-1.given in
    let h = c.if-len-gt-LIMIT.false in
    let n = first.ensures.next in
    rw (lacks s room b h n (rw e at c.if-out-needed.true)) (record { answer = refl; output = e })

pub returns : goal.returns
unfolding outcome leaves
returns c =
    let a = c.args in
    let s = a.bytes.now in
    let room = length a.out.now in
    let first = c.put_listing-needed in
    let e : first.new.out ++ a.out.now ≡ a.out.now = rw (none_left first.new.out first.ensures.same) in
    let b = bytes-all s c.shared_slice_known-1.given in
    let h = c.if-len-gt-LIMIT.false in
    let n = first.ensures.next in
    let k = measured s room b h n in
    let m : first.result ≤ room = rw e at c.if-out-needed.false in
    let z : room ≤ MAX = omega arith in
    rw (fits s room b h n m)
    (record { answer = ap wrote k; output = (rw e at c.put_listing.ensures.bytes) z ∙ sets-front (listing s) a.out.now (omega arith) })
