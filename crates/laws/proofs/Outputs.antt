-- What was written lies within the output. Assumes nothing.
use Prim.Native.Nat.{ℕ, ◌≤◌}
use native.Mathlib.Omega.{arith}
use mathlib.Core.Path.{◌≡◌, ap}
use mathlib.Core.List.{List}
use lib.ListN.{length, drop, length-append}
use Rattle.form.specs.Writing.{Output, written, unwritten, wrote, outcome, leaves}
use Rattle.laws.proofs.Never.{never}

pub wrote-within : (o : Output) (d : List ℕ) {n : ℕ} {d' : List ℕ} → wrote n ≡ outcome o → d' ≡ leaves o d → n ≤ length d'
unfolding outcome leaves
wrote-within (written bs) d {n} e q = let k : n ≡ length bs = cc in omega (arith, ap length q, length-append bs (drop (length bs) d))
wrote-within (unwritten r) d e q = never (cc)
