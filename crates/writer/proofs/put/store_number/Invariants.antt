use mathlib.Core.Path.{◌≡◌}
use Prim.Native.Nat.{◌-◌}
use lib.ListN.{length}
use lib.Seq.{sets}
use Rattle.form.specs.Numbers.{le_bytes}
use Rattle.writer.proofs.put.store_number.Given as goal

abbrev pub invariant-loop-i : goal.invariant-loop-i
invariant-loop-i l = record {
  same : length l.out ≡ length l.initial.out;
  bytes : sets l.out l.i (le_bytes (l.end - l.i) l.rest) ≡ sets l.initial.out l.at (le_bytes l.width l.x);
}
