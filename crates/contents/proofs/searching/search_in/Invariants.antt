-- With the entries that are left the same is said as of all of them.
use Rattle.std.proofs.Common.{◌≡◌, drop}
use Rattle.form.specs.Contents.{search}
use Rattle.contents.proofs.Orders.{said}
use Rattle.contents.proofs.searching.search_in.Given as goal

abbrev pub invariant-loop-i : goal.invariant-loop-i
invariant-loop-i g l = let entries = g.T.Slot.entries l.list in said l.s l.i (drop l.i entries) ≡ search entries l.position
