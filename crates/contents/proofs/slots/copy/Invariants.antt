-- With the entries that are left the list comes to be what the contract says.
use Rattle.std.proofs.Common.{◌≡◌, ◌-◌, length, take, drop}
use Rattle.contents.specs.Slots.{put_all}
use Rattle.contents.proofs.slots.copy.Given as goal

abbrev pub invariant-loop-i : goal.invariant-loop-i
invariant-loop-i g l =
    let entries = g.S.Slot.entries l.from in
    let put = g.T.Slot.put in
    record {
      count : length (g.T.Slot.entries l.list) ≡ length (g.T.Slot.entries l.initial.list);
      list : put_all put l.i (take (l.n - l.i) (drop l.i entries)) l.list ≡ put_all put 0 (take l.n entries) l.initial.list;
    }
