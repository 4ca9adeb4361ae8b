-- `contents::slots::copy` meets its contract. Assumes nothing.
use Rattle.std.proofs.Common.{refl, ◌∙◌}
use Rattle.contents.proofs.Kept.{put-first, put-next, put-last}
use Rattle.contents.proofs.slots.copy.Goals as goal

pub loop-i-init : goal.loop-i-init
loop-i-init g c = record { count = refl; list = put-first g.T.Slot.put (g.S.Slot.entries c.args.from.now) c.args.n c.args.list.now }

pub loop-i-preserved : goal.loop-i-preserved
loop-i-preserved g c =
    let l = c.loop-i in
    record {
      count = c.put.ensures.count ∙ l.invariant.count;
      list =
          put-next g.T.Slot.put (g.S.Slot.entries c.args.from.now) c.args.n l.i _ c.loop-i-test.true c.get.ensures l.list c.put.new.list c.put.ensures.list _
          l.invariant.list;
    }

pub returns : goal.returns
returns g c =
    let l = c.loop-i in
    put-last g.T.Slot.put (g.S.Slot.entries c.args.from.now) c.args.n l.i c.loop-i-test.false l.list _ l.invariant.list
