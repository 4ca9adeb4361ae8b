-- `source::ParserSource::refill_slow` meets its contract. Assumes nothing.
use native.Mathlib.Omega.{arith}
use Rattle.source.proofs.Cases.{fill-there, topped_failed, topped_short, topped_ready}
use Rattle.source.proofs.ParserSource.refill_slow.Goals as goal

pub filled-next-requires : goal.filled-next-requires
filled-next-requires c =
    let a = c.args in
    let f = c.fill_up-r in
    let w = fill-there a.supply.now a.schedule.now a.self c.slide.new.buffer f.result f.ensures.reads in
    (c.requires.ordered, omega (arith, w, c.requires), omega (arith, w, c.requires), omega (arith, w, c.requires))

pub returns-then-r : goal.returns-then-r
returns-then-r c =
    let a = c.args in
    let f = c.fill_up-r in
    topped_failed a.supply.now a.schedule.now a.self _ f.result a.buffer.now c.requires _ _ c.slide.ensures f.ensures.bytes c.filled-next.ensures _ f.ensures.reads c.if-r.true

pub returns-then-end-required : goal.returns-then-end-required
returns-then-end-required c =
    let a = c.args in
    let f = c.fill_up-r in
    topped_short a.supply.now a.schedule.now a.self _ f.result a.buffer.now c.requires _ _ c.slide.ensures f.ensures.bytes c.filled-next.ensures _ f.ensures.reads c.if-r.false c.if-end-required.true

pub returns : goal.returns
returns c =
    let a = c.args in
    let f = c.fill_up-r in
    topped_ready a.supply.now a.schedule.now a.self _ f.result a.buffer.now c.requires _ _ c.slide.ensures f.ensures.bytes c.filled-next.ensures _ f.ensures.reads c.if-r.false c.if-end-required.false
