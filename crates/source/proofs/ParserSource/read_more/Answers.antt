-- `source::ParserSource::read_more` meets its contract. Assumes nothing.
use native.Mathlib.Omega.{arith}
use Rattle.source.proofs.Cases.{one-there, once_failed, once_read}
use Rattle.source.proofs.ParserSource.read_more.Goals as goal

pub filled-next-requires : goal.filled-next-requires
filled-next-requires c =
    let a = c.args in
    let f = c.read_once-r in
    let w = one-there a.supply.now a.schedule.now a.self c.slide.new.buffer f.result f.ensures.reads in
    (c.requires.ordered, omega (arith, w, c.requires), omega (arith, w, c.requires), omega (arith, w, c.requires))

pub returns-then-r : goal.returns-then-r
returns-then-r c =
    let a = c.args in
    let f = c.read_once-r in
    once_failed a.supply.now a.schedule.now a.self _ f.result a.buffer.now c.requires _ _ c.slide.ensures f.ensures.bytes c.filled-next.ensures f.ensures.reads c.if-r.true

pub returns : goal.returns
returns c =
    let a = c.args in
    let f = c.read_once-r in
    once_read a.supply.now a.schedule.now a.self _ f.result a.buffer.now c.requires _ _ c.slide.ensures f.ensures.bytes c.filled-next.ensures f.ensures.reads c.if-r.false
