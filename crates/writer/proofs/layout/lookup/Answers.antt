-- `writer::layout::lookup` meets its contract. Assumes nothing.
use native.Mathlib.Omega.{arith}
use Rattle.writer.proofs.ShortLayouts.{lookup1-out, lookup2-out, lookup3-out, lookup4-out}
use Rattle.writer.proofs.layout.lookup.Goals as goal

pub returns-then-n-lt256 : goal.returns-then-n-lt256
returns-then-n-lt256 c room s = lookup1-out _ room s c.if-n-lt256.true

pub returns-then-n-lt65536 : goal.returns-then-n-lt65536
returns-then-n-lt65536 c room s = lookup2-out _ room s (omega arith) c.if-n-lt65536.true

pub returns-then-n-lt16777216 : goal.returns-then-n-lt16777216
returns-then-n-lt16777216 c room s = lookup3-out _ room s (omega arith) c.if-n-lt16777216.true

pub returns : goal.returns
returns c room s = lookup4-out _ room s (omega arith) (omega arith)
