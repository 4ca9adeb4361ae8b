-- `payload::colour::read_channels` meets its contract. Assumes nothing.
use Rattle.std.proofs.Common.{rules}
use mathlib.Core.Path.{sym}
use Rattle.form.specs.Readers.{and_then}
use Rattle.laws.proofs.Places.{channels-then}
use Rattle.payload.proofs.Handed.{handed, Lacked, lacked}
use Rattle.payload.proofs.colour.read_channels.Goals as goal

pub returns-in_err-open : goal.returns-in_err-open
unfolding and_then
returns-in_err-open c = rw (channels-then, handed _ c.from_residual.ensures, sym c.in_err-open.ensures)

pub returns-in_err-r : goal.returns-in_err-r
unfolding and_then
returns-in_err-r c = rw (channels-then, sym c.in_ok-open.ensures, handed _ c.from_residual-in_err-r.ensures, sym c.in_err-r.ensures)

pub returns-in_err-g : goal.returns-in_err-g
unfolding and_then
returns-in_err-g c = rw (channels-then, sym c.in_ok-open.ensures, sym c.in_ok-r.ensures, handed _ c.from_residual-in_err-g.ensures, sym c.in_err-g.ensures)

pub returns-in_err-b : goal.returns-in_err-b
unfolding and_then
returns-in_err-b c = rw (channels-then, sym c.in_ok-open.ensures, sym c.in_ok-r.ensures, sym c.in_ok-g.ensures, handed _ c.from_residual-in_err-b.ensures, sym c.in_err-b.ensures)

pub returns-in_err-end : goal.returns-in_err-end
unfolding and_then
returns-in_err-end c =
    let l : Lacked c.read_id-2.result c.from_residual-in_err-end.result = search rules in
    rw (channels-then, sym c.in_ok-open.ensures, sym c.in_ok-r.ensures, sym c.in_ok-g.ensures, sym c.in_ok-b.ensures) (lacked _ _ _ _ l c.read_id-2.ensures _)

pub returns-then-begins : goal.returns-then-begins
unfolding and_then
returns-then-begins c = rw (channels-then, sym c.in_ok-open.ensures, sym c.in_ok-r.ensures, sym c.in_ok-g.ensures, sym c.in_ok-b.ensures, sym c.in_ok-end.ensures, sym c.begins.ensures, c.if-begins.true) c.closing.ensures

pub returns-else-begins : goal.returns-else-begins
unfolding and_then
returns-else-begins c = rw (channels-then, sym c.in_ok-open.ensures, sym c.in_ok-r.ensures, sym c.in_ok-g.ensures, sym c.in_ok-b.ensures, sym c.in_ok-end.ensures, sym c.begins.ensures, c.if-begins.false)
