-- `writer::put::Pen::colour_end` meets its contract. Assumes nothing.
use native.Mathlib.Omega.{arith}
use Rattle.form.specs.Spelling.{spelled_alpha}
use Rattle.laws.proofs.Lookups.{close-is}
use Rattle.laws.proofs.ReadsBack.{channel-length}
use Rattle.writer.proofs.Penned.{puts_then}
use Rattle.writer.proofs.Sizes.{end-size}
use Rattle.writer.proofs.put.Pen.colour_end.Goals as goal
use Rattle.writer.proofs.put.Pen.colour_end.Goals.{in-Some, in_default}

pub channel-requires : goal.channel-requires
channel-requires c = omega (arith, rw c.in-Some.is at c.requires, rw c.in-Some.is at (end-size c.args.a))

pub id-requires : goal.id-requires
id-requires c =
    elim c.match-a.branch [
      | in-Some w ↦
          let p = w.channel.ensures.put in
          rw w.self-is (omega (arith, rw w.in-Some.is at c.requires, rw w.in-Some.is at (end-size c.args.a), p.next, p.same, channel-length w.in-Some.x))
      | in_default w ↦ rw w.self-is (omega (arith, rw w.in_default.is at c.requires, rw w.in_default.is at (end-size c.args.a)))
    ]

pub returns : goal.returns
unfolding spelled_alpha
returns c =
    elim c.match-a.branch [
      | in-Some w ↦ rw (w.in-Some.is, close-is) (puts_then w.channel.ensures (rw w.self-is at c.id.ensures))
      | in_default w ↦ rw (w.in_default.is, close-is) (rw w.self-is at c.id.ensures)
    ]
