-- The dump lies within the bytes that it is written to. Assumes nothing.
use mathlib.Core.Path.{sym, ap}
use lib.Seq.{length-take-le}
use Rattle.form.specs.Writing.{written, wrote, outcome}
use Rattle.form.specs.Listing.{listing}
use Rattle.laws.proofs.Outputs.{wrote-within}
use Rattle.dump.proofs.show.Goals as goal

pub slice_bounds-print-end : goal.slice_bounds-print-end
unfolding outcome
slice_bounds-print-end c =
    wrote-within (written (listing c.args.bytes.now)) c.args.out.now (ap wrote c.dump-n.ensures.len) c.dump-n.ensures.output

pub slice_bounds-print-end-2 : goal.slice_bounds-print-end-2
unfolding outcome
slice_bounds-print-end-2 c =
    sym
    (length-take-le _ _
    (wrote-within (written (listing c.args.bytes.now)) c.args.out.now (ap wrote c.dump-n.ensures.len) c.dump-n.ensures.output))
