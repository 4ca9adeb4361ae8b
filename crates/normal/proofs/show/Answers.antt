-- What is shown of a save lies within the bytes that it is written to. Assumes nothing.
use mathlib.Core.Path.{sym, ap}
use lib.Seq.{length-take-le}
use Rattle.form.specs.Writing.{written, wrote, outcome}
use Rattle.laws.proofs.Outputs.{wrote-within}
use Rattle.normal.specs.Lines.{shown}
use Rattle.normal.proofs.show.Goals as goal

pub slice_bounds-print-end : goal.slice_bounds-print-end
unfolding outcome
slice_bounds-print-end c =
    wrote-within (written (shown c.args.bytes.now)) c.args.out.now (ap wrote c.form-n.ensures.len) c.form-n.ensures.output

pub slice_bounds-print-end-2 : goal.slice_bounds-print-end-2
unfolding outcome
slice_bounds-print-end-2 c =
    sym
    (length-take-le _ _
    (wrote-within (written (shown c.args.bytes.now)) c.args.out.now (ap wrote c.form-n.ensures.len) c.form-n.ensures.output))
