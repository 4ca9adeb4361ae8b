-- `capi::sources::stivlaheim_source_window` meets its contract. Assumes nothing.
use mathlib.Core.Path.{ap}
use Rattle.std.proofs.Common.{rules}
use Rattle.source.specs.Answers.{window_len_answer}
use Rattle.capi.specs.Sources.{as_part, window_part}
use Rattle.capi.proofs.Called.{called-by, part-of}
use Rattle.capi.proofs.sources.stivlaheim_source_window.Goals as goal

pub returns : goal.returns
unfolding window_part
returns c =
    let s = c.in-Ok.s in
    called-by _ _ c.ask.ensures.state _ _ _ (λ l. as_part (window_len_answer s c.window_len-x.result l)) c.of_window.result c.in-Ok.is (ap as_part c.window_len-x.ensures)
    (part-of s _ (c.of_window.ensures _) (search rules))
    (c.hand_over.ensures.answer_after, c.hand_over.ensures.state_after)
