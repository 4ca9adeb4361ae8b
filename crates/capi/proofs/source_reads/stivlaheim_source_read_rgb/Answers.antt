-- `capi::source_reads::stivlaheim_source_read_rgb` meets its contract. Assumes nothing.
use mathlib.Core.Path.{sym, ◌∙◌}
use Rattle.payload.specs.Answers.{colour_of}
use Rattle.source.specs.Answers.{drawn_as}
use Rattle.capi.specs.Words.{colour_words, rgb_words}
use Rattle.capi.proofs.Called.{called-by}
use Rattle.capi.proofs.Mapped.{taken, colour_own}
use Rattle.capi.proofs.source_reads.stivlaheim_source_read_rgb.Goals as goal

pub returns : goal.returns
returns c =
    let x = c.read_rgb-colour.result in
    called-by _ _ c.ask.ensures.state _ _ _ (drawn_as colour_of x) c.of_taken.result c.in-Ok.is c.read_rgb-colour.ensures
    (c.of_taken.ensures _ ∙ sym (taken colour_of colour_words rgb_words colour_own x _)) (c.hand_over.ensures.answer_after, c.hand_over.ensures.state_after)
