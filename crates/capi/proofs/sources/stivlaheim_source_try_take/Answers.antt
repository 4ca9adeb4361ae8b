-- `capi::sources::stivlaheim_source_try_take` meets its contract. Assumes nothing.
use Rattle.payload.specs.Answers.{option_as}
use Rattle.source.specs.Answers.{drawn_as}
use Rattle.capi.proofs.Called.{called-by}
use Rattle.capi.proofs.sources.stivlaheim_source_try_take.Goals as goal

pub returns : goal.returns
returns c =
    called-by _ _ c.ask.ensures.state _ _ _ (drawn_as (option_as (λ t. t)) c.try_take-x.result) c.of_tried.result c.in-Ok.is c.try_take-x.ensures (c.of_tried.ensures _)
    (c.hand_over.ensures.answer_after, c.hand_over.ensures.state_after)
