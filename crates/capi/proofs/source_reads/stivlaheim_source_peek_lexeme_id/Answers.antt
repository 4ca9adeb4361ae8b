-- `capi::source_reads::stivlaheim_source_peek_lexeme_id` meets its contract. Assumes nothing.
use mathlib.Core.Path.{refl, sym, ◌∙◌}
use Rattle.payload.specs.Answers.{option_as}
use Rattle.source.specs.Answers.{drawn_as}
use Rattle.capi.specs.Words.{number_words}
use Rattle.capi.proofs.Called.{called-by}
use Rattle.capi.proofs.Mapped.{tried}
use Rattle.lexeme.specs.declared.LexemeId.{LexemeId}
use Rattle.capi.proofs.source_reads.stivlaheim_source_peek_lexeme_id.Goals as goal

pub returns : goal.returns
returns c =
    let x = c.peek_lexeme_id-x.result in
    called-by _ _ c.ask.ensures.state _ _ _ (drawn_as (option_as (λ (i : LexemeId). i.0)) x) c.of_tried.result c.in-Ok.is c.peek_lexeme_id-x.ensures
    (c.of_tried.ensures _ ∙ sym (tried (λ (i : LexemeId). i.0) number_words (λ i. number_words i.0) (λ i. refl) x _)) (c.hand_over.ensures.answer_after, c.hand_over.ensures.state_after)
