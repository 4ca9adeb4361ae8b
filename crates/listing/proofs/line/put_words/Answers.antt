-- `listing::line::put_words` meets its contract. Assumes nothing.
use mathlib.Core.Path.{◌≡◌, ◌∙◌}
use mathlib.Core.List.{[], ◌∷◌}
use mathlib.Core.Logic.{⊎_elim}
use mir.Syntax.{w32, w64}
use mir.Val.{to_z, of_z}
use borrow.Author.Rules.{rules}
use Rattle.form.specs.Ascii.{decimal, hex_or_dash}
use Rattle.payload.specs.Texts.{part_of}
use Rattle.text.proofs.Words.{puts-spaced, puts-words}
use Rattle.listing.specs.Words.{value_words}
use Rattle.listing.proofs.line.put_words.Goals as goal

pub returns-in-Open : goal.returns-in-Open
unfolding value_words
returns-in-Open c =
    let s = c.args.bytes.now in
    let none : value_words s c.args.t ≡ [] = ⊎_elim (λ e. rw e) (⊎_elim (λ e. rw e) (λ e. rw e)) c.in-Open.is in
    rw (none, ← c.name.ensures) c.put_word.ensures

pub returns-in-U32 : goal.returns-in-U32
unfolding value_words
returns-in-U32 c =
    let words : value_words c.args.bytes.now c.args.t ≡ decimal c.in-U32.x ∷ [] = ⊎_elim (λ e. rw e) (λ e. rw e) c.in-U32.is in
    rw (words, ← c.name.ensures)
    (puts-words _ _ c.put_word.ensures (rw c.from-in-U32.ensures at c.put_number-in-U32.ensures))

pub returns-in-U64 : goal.returns-in-U64
unfolding value_words
returns-in-U64 c =
    rw (← c.name.ensures, c.in-U64.is)
    (puts-words _ _ c.put_word.ensures c.put_number.ensures)

pub returns-in-Id : goal.returns-in-Id
unfolding value_words
returns-in-Id c =
    rw (← c.name.ensures, c.in-Id.is)
    (puts-words _ _ c.put_word.ensures (rw c.from.ensures at c.put_number-in-Id.ensures))

pub returns-in-I32 : goal.returns-in-I32
unfolding value_words
returns-in-I32 c =
    let r = c.from-in-I32.result in
    let wide : to_z w64 (of_z w64 r) ≡ r = search rules in
    let same : to_z w32 (of_z w32 c.in-I32.x) ≡ c.in-I32.x = search rules in
    rw (← c.name.ensures, c.in-I32.is)
    (puts-words _ _ c.put_word.ensures (puts-spaced c.put.ensures (rw (wide ∙ c.from-in-I32.ensures ∙ same) at c.put_signed.ensures)))

pub returns-in-I64 : goal.returns-in-I64
unfolding value_words
returns-in-I64 c =
    let same : to_z w64 (of_z w64 c.in-I64.x) ≡ c.in-I64.x = search rules in
    rw (← c.name.ensures, c.in-I64.is)
    (puts-words _ _ c.put_word.ensures (puts-spaced c.put-in-I64.ensures (rw same at c.put_signed-in-I64.ensures)))

pub returns-in-Bool : goal.returns-in-Bool
unfolding value_words
returns-in-Bool c =
    rw (← c.name.ensures, c.in-Bool.is)
    (puts-words _ _ c.put_word.ensures (puts-spaced c.put-in-Bool.ensures c.put_truth.ensures))

pub returns-in-Quoted : goal.returns-in-Quoted
unfolding value_words
returns-in-Quoted c =
    let words : value_words c.args.bytes.now c.args.t ≡ hex_or_dash (part_of c.args.bytes.now c.in-Quoted.text) ∷ [] =
    ⊎_elim (λ e. rw e) (λ e. rw e) c.in-Quoted.is in
    rw (words, ← c.name.ensures)
    (puts-words _ _ c.put_word.ensures (puts-spaced c.put-in-Quoted.ensures (rw c.text_part.ensures at c.put_text.ensures)))

pub returns-in-F32 : goal.returns-in-F32
unfolding value_words
returns-in-F32 c =
    rw (← c.name.ensures, c.in-F32.is)
    (puts-words _ _ c.put_word.ensures (puts-spaced c.put-in-F32.ensures (rw c.from-in-F32.ensures at c.put_le.ensures)))

pub returns-in-F64 : goal.returns-in-F64
unfolding value_words
returns-in-F64 c =
    rw (← c.name.ensures, c.in-F64.is)
    (puts-words _ _ c.put_word.ensures (puts-spaced c.put-in-F64.ensures c.put_le-in-F64.ensures))

pub returns-in-Rgb : goal.returns-in-Rgb
unfolding value_words
returns-in-Rgb c =
    rw (← c.name.ensures, c.in-Rgb.is)
    (puts-words _ _ c.put_word.ensures c.put_colour.ensures)
