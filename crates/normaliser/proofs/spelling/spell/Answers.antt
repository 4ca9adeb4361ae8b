-- `normaliser::spelling::spell` meets its contract. Assumes nothing.
use mathlib.Core.Path.{refl}
use mathlib.Core.List.{List, [], ◌∷◌}
use Prim.Native.Nat.{ℕ}
use Rattle.form.specs.Values.{kind}
use Rattle.form.specs.Table.{table, entries, find, or_plain, after}
use Rattle.form.specs.Spelling.{tag, body, reason, writable, wide}
use Rattle.laws.proofs.Standing.{KeptNumber, KeptText, KeptColour, of_one, Kept, kept4, fours-kept, kept_f32, floats-kept, kept8, eights-kept, kept_truths, truths-kept, kept_texts, texts-kept, kept_colours, colours-kept}
use Rattle.payload.specs.Answers.{read_as}
use Rattle.normaliser.proofs.Taken.{ok_of}
use Rattle.normaliser.proofs.Spelled.{number-arm, text-arm, colour-arm, alone-arm, alone-below, alone-above}
use Rattle.normaliser.proofs.spelling.spell.Goals as goal

abbrev arms : List (List ℕ)
arms = kept_texts ∷ kept4 ∷ kept_f32 ∷ kept8 ∷ kept_truths ∷ kept_colours ∷ []

pub returns-then-n-lt-LOOKUP_U16 : goal.returns-then-n-lt-LOOKUP_U16
unfolding after or_plain find entries table tag body wide kind reason writable
returns-then-n-lt-LOOKUP_U16 c =
    let a = c.args in
    alone-arm a.bytes.now c.shared_slice_known-1.given a.at (ok_of (read_as (λ x. x.0)) c.read_id.result c.in_ok-id.ensures.value c.read_id.ensures) (alone-below arms refl _ c.in_default.in_default-own.rest c.if-n-lt-LOOKUP_U16.true)

pub returns-then-n-gt-STR_SAV03 : goal.returns-then-n-gt-STR_SAV03
unfolding after or_plain find entries table tag body wide kind reason writable
returns-then-n-gt-STR_SAV03 c =
    let a = c.args in
    alone-arm a.bytes.now c.shared_slice_known-1.given a.at (ok_of (read_as (λ x. x.0)) c.read_id.result c.in_ok-id.ensures.value c.read_id.ensures) (alone-above arms refl _ c.in_default.in_default-own.rest c.if-n-gt-STR_SAV03.true)

pub returns-in-15 : goal.returns-in-15
returns-in-15 c =
    let a = c.args in
    text-arm a.bytes.now c.shared_slice_known-1.given a.at (ok_of (read_as (λ x. x.0)) c.read_id.result c.in_ok-id.ensures.value c.read_id.ensures) (of_one KeptText kept_texts texts-kept c.in-15.is) c.string.result c.string.ensures

pub returns-in-12 : goal.returns-in-12
returns-in-12 c =
    let a = c.args in
    number-arm a.bytes.now c.shared_slice_known-1.given a.at (ok_of (read_as (λ x. x.0)) c.read_id.result c.in_ok-id.ensures.value c.read_id.ensures) (of_one (Kept 4) kept4 fours-kept c.in-12.is) c.fixed.result c.fixed.ensures

pub returns-in-13 : goal.returns-in-13
returns-in-13 c =
    let a = c.args in
    number-arm a.bytes.now c.shared_slice_known-1.given a.at (ok_of (read_as (λ x. x.0)) c.read_id.result c.in_ok-id.ensures.value c.read_id.ensures) (of_one (Kept 4) kept_f32 floats-kept c.in-13.is) c.fixed-in-13.result c.fixed-in-13.ensures

pub returns-in-359 : goal.returns-in-359
returns-in-359 c =
    let a = c.args in
    number-arm a.bytes.now c.shared_slice_known-1.given a.at (ok_of (read_as (λ x. x.0)) c.read_id.result c.in_ok-id.ensures.value c.read_id.ensures) (of_one (Kept 8) kept8 eights-kept c.in-359.is) c.fixed-in-359.result c.fixed-in-359.ensures

pub returns-in-14 : goal.returns-in-14
returns-in-14 c =
    let a = c.args in
    number-arm a.bytes.now c.shared_slice_known-1.given a.at (ok_of (read_as (λ x. x.0)) c.read_id.result c.in_ok-id.ensures.value c.read_id.ensures) (of_one (KeptNumber 1 2) kept_truths truths-kept c.in-14.is) c.truth.result c.truth.ensures

pub returns-in-579 : goal.returns-in-579
returns-in-579 c =
    let a = c.args in
    colour-arm a.bytes.now c.shared_slice_known-1.given a.at (ok_of (read_as (λ x. x.0)) c.read_id.result c.in_ok-id.ensures.value c.read_id.ensures) (of_one KeptColour kept_colours colours-kept c.in-579.is) c.colour.result c.colour.ensures

pub returns-else-n-gt-STR_SAV03 : goal.returns-else-n-gt-STR_SAV03
returns-else-n-gt-STR_SAV03 c = c.among_lookups.ensures _ (ok_of (read_as (λ x. x.0)) c.read_id.result c.in_ok-id.ensures.value c.read_id.ensures)
