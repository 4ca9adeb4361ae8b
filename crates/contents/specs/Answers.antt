-- What the answers of the code stand for.
use Rattle.std.specs.Prelude.{ℕ, ◌≡◌, List, map, Result, Ok, Err, Option, Some, None}
use Rattle.form.specs.Refusals as R
use Rattle.form.specs.Refusals.{Refusal}
use Rattle.form.specs.Writing.{Outcome}
use Rattle.form.specs.Contents as F
use Rattle.form.specs.Contents.{Filling, filling_outcome, numbers_left, entries_left, span, held, nowhere, unsearched}
use Rattle.payload.specs.Answers.{refusal_of, outcome_as}
use Rattle.contents.specs.declared.Entry.{Entry}
use Rattle.contents.specs.declared.filling.FillError.{FillError}
use Rattle.contents.specs.declared.filling.FillError.TheVariants as L
use Rattle.contents.specs.declared.searching.BadIndex.{BadIndex}
use Rattle.contents.specs.declared.file.WriteError.{WriteError}
use Rattle.contents.specs.declared.file.WriteError.TheVariants as W
use Rattle.contents.specs.declared.file.ReadError.{ReadError}
use Rattle.contents.specs.declared.file.ReadError.TheVariants as O

abbrev pub entry_of : Entry → F.Entry
entry_of e = span e.start e.end

abbrev pub fill_refusal : FillError → Refusal
fill_refusal (L.Refused e) = refusal_of e
fill_refusal (L.ListFull n) = R.ListFull n
fill_refusal (L.TooLong n) = R.TooLong n

abbrev pub filled_outcome : Result ℕ FillError → Outcome
filled_outcome r = outcome_as fill_refusal r

abbrev pub searched_answer : Result (Option ℕ) BadIndex → F.Search
searched_answer (Ok (Some i)) = held i
searched_answer (Ok None) = nowhere
searched_answer (Err e) = unsearched R.BadIndex

abbrev pub write_refusal : WriteError → Refusal
write_refusal W.BadIndex = R.BadIndex
write_refusal (W.TooLong n) = R.TooLong n
write_refusal (W.NoRoom n) = R.NoRoom n

abbrev pub written_outcome : Result ℕ WriteError → Outcome
written_outcome r = outcome_as write_refusal r

abbrev pub read_refusal : ReadError → Refusal
read_refusal O.BadIndex = R.BadIndex
read_refusal (O.ListFull n) = R.ListFull n

abbrev pub opened_outcome : Result ℕ ReadError → Outcome
opened_outcome r = outcome_as read_refusal r

-- the answer a is given, and the list of numbers d has become d', as x says
pub record Fills (x : Filling) (a : Outcome) (d d' : List ℕ) : Type 0 where
  pub answer : a ≡ filling_outcome x
  pub list : d' ≡ numbers_left x d

-- the same of a list of records
pub record FillsEntries (x : Filling) (a : Outcome) (d d' : List Entry) : Type 0 where
  pub answer : a ≡ filling_outcome x
  pub list : map entry_of d' ≡ entries_left x (map entry_of d)
