-- The refusal of a text that does not lie within the bytes.
use Rattle.std.specs.Prelude.{ℕ, List, Result, Ok, Err}
use Rattle.std.proofs.Math.Option.{Option, none, some}
use Rattle.form.specs.Numbers.{pick}
use Rattle.form.specs.Refusals.{Refusal, BadPlace as at_bad_place}
use Rattle.payload.specs.declared.answers.Text.{Text}
use Rattle.payload.specs.Texts.{lies}
use Rattle.token.specs.declared.texts.BadPlace.{BadPlace}

abbrev pub place_of : List ℕ → Text → Option Refusal
place_of s t = pick (lies s t) none (some (at_bad_place t.start))

abbrev pub place_answer : Result (Unit {0}) BadPlace → Option Refusal
place_answer (Ok x) = none
place_answer (Err e) = some (at_bad_place e.0)
