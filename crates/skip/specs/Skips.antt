-- What the answers of the code stand for.
use Rattle.std.specs.Prelude.{ℕ, Result, Ok, Err}
use Rattle.form.specs.Skipping.{Skip, past, stopped}
use Rattle.payload.specs.Answers.{fault_of}
use Rattle.payload.specs.declared.answers.LexErrorAt.{LexErrorAt}

abbrev pub skip_answer : Result ℕ LexErrorAt → Skip
skip_answer (Ok n) = past n
skip_answer (Err e) = stopped (fault_of e.kind) e.at
