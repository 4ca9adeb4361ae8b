-- What the normaliser answers.
use Rattle.std.specs.Prelude.{ℕ, Result, Ok, Err}
use Rattle.std.proofs.Math.Option.{Option, none, some}
use Rattle.form.specs.Refusals as R
use Rattle.form.specs.Writing.{Outcome, wrote, declined}
use Rattle.form.specs.Rescue.{Report}
use Rattle.payload.specs.Answers.{refusal_of, outcome_as}
use Rattle.normaliser.specs.declared.NormalError.{NormalError}
use Rattle.normaliser.specs.declared.NormalError.TheVariants.{Refused, WideLookup, NoRoom, TooLong}
use Rattle.normaliser.specs.declared.rescuing.Report as Code
use Rattle.normaliser.specs.declared.rescuing.Rescued.{Rescued}
use Rattle.normaliser.specs.declared.rescuing.RescueError.{RescueError}
use Rattle.normaliser.specs.declared.rescuing.RescueError.TheVariants as E

abbrev pub normal_refusal : NormalError → R.Refusal
normal_refusal (Refused e) = refusal_of e
normal_refusal (WideLookup p) = R.WideLookup p
normal_refusal (NoRoom n) = R.NoRoom n
normal_refusal (TooLong n) = R.TooLong n

abbrev pub normalised_outcome : Result ℕ NormalError → Outcome
normalised_outcome = outcome_as normal_refusal

-- ---- of a rescue

abbrev pub report_of : Code.Report → Report
report_of r = record { cut_off = r.cut; strays = r.strays; added = r.closes }

abbrev pub rescue_refusal : RescueError → R.Refusal
rescue_refusal (E.NoRoom n) = R.NoRoom n
rescue_refusal (E.TooLong n) = R.TooLong n

abbrev pub rescued_outcome : Result Rescued RescueError → Outcome
rescued_outcome (Ok r) = wrote r.written
rescued_outcome (Err e) = declined (rescue_refusal e)

abbrev pub rescued_report : Result Rescued RescueError → Option Report
rescued_report (Ok r) = some (report_of r.report)
rescued_report (Err e) = none
