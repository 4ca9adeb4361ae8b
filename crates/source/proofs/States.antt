-- A state whose numbers fit. Assumes nothing.
use mathlib.Core.Path.{◌≡◌, refl}
use mathlib.Core.Bool.{Bool, true, false}
use Prim.Native.Nat.{ℕ, ◌+◌, ◌-◌}
use lib.Dec.{ltb}
use borrow.Author.Tests.{ltb-false}
use Rattle.form.specs.Numbers.{pick, MAX}
use Rattle.laws.proofs.Never.{never}
use Rattle.source.specs.declared.ParserSource.{ParserSource}
use Rattle.std.specs.Prelude.{Some, None}
use Rattle.source.specs.Window.{unread, checked}
use Rattle.source.specs.Good.{Good}

-- the numbers of a state that passed the checks, one by one
good-by : (s : ParserSource) (held supply schedule : ℕ) (p₁ p₂ p₃ p₄ p₅ : Bool)
    → ltb s.end s.start ≡ p₁ → ltb held s.end ≡ p₂ → ltb supply s.supply ≡ p₃ → ltb schedule s.schedule ≡ p₄
    → ltb MAX (s.position + unread s + (supply - s.supply)) ≡ p₅
    → pick p₁ (Some s.start) (pick p₂ (Some s.end) (pick p₃ (Some s.supply) (pick p₄ (Some s.schedule) (pick p₅ (Some s.position) None)))) ≡ None
    → Good s held supply schedule
good-by s held supply schedule true p₂ p₃ p₄ p₅ h₁ h₂ h₃ h₄ h₅ e = never (cc)
good-by s held supply schedule false true p₃ p₄ p₅ h₁ h₂ h₃ h₄ h₅ e = never (cc)
good-by s held supply schedule false false true p₄ p₅ h₁ h₂ h₃ h₄ h₅ e = never (cc)
good-by s held supply schedule false false false true p₅ h₁ h₂ h₃ h₄ h₅ e = never (cc)
good-by s held supply schedule false false false false true h₁ h₂ h₃ h₄ h₅ e = never (cc)
good-by s held supply schedule false false false false false h₁ h₂ h₃ h₄ h₅ e =
    record { ordered = ltb-false _ _ h₁; within = ltb-false _ _ h₂; supplied = ltb-false _ _ h₃; scheduled = ltb-false _ _ h₄; sum = ltb-false _ _ h₅ }

pub good : (s : ParserSource) (held supply schedule : ℕ) → checked s held supply schedule ≡ None → Good s held supply schedule
unfolding checked
good s held supply schedule e = good-by s held supply schedule _ _ _ _ _ refl refl refl refl refl e
