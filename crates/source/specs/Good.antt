-- No public promise goes through this file. A state whose numbers fit.
use Rattle.std.specs.Prelude.{ℕ, ◌+◌, ◌-◌, ◌≤◌}
use Rattle.form.specs.Numbers.{MAX}
use Rattle.source.specs.declared.ParserSource.{ParserSource}
use Rattle.source.specs.Window.{unread}

-- where the window lies in so many bytes, with a supply and a schedule so long
pub record Good (s : ParserSource) (held supply schedule : ℕ) : Type 0 where
  pub ordered : s.start ≤ s.end
  pub within : s.end ≤ held
  pub supplied : s.supply ≤ supply
  pub scheduled : s.schedule ≤ schedule
  pub sum : s.position + unread s + (supply - s.supply) ≤ MAX
