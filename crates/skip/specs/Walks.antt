-- No public promise goes through this file. The walk as the code goes it: with an id just read, and over at depth 0.
use Rattle.std.specs.Prelude.{ℕ, ◌+◌, ◌*◌, ◌≤◌, ◌≡◌, List, eqb, Result, Ok, Err}
use Rattle.std.proofs.Math.Option.{Option, none, some}
use Rattle.form.specs.Numbers.{pick}
use Rattle.form.specs.Table.{Payload, number, text, colour, after}
use Rattle.form.specs.Skipping.{Skip, past, stopped, or_stop, passing, turned, skipping}
use Rattle.form.specs.Refusals.{too_short}
use Rattle.payload.specs.declared.answers.Eof.{Eof}
use Rattle.skip.specs.declared.walk.Turn.{Turn}
use Rattle.skip.specs.declared.walk.Turn.TheVariants.{On, Out}

-- what a walk steps over after an id: so many bytes, or a text
abbrev pub span : Payload → Option ℕ
span (number w f) = some w
span (text f) = none
span colour = some 0

abbrev pub steps_over : ℕ → Option ℕ
steps_over i = span (after i)

-- from place p at depth d: at depth 0 the walk is over
unfoldable pub walk_from : ℕ → List ℕ → ℕ → Skip
walk_from d s p = pick (eqb d 0) (past p) (skipping d s p)

-- after the id i, which stands just before place p, at depth d
unfoldable pub walk_after : ℕ → ℕ → List ℕ → ℕ → Skip
walk_after i d s p = or_stop p (passing i s p) (λ _ m. turned i d m (λ c. walk_from c s m))

-- what the walk says after a turn from place p
abbrev pub leads : List ℕ → ℕ → Result Turn Eof → Skip
leads s p (Ok (On n d)) = walk_from d s n
leads s p (Ok (Out n)) = past n
leads s p (Err e) = stopped (too_short e.0) p

-- how far a turn from place p goes: the depth is at most half the place after the next id
abbrev pub Moves : ℕ → Result Turn Eof → Type 0
Moves p (Ok (On n d)) = (p ≤ n) × (1 ≤ d) × (2 * d ≤ n + 2)
Moves p (Ok (Out n)) = Unit {0}
Moves p (Err e) = Unit {0}

pub record Turned (i d : ℕ) (s : List ℕ) (p : ℕ) (r : Result Turn Eof) : Type 0 where
  pub answer : leads s p r ≡ walk_after i d s p
  pub moves : Moves p r
