-- Saves in their shortest spelling: no longer than the save, with the same tokens. Assumes nothing.
use Prim.Native.Nat.{ℕ, ◌*◌, ◌≤◌}
use native.Mathlib.Nat.{le_refl}
use native.Mathlib.Omega.{arith}
use mathlib.Core.Path.{◌≡◌}
use mathlib.Core.Option.{none}
use mathlib.Core.List.{List, [], ◌∷◌}
use lib.ListN.{length}
use lib.Dec.{T}
use Rattle.form.specs.Numbers.{Bytes}
use Rattle.form.specs.Values.{Value}
use Rattle.form.specs.Reading.{token}
use Rattle.form.specs.Spelling.{InType}
use Rattle.form.specs.Shortest.{shortest, short_reason}
use Rattle.form.specs.Saves.{walk, values, whole, tokens, shortened}
use Rattle.laws.proofs.Found.{All, all-weaken}
use Rattle.laws.proofs.ShortSpellings.{short_back}
use Rattle.laws.proofs.Least.{Short, token-short}
use Rattle.laws.proofs.SpelledAnew.{Each, back, Fair, kept}

-- a value that has a shortest spelling
abbrev pub Shortable : Value → Type 0
Shortable v = InType v × (short_reason 0 v ≡ none)

abbrev Any : Value → Type 0
Any v = Unit {0}

any-each : (vs : List Value) → Each Any vs
any-each [] = tt
any-each (v ∷ vs) = (tt, any-each vs)

fair : (s : List ℕ) → Bytes s → All (Fair shortest 1 Any Shortable s) (token s)
fair s h =
    all-weaken (Short s) (Fair shortest 1 Any Shortable s) (token s) (token-short s h)
    (λ v n k. record { some = k.some; there = k.there; good = λ _. (k.typed, k.can 0); short = omega (arith, k.short) })

module _ (s : List ℕ) (b : Bytes s) (w : T (whole (walk s))) where
  all-kept : Each Shortable (tokens s) × (length (shortened s) ≤ 1 * length s)
  unfolding tokens walk shortened
  all-kept = kept shortest 1 Any Shortable fair (length s) 0 s (le_refl _) b w (any-each (values (walk s)))

  -- (c) a save that reads to its end is never longer so
  pub shortened-length : length (shortened s) ≤ length s
  shortened-length = omega (arith, all-kept.1)

  -- and reads to its end, to the same tokens
  pub shortened-reads : (tokens (shortened s) ≡ tokens s) × T (whole (walk (shortened s)))
  unfolding tokens walk shortened
  shortened-reads = back shortest Shortable (λ v e. short_back v e.0 e.1) (tokens s) all-kept.0 (length (shortened s)) 0 (le_refl _)
