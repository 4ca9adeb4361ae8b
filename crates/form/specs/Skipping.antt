-- Skipping: over ids, where a colour's id is an ordinary one.
use Rattle.std.specs.Prelude.{ℕ, zero, suc, ◌+◌, ◌-◌, List, length, eqb, leb}
use Rattle.form.specs.Numbers.{pick}
use Rattle.form.specs.Values.{Id}
use Rattle.form.specs.Table.{Payload, number, text, colour, nothing, after}
use Rattle.form.specs.Ids.{OPEN, CLOSE}
use Rattle.form.specs.Refusals.{Fault, too_short}
use Rattle.form.specs.Readers.{Answer, found, refused, mapped, at}
use Rattle.form.specs.Reading.{num, payload}

-- what a walk steps over after the id i: a colour's id stands alone
unfoldable pub stepped : ℕ → Payload → Payload
stepped i (number w f) = number w f
stepped i (text f) = text f
stepped i colour = nothing (Id i)

-- past what follows the id i
unfoldable pub passing : ℕ → List ℕ → ℕ → Answer (Unit {0})
passing i s p = mapped (λ _. tt) (at (payload (stepped i (after i))) s p)

-- where a skip ended: past what it skipped; or stopped by a fault, at the place where the failing read began
pub data Skip : Type 0 where
  past : ℕ → Skip
  stopped : Fault → ℕ → Skip

-- go on with what was read from place p
unfoldable pub or_stop : {A : Type 0} → ℕ → Answer A → (A → ℕ → Skip) → Skip
or_stop p (found a n) go = go a n
or_stop p (refused e) go = stopped e p

-- after a Close at depth d, just before place p: the one at depth 1 ends the walk
unfoldable pub closed : ℕ → ℕ → (ℕ → Skip) → Skip
closed d p go = pick (leb d 1) (past p) (go (d - 1))

-- after the id i and its payload at depth d, just before place p
unfoldable pub turned : ℕ → ℕ → ℕ → (ℕ → Skip) → Skip
turned i d p go = pick (eqb i OPEN) (go (d + 1)) (pick (eqb i CLOSE) (closed d p go) (go d))

-- from place p at depth d, by a count that is large enough: the length plus one is
unfoldable pub skip_f : ℕ → ℕ → List ℕ → ℕ → Skip
skip_f zero d s p = stopped (too_short 2) p
skip_f (suc k) d s p =
    or_stop p (at (num 2) s p) (λ i n. or_stop n (passing i s n) (λ _ m. turned i d m (λ c. skip_f k c s m)))

-- from place p at depth d
unfoldable pub skipping : ℕ → List ℕ → ℕ → Skip
skipping d s p = skip_f (suc (length s)) d s p

-- from inside a container
unfoldable pub skip_container : List ℕ → ℕ → Skip
skip_container s p = skipping 1 s p

-- the value whose id i stands before place p: a colour is read strictly here
unfoldable pub skip_value : ℕ → List ℕ → ℕ → Skip
skip_value i s p = pick (eqb i OPEN) (skip_container s p) (or_stop p (at (payload (after i)) s p) (λ v n. past n))
