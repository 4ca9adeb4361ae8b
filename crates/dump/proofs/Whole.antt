-- There is room for every dump: all of it is written. Assumes nothing.
use Prim.Native.Nat.{ℕ, ◌≤◌}
use native.Mathlib.Omega.{arith}
use mathlib.Core.Path.{◌≡◌, ap, ◌∙◌}
use mathlib.Core.List.{List}
use lib.ListN.{length}
use Rattle.std.specs.Prelude.{Result, Ok, Err}
use Rattle.form.specs.Numbers.{Bytes}
use Rattle.form.specs.Writing.{Output, written, wrote, declined, outcome, leaves}
use Rattle.form.specs.Listing.{listing, list}
use Rattle.laws.proofs.Never.{never}
use Rattle.laws.proofs.Rooms.{listing-length, list-fits}
use Rattle.listing.specs.Answers.{list_refusal, listed_outcome}
use Rattle.listing.specs.declared.ListError.{ListError}

module _ (s d : List ℕ) (b : Bytes s) (h : (length s ≤ 32768) × (442431 ≤ length d)) where
  whole : list (length d) s ≡ written (listing s)
  whole = list-fits (length d) s (omega arith) (omega (arith, listing-length 4 s b (omega arith)))

  pub listed : (r : Result ℕ ListError) → listed_outcome r ≡ outcome (list (length d) s) → r ≡ Ok (length (listing s))
  unfolding outcome
  listed (Ok n) e = let k : wrote n ≡ wrote (length (listing s)) = e ∙ ap outcome whole in cc
  listed (Err x) e = let k : declined (list_refusal x) ≡ wrote (length (listing s)) = e ∙ ap outcome whole in never (cc)

  pub filled : {d' : List ℕ} → d' ≡ leaves (list (length d) s) d → d' ≡ leaves (written (listing s)) d
  filled q = q ∙ ap (λ (o : Output). leaves o d) whole
