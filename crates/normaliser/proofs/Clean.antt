-- The third demand, of the code: a clean save with room is written in normal form. Assumes nothing.
use Prim.Native.Nat.{ℕ, ◌*◌, ◌≤◌}
use mathlib.Core.Path.{◌≡◌, refl, sym, ap, ◌∙◌}
use mathlib.Core.List.{List, ◌++◌}
use lib.ListN.{length, drop}
use Rattle.form.specs.Numbers.{Bytes}
use Rattle.form.specs.Saves.{normal, Clean}
use Rattle.form.specs.Writing.{Output, written, unwritten, wrote, outcome, leaves, Follows, normalise}
use Rattle.laws.proofs.Never.{never}
use Rattle.laws.proofs.Normal.{normal-length}
use Rattle.laws.proofs.Normalising.{clean-fits, normalised}
use Rattle.std.specs.Prelude.{Result, Ok}
use Rattle.normaliser.specs.declared.NormalError.{NormalError}
use Rattle.normaliser.specs.Answers.{normalised_outcome}
use Rattle.normaliser.proofs.Unique.{normalise-one}

-- d is the output before the call and d' after it, and r what is answered
pub record Writes (s d d' : List ℕ) (r : Result ℕ NormalError) : Type 0 where
  pub answer : r ≡ Ok (length (normal s))
  pub output : d' ≡ normal s ++ drop (length (normal s)) d
  pub short : length (normal s) ≤ 5 * length s

-- whatever meets the promise of `normalise` writes exactly the normal form of a clean save, at most five times the save's length, where
-- there is room
pub clean-written : {s d d' : List ℕ} {r : Result ℕ NormalError} → Follows (normalise (length d) s) (normalised_outcome r) d d'
    → Clean s → length (normal s) ≤ length d → Writes s d d' r
unfolding outcome leaves
clean-written {s} {d} {d'} {r} f c h =
    let o = clean-fits c (length d) h in
    let same = normalise-one s d f (record { answer = ap outcome (sym o); output = ap (λ (x : Output). leaves x d) (sym o) }) in
    record { answer = same.0; output = same.1; short = normal-length c }

-- and it writes nothing but that
pub written-clean : {s d d' : List ℕ} {r : Result ℕ NormalError} {n : ℕ} → Bytes s → Follows (normalise (length d) s) (normalised_outcome r) d d' → r ≡ Ok n
    → Clean s × (length (normal s) ≤ length d)
unfolding outcome
written-clean {s} {d} {n = n} b f q = go (normalise (length d) s) refl (sym (ap normalised_outcome q) ∙ f.answer)
  where
    go : (o : Output) → normalise (length d) s ≡ o → wrote n ≡ outcome o → Clean s × (length (normal s) ≤ length d)
    go (written bs) e h = let k = normalised b e in (k.clean, k.fits)
    go (unwritten why) e h = never (cc)
