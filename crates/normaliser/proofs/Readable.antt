-- Of the code: a save that reads to its end is written in its shortest spelling, where there is room. Assumes nothing.
use Prim.Native.Nat.{ℕ, ◌≤◌}
use native.Mathlib.Omega.{arith}
use mathlib.Core.Path.{◌≡◌, refl, sym, ap, ◌∙◌}
use mathlib.Core.List.{List, ◌++◌}
use lib.ListN.{length, drop}
use lib.Dec.{T}
use Rattle.form.specs.Numbers.{Bytes}
use Rattle.form.specs.Saves.{walk, whole, shortened, LIMIT}
use Rattle.form.specs.Writing.{Output, written, unwritten, wrote, outcome, leaves, Follows, shorten}
use Rattle.laws.proofs.Never.{never}
use Rattle.laws.proofs.Shortened.{shortened-length}
use Rattle.laws.proofs.Normalising.{whole-fits, shortened-whole}
use Rattle.std.specs.Prelude.{Result, Ok}
use Rattle.normaliser.specs.declared.NormalError.{NormalError}
use Rattle.normaliser.specs.Answers.{normalised_outcome}
use Rattle.normaliser.proofs.Unique.{shorten-one}

-- no longer than the limit, bytes, and read to the end
pub record Readable (s : List ℕ) : Type 0 where
  pub limit : length s ≤ LIMIT
  pub bytes : Bytes s
  pub ends : T (whole (walk s))

-- d is the output before the call and d' after it, and r what is answered
pub record Writes (s d d' : List ℕ) (r : Result ℕ NormalError) : Type 0 where
  pub answer : r ≡ Ok (length (shortened s))
  pub output : d' ≡ shortened s ++ drop (length (shortened s)) d
  pub short : length (shortened s) ≤ length s

module _ {s d d' : List ℕ} (r : Result ℕ NormalError) (f : Follows (shorten (length d) s) (normalised_outcome r) d d') where
  -- whatever meets the promise of `shorten` writes exactly the shortest spelling of such a save, no longer than the save, where there is room
  pub readable-written : Readable s → length (shortened s) ≤ length d → Writes s d d' r
  unfolding outcome leaves
  readable-written k h =
      let o = whole-fits s k.limit k.bytes k.ends (length d) h in
      let same = shorten-one s d f (record { answer = ap outcome (sym o); output = ap (λ (x : Output). leaves x d) (sym o) }) in
      record { answer = same.0; output = same.1; short = shortened-length s k.bytes k.ends }

  -- in the save's own length there is
  pub readable-fits : Readable s → length s ≤ length d → Writes s d d' r
  readable-fits k h = readable-written k (omega (arith, shortened-length s k.bytes k.ends))

  -- and it writes nothing but that
  pub written-readable : {n : ℕ} → Bytes s → r ≡ Ok n → Readable s × (length (shortened s) ≤ length d)
  unfolding outcome
  written-readable {n} b q = go (shorten (length d) s) refl (sym (ap normalised_outcome q) ∙ f.answer)
    where
      go : (o : Output) → shorten (length d) s ≡ o → wrote n ≡ outcome o → Readable s × (length (shortened s) ≤ length d)
      go (written bs) e h = let k = shortened-whole e in (record { limit = k.limit; bytes = b; ends = k.ends }, k.fits)
      go (unwritten why) e h = never (cc)
