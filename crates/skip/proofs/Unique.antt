-- Any two results that a promise allows are equal: the answer can be read back from what it stands for. Assumes nothing.
use Prim.Native.Nat.{ℕ}
use mathlib.Core.Path.{◌≡◌, refl, ap}
use mathlib.Core.List.{List}
use Rattle.std.specs.Prelude.{Result, Ok, Err}
use Rattle.form.specs.Refusals.{Fault, too_short, bad_colour}
use Rattle.form.specs.Skipping.{Skip, past, stopped, skip_container, skip_value}
use Rattle.laws.proofs.Unique.{same}
use Rattle.payload.specs.Answers.{fault_of}
use Rattle.payload.specs.declared.answers.LexError.{LexError}
use Rattle.payload.specs.declared.answers.LexError.TheVariants.{Eof, InvalidRgb}
use Rattle.payload.specs.declared.answers.LexErrorAt.{LexErrorAt}
use Rattle.skip.specs.Skips.{skip_answer}

abbrev kind_for : Fault → LexError
kind_for (too_short m) = Eof m
kind_for bad_colour = InvalidRgb

abbrev back_to : Skip → Result ℕ LexErrorAt
back_to (past n) = Ok n
back_to (stopped f n) = Err (record { at = n; kind = kind_for f })

back : (r : Result ℕ LexErrorAt) → back_to (skip_answer r) ≡ r
back (Ok n) = refl
back (Err e) = ap (λ k. Err (record { at = e.at; kind = k })) (go e.kind)
  where
    go : (k : LexError) → kind_for (fault_of k) ≡ k
    go (Eof m) = refl
    go InvalidRgb = refl

module _ (s : List ℕ) (p : ℕ) (r r' : Result ℕ LexErrorAt) where
  pub skip-container-one : skip_answer r ≡ skip_container s p → skip_answer r' ≡ skip_container s p → r ≡ r'
  skip-container-one = same skip_answer back_to back r r'

  pub skip-value-one : (i : ℕ) → skip_answer r ≡ skip_value i s p → skip_answer r' ≡ skip_value i s p → r ≡ r'
  skip-value-one i = same skip_answer back_to back r r'
