-- No public promise goes through this file. The entries of a save, as they come.
use Rattle.std.specs.Prelude.{ℕ, ◌≡◌, ◌≤◌, List, length, Result, Option, Some, None}
use Rattle.std.proofs.Math.Option.{none}
use Rattle.form.specs.Saves.{walk}
use Rattle.form.specs.Finding.{cut_by}
use Rattle.form.specs.Contents as F
use Rattle.form.specs.Contents.{contents, filled, unless_cut, filling_outcome}
use Rattle.payload.specs.Answers.{refusal_of, outcome_as}
use Rattle.payload.specs.declared.answers.LexErrorAt.{LexErrorAt}
use Rattle.keys.specs.declared.Key.{Key}
use Rattle.contents.specs.Slots.{put_all}

-- where an entry ends: at the next key, or at the end
abbrev pub end_by : Option Key → ℕ → ℕ
end_by None end = end
end_by (Some k) end = k.at

-- the entries of a save are counted, and the list d has become d' with them, if it has room; or the save is refused
pub record Collects {A : Type 0} (put : ℕ → F.Entry → A → A) (room : ℕ) (s : List ℕ) (r : Result ℕ LexErrorAt) (d d' : A) : Type 0 where
  pub answer : outcome_as refusal_of r ≡ filling_outcome (unless_cut (cut_by (walk s)) (filled (contents s)))
  pub list : cut_by (walk s) ≡ none → length (contents s) ≤ room → d' ≡ put_all put 0 (contents s) d
