-- No public promise goes through this file. What entries are kept in.
use Rattle.std.specs.Prelude.{ℕ, ◌+◌, ◌*◌, ◌≡◌, List, [], ◌∷◌, set}
use Rattle.std.proofs.lemmas.List.Edits.{sets}
use Rattle.form.specs.Writing.{Outcome}
use Rattle.form.specs.Contents as F
use Rattle.form.specs.Contents.{span, big, Filling, filled, unfilled, filling_outcome}
use Rattle.contents.specs.declared.Entry.{Entry}

-- the entries of a list of numbers, two for each
unfoldable pub pairs : List ℕ → List F.Entry
pairs [] = []
pairs (a ∷ []) = []
pairs (a ∷ b ∷ l) = span a b ∷ pairs l

-- ---- an entry after i others

abbrev pub pair_put : ℕ → F.Entry → List ℕ → List ℕ
pair_put i x d = set (set d (2 * i) x.start) (2 * i + 1) x.end

abbrev pub record_put : ℕ → F.Entry → List Entry → List Entry
record_put i x d = set d i (record { start = x.start; end = x.end })

unfoldable pub entry_put : ℕ → F.Entry → List ℕ → List ℕ
entry_put i x d = sets (sets d (5 + 8 * i) (big x.start)) (5 + 8 * i + 4) (big x.end)

-- ---- entries in order, the first of them after i others

unfoldable pub put_all : {A : Type 0} → (ℕ → F.Entry → A → A) → ℕ → List F.Entry → A → A
put_all put i [] d = d
put_all put i (x ∷ l) d = put_all put (i + 1) l (put i x d)

-- what a list holds then
unfoldable pub left_in : {A : Type 0} → (ℕ → F.Entry → A → A) → Filling → A → A
left_in put (filled l) d = put_all put 0 l d
left_in put (unfilled r) d = d

-- the answer a is given, and the list d has become d', as x says
pub record Gets {A : Type 0} (put : ℕ → F.Entry → A → A) (x : Filling) (a : Outcome) (d d' : A) : Type 0 where
  pub answer : a ≡ filling_outcome x
  pub list : d' ≡ left_in put x d
