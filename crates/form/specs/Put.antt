-- Bytes put into a list at a place.
use Rattle.std.specs.Prelude.{ℕ, ◌+◌, ◌≤◌, min, ◌≡◌, List, length}
use Rattle.std.proofs.lemmas.List.Edits.{sets}
use Rattle.form.specs.Numbers.{MAX}

-- d' is d with bs put from place i on, as far as d reaches; r is the place after them, or the largest number
pub record Put (d : List ℕ) (i : ℕ) (bs d' : List ℕ) (r : ℕ) : Type 0 where
  pub next : r ≡ min (i + length bs) MAX
  pub same : length d' ≡ length d
  pub bytes : length d ≤ MAX → d' ≡ sets d i bs
