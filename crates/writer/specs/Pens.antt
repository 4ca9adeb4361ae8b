-- No public promise goes through this file. What a pen does.
use Rattle.std.specs.Prelude.{ℕ, ◌+◌, ◌≤◌, ◌≡◌, List, length}
use Rattle.form.specs.Put.{Put}
use Rattle.writer.specs.declared.put.Pen.{Pen}

-- so many bytes fit from its place on
abbrev pub Room : Pen → ℕ → Type 0
Room p n = p.at + n ≤ length p.out.now

-- it puts bytes at its place, in the output that it was lent
pub record Puts (p p' : Pen) (bs : List ℕ) : Type 0 where
  pub put : Put p.out.now p.at bs p'.out.now p'.at
  pub lent : p'.out.ghost_name ≡ p.out.ghost_name
