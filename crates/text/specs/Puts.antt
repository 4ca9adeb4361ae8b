-- What a printer does.
use Rattle.std.specs.Prelude.{ℕ, ◌≡◌, List}
use Rattle.form.specs.Put.{Put}
use Rattle.text.specs.declared.Printer.{Printer}

-- it puts bytes at its place, in the output that it was lent
pub record Puts (p p' : Printer) (bs : List ℕ) : Type 0 where
  pub put : Put p.out.now p.at bs p'.out.now p'.at
  pub lent : p'.out.ghost_name ≡ p.out.ghost_name
