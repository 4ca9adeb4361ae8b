-- A text's place, within the bytes and beyond them. Assumes nothing.
use Prim.Native.Nat.{ℕ, ◌+◌, ◌≤◌, ◌<◌}
use mathlib.Core.Path.{◌≡◌}
use mathlib.Core.Bool.{true, false}
use mathlib.Core.List.{List}
use lib.ListN.{length}
use borrow.Author.Tests.{le-leb, lt-leb}
use Rattle.payload.specs.declared.answers.Text.{Text}
use Rattle.payload.specs.Texts.{lies}

module _ (s : List ℕ) (t : Text) where
  pub within : t.start + t.len ≤ length s → lies s t ≡ true
  within h = le-leb (t.start + t.len) (length s) h

  pub beyond : length s < t.start + t.len → lies s t ≡ false
  beyond h = lt-leb (t.start + t.len) (length s) h
