-- What a printer that goes on has put, and what a loop has still to put. Assumes nothing.
use mathlib.Core.Path.{◌≡◌, refl, sym, ◌∙◌}
use mathlib.Core.List.{List, [], ◌++◌, append-nil}
use Prim.Native.Nat.{ℕ, ◌≤◌}
use Rattle.form.specs.Numbers.{MAX}
use Rattle.laws.proofs.Puts.{put_then, put-none, Left, left-all, left_step, left-done}
use Rattle.text.specs.declared.Printer.{Printer}
use Rattle.text.specs.Puts.{Puts}

-- bytes, and then others
pub puts_then : {p p₁ p₂ : Printer} {a b : List ℕ} → Puts p p₁ a → Puts p₁ p₂ b → Puts p p₂ (a ++ b)
puts_then f g = record { put = put_then f.put g.put; lent = g.lent ∙ f.lent }

-- nothing
pub puts-none : (p : Printer) → p.at ≤ MAX → Puts p p []
puts-none p h = record { put = put-none p.out.now p.at h; lent = refl }

-- bs, put by p as it is, gives what bs₀ gives, put by p₀ as it was
pub record Pending (p : Printer) (bs : List ℕ) (p₀ : Printer) (bs₀ : List ℕ) : Type 0 where
  pub left : Left p.out.now p.at bs p₀.out.now p₀.at bs₀
  pub lent : p.out.ghost_name ≡ p₀.out.ghost_name

pub pending-all : (p : Printer) (bs : List ℕ) → p.at ≤ MAX → Pending p bs p bs
pending-all p bs h = record { left = left-all p.out.now p.at bs h; lent = refl }

-- a turn that puts the first of it
pub pending_step : {p p₁ p₀ : Printer} {bs a bs₀ : List ℕ} (b : List ℕ) → Pending p bs p₀ bs₀ → Puts p p₁ a → bs ≡ a ++ b → Pending p₁ b p₀ bs₀
pending_step b l f e = record { left = left_step b l.left f.put e; lent = f.lent ∙ l.lent }

pub pending-done : {p p₀ : Printer} {bs bs₀ : List ℕ} → Pending p bs p₀ bs₀ → bs ≡ [] → Puts p₀ p bs₀
pending-done l e = record { put = left-done l.left e; lent = l.lent }

-- what is put after the last turn
pub pending-last : {p p₁ p₀ : Printer} {bs a bs₀ : List ℕ} → Pending p bs p₀ bs₀ → Puts p p₁ a → bs ≡ a → Puts p₀ p₁ bs₀
pending-last {a = a} l f e = pending-done (pending_step [] l f (e ∙ sym (append-nil a))) refl
