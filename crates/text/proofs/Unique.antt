-- Any two results that a promise of this crate allows are equal: each is a `Put`, and an output has no more bytes than the largest place.
-- Assumes nothing.
use mathlib.Core.Path.{◌≡◌, sym, ◌∙◌}
use mathlib.Core.List.{List}
use Prim.Native.Nat.{ℕ, ◌≤◌}
use lib.ListN.{length}
use Rattle.form.specs.Numbers.{MAX}
use Rattle.form.specs.Put.{Put}
use Rattle.text.specs.declared.Printer.{Printer}
use Rattle.text.specs.Puts.{Puts}

pub one-put : {d bs d₁ d₂ : List ℕ} {i r₁ r₂ : ℕ} → length d ≤ MAX → Put d i bs d₁ r₁ → Put d i bs d₂ r₂ → (r₁ ≡ r₂) × (d₁ ≡ d₂)
one-put h p q = (p.next ∙ sym q.next, p.bytes h ∙ sym (q.bytes h))

-- of a printer: its place and its output
pub one-puts : {p p₁ p₂ : Printer} {bs : List ℕ} → length p.out.now ≤ MAX → Puts p p₁ bs → Puts p p₂ bs → (p₁.at ≡ p₂.at) × (p₁.out.now ≡ p₂.out.now)
one-puts h f g = one-put h f.put g.put
