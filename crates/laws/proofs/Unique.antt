-- Any two results that a promise allows are equal: where it is a plain equation, and where an answer can be read back from what it stands for.
-- Assumes nothing.
use Prim.Native.Nat.{ℕ}
use mathlib.Core.Path.{◌≡◌, sym, ap, ◌∙◌}
use mathlib.Core.List.{List, [], ◌∷◌}
use lib.ListN.{get_or}
use lib.Dec.{eqb}
use Rattle.form.specs.Numbers.{pick}
use Rattle.form.specs.Refusals.{Refusal, refusal_number, refusal_values, refusal_value}
use Rattle.form.specs.Writing.{Output, Outcome, Follows}

-- promises that are plain equations: a position, a kind, the contents of a part
pub plain-one : {A : Type 0} {a : A} (r r' : A) → r ≡ a → r' ≡ a → r ≡ r'
plain-one r r' p q = p ∙ sym q

-- promises of what an answer stands for
pub same : {R A : Type 0} (answer : R → A) (back : A → R) → ((r : R) → back (answer r) ≡ r) → {a : A} (r r' : R) → answer r ≡ a → answer r' ≡ a → r ≡ r'
same answer back h r r' p q = sym (h r) ∙ ap back (p ∙ sym q) ∙ h r'

-- the answer for a refusal, by its number and with its value: one of a list, or the one for all others
abbrev pub by_number : {A : Type 0} → List (ℕ × (ℕ → A)) → (ℕ → A) → Refusal → A
by_number [] other r = other (refusal_value r)
by_number ((k, f) ∷ l) other r = pick (eqb (refusal_number r) k) (f (refusal_value r)) (by_number l other r)

-- the same, where Eof is among them: it has two values
abbrev pub eof_or_number : {A : Type 0} → (ℕ → ℕ → A) → List (ℕ × (ℕ → A)) → (ℕ → A) → Refusal → A
eof_or_number f l other r = pick (eqb (refusal_number r) 1) (f (refusal_value r) (get_or (refusal_values r) 1 0)) (by_number l other r)

-- promises of what a call that writes answers, and of the output that it leaves
pub follows-one : {A : Type 0} (answer : A → Outcome) (back : Outcome → A) → ((r : A) → back (answer r) ≡ r) → (o : Output) (d : List ℕ)
    → {r r' : A} {d' d'' : List ℕ} → Follows o (answer r) d d' → Follows o (answer r') d d'' → (r ≡ r') × (d' ≡ d'')
follows-one answer back h o d {r} {r'} f g = (same answer back h r r' f.answer g.answer, f.output ∙ sym g.output)
