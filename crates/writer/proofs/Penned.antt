-- What a pen that goes on has put, and the room that is left to it. Assumes nothing.
use mathlib.Core.Path.{◌≡◌, ◌∙◌}
use mathlib.Core.List.{List, ◌++◌}
use Prim.Native.Nat.{ℕ, ◌+◌}
use native.Mathlib.Omega.{arith}
use lib.ListN.{length, length-append}
use Rattle.laws.proofs.Puts.{put_then}
use Rattle.writer.specs.declared.put.Pen.{Pen}
use Rattle.writer.specs.Pens.{Room, Puts}

-- bytes, and then others
pub puts_then : {p p₁ p₂ : Pen} {a b : List ℕ} → Puts p p₁ a → Puts p₁ p₂ b → Puts p p₂ (a ++ b)
puts_then f g = record { put = put_then f.put g.put; lent = g.lent ∙ f.lent }

-- room for both, before the first and after it
pub room_first : (p : Pen) (a b : List ℕ) {k : ℕ} → length a ≡ k → Room p (length (a ++ b)) → Room p k
room_first p a b e h = omega (arith, length-append a b)

pub room_then : {p p₁ : Pen} {a : List ℕ} (b : List ℕ) → Puts p p₁ a → Room p (length (a ++ b)) → Room p₁ (length b)
room_then {a = a} b f h = omega (arith, f.put.next, f.put.same, length-append a b)

pub room_after : {p p₁ : Pen} {a : List ℕ} {k : ℕ} (n : ℕ) → Puts p p₁ a → length a ≡ k → Room p (k + n) → Room p₁ n
room_after n f e h = omega (arith, f.put.next, f.put.same)
