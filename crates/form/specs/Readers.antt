-- Answers, and how readings are put together.
use Rattle.std.specs.Prelude.{ℕ, ◌+◌, List, drop}
use Rattle.form.specs.Refusals.{Fault}

-- what was found and how many bytes it took, or, of a reading at a place, the place after it; or what is wrong
pub data Answer (A : Type 0) : Type 0 where
  found : A → ℕ → Answer A
  refused : Fault → Answer A

-- a way to read: what the bytes that are left give
abbrev pub Reader : Type 0 → Type 0
Reader A = List ℕ → Answer A

-- ---- how readings are put together

-- the same, k bytes further on
unfoldable pub further : {A : Type 0} → ℕ → Answer A → Answer A
further k (found a n) = found a (k + n)
further k (refused e) = refused e

-- go on with what was found; a fault is handed on
unfoldable pub and_then : {A B : Type 0} → Answer A → (A → ℕ → Answer B) → Answer B
and_then (found a n) k = k a n
and_then (refused e) k = refused e

-- read f, and then what g says on the bytes after it
infixr 20 ◌followed-by◌
unfoldable pub ◌followed-by◌ : {A B : Type 0} → Reader A → (A → Reader B) → Reader B
◌followed-by◌ f g s = and_then (f s) (λ a n. further n (g a (drop n s)))

-- the same, with what was found passed through g
unfoldable pub mapped : {A B : Type 0} → (A → B) → Answer A → Answer B
mapped g (found a n) = found (g a) n
mapped g (refused e) = refused e

infixl 30 ◌giving◌
unfoldable pub ◌giving◌ : {A B : Type 0} → Reader A → (A → B) → Reader B
◌giving◌ f g s = mapped g (f s)

-- nothing is read
unfoldable pub give : {A : Type 0} → A → Reader A
give a s = found a 0

unfoldable pub refuse : {A : Type 0} → Fault → Reader A
refuse e s = refused e

-- ---- reading at a place

-- what stands at a place of bytes, and the place after it
abbrev pub ByPlace : Type 0 → Type 0
ByPlace A = List ℕ → ℕ → Answer A

-- the answer of a reading that begins at a place
unfoldable pub at : {A : Type 0} → Reader A → ByPlace A
at f s p = further p (f (drop p s))

-- the same, with what was found passed through g with the place after it: a text stands just before that place
unfoldable pub placed : {A B : Type 0} → (ℕ → A → B) → Answer A → Answer B
placed g (found a n) = found (g n a) n
placed g (refused e) = refused e
