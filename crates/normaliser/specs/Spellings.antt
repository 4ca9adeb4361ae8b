-- No public promise goes through this file. What is said of a token's spelling, and of a run of tokens.
use Rattle.std.specs.Prelude.{ℕ, ◌^◌, ◌<◌, ◌≡◌, List, Option, None, Some}
use Rattle.form.specs.Values as F
use Rattle.form.specs.Readers.{Answer, Reader, found, at}
use Rattle.form.specs.Reading.{num}
use Rattle.form.specs.Spelling.{spell}
use Rattle.normaliser.specs.declared.spelling.Number.{Number}
use Rattle.normaliser.specs.declared.spelling.Number.TheVariants.{F64, Lookup}
use Rattle.normaliser.specs.declared.spelling.Spelling.{Spelling}
use Rattle.normaliser.specs.declared.spelling.Spelling.TheVariants as S
use Rattle.normaliser.specs.declared.spelling.Run.{Run}
use Rattle.normaliser.specs.Stretches.{normal_style, Spells, between}

abbrev pub number_value : Number → F.Value
number_value (F64 x) = F.F64 x
number_value (Lookup x) = F.Lookup x

-- ---- what follows an id

-- a number of w bytes below m stands at p, up to the place that is answered
abbrev pub Below : ℕ → ℕ → List ℕ → ℕ → Option Spelling → Type 0
Below m w s p (Some (S.Stands q)) = (x : ℕ) × (x < m) × (at (num w) s p ≡ found x q)
Below m w s p (Some (S.Number q x)) = ⊥
Below m w s p None = Unit {0}

-- what f reads
abbrev pub Within : {A : Type 0} → Reader A → List ℕ → ℕ → Option Spelling → Type 0
Within {A} f s p (Some (S.Stands q)) = (a : A) × (at f s p ≡ found a q)
Within f s p (Some (S.Number q x)) = ⊥
Within f s p None = Unit {0}

-- a number that was found, as a float
abbrev pub Floats : Answer ℕ → Option Spelling → Type 0
Floats a (Some (S.Stands q)) = ⊥
Floats a (Some (S.Number q (F64 x))) = a ≡ found x q
Floats a (Some (S.Number q (Lookup x))) = ⊥
Floats a None = Unit {0}

-- or as a lookup that can be written
abbrev pub Indexes : Answer ℕ → Option Spelling → Type 0
Indexes a (Some (S.Stands q)) = ⊥
Indexes a (Some (S.Number q (F64 x))) = ⊥
Indexes a (Some (S.Number q (Lookup x))) = (x < 2 ^ 24) × (a ≡ found x q)
Indexes a None = Unit {0}

-- ---- a token

-- the token from p up to q is spelled bs
abbrev pub SpeltToken : List ℕ → ℕ → ℕ → List ℕ → Type 0
SpeltToken s p q bs = (p < q) × Spells normal_style s p q bs

-- the token at p is spelled so
abbrev pub Spelt : List ℕ → ℕ → Option Spelling → Type 0
Spelt s p (Some (S.Stands q)) = SpeltToken s p q (between s p q)
Spelt s p (Some (S.Number q x)) = SpeltToken s p q (spell (number_value x))
Spelt s p None = Unit {0}

-- and so is one whose id i ends at q
abbrev pub SpeltAfter : ℕ → List ℕ → ℕ → Option Spelling → Type 0
SpeltAfter i s q r = (p : ℕ) → at (num 2) s p ≡ found i q → Spelt s p r

-- ---- a run: the tokens from p up to e stand as they are spelled

abbrev pub Stand : List ℕ → ℕ → ℕ → Type 0
Stand s p e = Spells normal_style s p e (between s p e)

-- the number that is told is the token after them
abbrev pub Numbered : List ℕ → ℕ → Option (Number × ℕ) → Type 0
Numbered s e (Some x) = SpeltToken s e x.1 (spell (number_value x.0))
Numbered s e None = Unit {0}

abbrev pub Ran : List ℕ → ℕ → Run → Type 0
Ran s p r = Stand s p r.end × Numbered s r.end r.next
