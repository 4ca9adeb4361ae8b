-- No public promise goes through this file. What a rescue goes by, of the token at a place.
use Rattle.std.specs.Prelude.{ℕ, ◌≤◌, ◌≡◌, List, Option, None, Some}
use Rattle.form.specs.Values as F
use Rattle.form.specs.Values.{Value, kind}
use Rattle.form.specs.Table.{Payload, number, text, colour}
use Rattle.form.specs.Refusals.{Fault}
use Rattle.form.specs.Readers.{Answer, found, refused, at}
use Rattle.form.specs.Reading.{payload}
use Rattle.normaliser.specs.declared.telling.Extent.{Extent}
use Rattle.normaliser.specs.declared.telling.Extent.TheVariants.{Bytes, Text, Colour}
use Rattle.normaliser.specs.declared.telling.Passed.{Passed}
use Rattle.normaliser.specs.declared.telling.Passed.TheVariants.{Open, Close, Other}

-- what follows an id
abbrev pub span_of : Payload → Extent
span_of (number w f) = Bytes w
span_of (text f) = Text
span_of colour = Colour

-- it was read up to a place, or refused
abbrev pub Ends : {A : Type 0} → Answer A → Option ℕ → Type 0
Ends {A} a (Some n) = (t : A) × (a ≡ found t n)
Ends a None = (why : Fault) × (a ≡ refused why)

pub record Past {A : Type 0} (a : Answer A) (r : Option ℕ) : Type 0 where
  pub is : Ends a r

-- a payload of that extent ends there
abbrev pub After : Extent → List ℕ → ℕ → Option ℕ → Type 0
After e s p r = (q : Payload) → e ≡ span_of q → Past (at (payload q) s p) r

-- the token that a reading gives: any other is neither end of a container
abbrev pub TellsToken : Answer Value → Passed → ℕ → Type 0
TellsToken a Open n = a ≡ found F.Open n
TellsToken a Close n = a ≡ found F.Close n
TellsToken a Other n = (v : Value) × (2 ≤ kind v) × (a ≡ found v n)

abbrev pub Tells : Answer Value → Option (Passed × ℕ) → Type 0
Tells a (Some x) = TellsToken a x.0 x.1
Tells a None = (why : Fault) × (a ≡ refused why)

pub record Told (a : Answer Value) (r : Option (Passed × ℕ)) : Type 0 where
  pub is : Tells a r
