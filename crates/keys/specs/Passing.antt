-- No public promise goes through this file. What the walk for a key goes by, of the token at a place.
use Rattle.std.specs.Prelude.{ℕ, ◌<◌, ◌≡◌, Bool, ◌&&◌, List, eqb, Result, Ok, Err}
use Rattle.std.proofs.Math.Option.{Option, none, some}
use Rattle.form.specs.Values as F
use Rattle.form.specs.Values.{Value, kind}
use Rattle.form.specs.Readers.{Answer, found, refused, at}
use Rattle.form.specs.Table.{after}
use Rattle.form.specs.Reading.{next, string, payload}
use Rattle.form.specs.Keys.{ahead, makes_key}
use Rattle.form.specs.Saves.{from}
use Rattle.payload.specs.Answers.{fault_of}
use Rattle.payload.specs.declared.answers.LexError.{LexError}
use Rattle.keys.specs.declared.Passed.{Passed}
use Rattle.keys.specs.declared.Passed.TheVariants.{Open, Close, Equal, Plain, Other}

-- what follows an id: so many bytes, or a text
abbrev pub stood : Option ℕ → List ℕ → ℕ → Answer (List ℕ)
stood none s p = at string s p
stood (some w) s p = at (next w) s p

-- where that ends, or what is wrong with it
abbrev pub Ends : Answer (List ℕ) → Result (Passed × ℕ) LexError → Type 0
Ends a (Ok (Open, n)) = ⊥
Ends a (Ok (Close, n)) = ⊥
Ends a (Ok (Equal, n)) = ⊥
Ends a (Ok (Plain i, n)) = ⊥
Ends a (Ok (Other, n)) = (t : List ℕ) × (a ≡ found t n)
Ends a (Err e) = a ≡ refused (fault_of e)

pub record Past (o : Option ℕ) (s : List ℕ) (p : ℕ) (r : Result (Passed × ℕ) LexError) : Type 0 where
  pub is : Ends (stood o s p) r

-- the token that a reading gives: any other is no end of a container, not Equal, and no id
abbrev pub Tells : Answer Value → Result (Passed × ℕ) LexError → Type 0
Tells a (Ok (Open, n)) = a ≡ found F.Open n
Tells a (Ok (Close, n)) = a ≡ found F.Close n
Tells a (Ok (Equal, n)) = a ≡ found F.Equal n
Tells a (Ok (Plain i, n)) = a ≡ found (F.Id i.0) n
Tells a (Ok (Other, n)) = (v : Value) × (2 < kind v) × (kind v < 14) × (a ≡ found v n)
Tells a (Err e) = a ≡ refused (fault_of e)

pub record Told (a : Answer Value) (r : Result (Passed × ℕ) LexError) : Type 0 where
  pub is : Tells a r

-- the same of the token whose id i stands before place p
pub record ToldAfter (i : ℕ) (s : List ℕ) (p : ℕ) (r : Result (Passed × ℕ) LexError) : Type 0 where
  pub is : Tells (at (payload (after i)) s p) r

-- the token at place p
unfoldable pub ahead_at : List ℕ → ℕ → Option Value
ahead_at s p = ahead (from s p)

-- what is asked of a token that is wanted or not, directly after an Equal or not, at depth d, and that ends at place p
unfoldable pub asked : Bool → Bool → ℕ → List ℕ → ℕ → Bool
asked b e d s p = b && (eqb d 0 && makes_key e (ahead_at s p))
