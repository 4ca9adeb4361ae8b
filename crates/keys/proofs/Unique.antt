-- Any two results that the promise allows are equal: a key's token tells where it ends, and a refusal its fault and its place. Assumes nothing.
use Prim.Native.Nat.{ℕ}
use mathlib.Core.Path.{◌≡◌, refl, sym, ap, ◌∙◌}
use mathlib.Core.Bool.{Bool}
use mathlib.Core.Option.{Option, none, some}
use mathlib.Core.List.{List, [], ◌∷◌}
use Rattle.form.specs.Values.{Value}
use Rattle.form.specs.Refusals.{Refusal, refusal_at, refusal_number, refusal_value, refusal_values}
use Rattle.form.specs.Readers.{Answer, found, refused, at}
use Rattle.form.specs.Reading.{token}
use Rattle.laws.proofs.Never.{never}
use Rattle.laws.proofs.Unique.{eof_or_number}
use Rattle.std.specs.Prelude.{Result, Ok, Err, Option as MayBe, Some, None}
use Rattle.payload.specs.declared.answers.LexError.{LexError}
use Rattle.payload.specs.declared.answers.LexError.TheVariants.{Eof, InvalidRgb}
use Rattle.payload.specs.Answers.{fault_of, refusal_of}
use Rattle.payload.specs.declared.answers.LexErrorAt.{LexErrorAt}
use Rattle.keys.specs.declared.Key.{Key}
use Rattle.keys.specs.Seeking.{FirstAt, Nexts, NextKey}

-- the answer for a refusal
abbrev Next : Type 0
Next = Result (MayBe Key) LexErrorAt

abbrev refused_back : Option Refusal → Next
refused_back none = Ok None
refused_back (some r) = eof_or_number (λ p m. Err (record { at = p; kind = Eof m })) [] (λ p. Err (record { at = p; kind = InvalidRgb })) r

refused-back : (e : LexErrorAt) → refused_back (some (refusal_of e)) ≡ Err e
unfolding refusal_at refusal_number refusal_value refusal_values
refused-back e = go e.kind
  where
    go : (k : LexError) → refused_back (some (refusal_at e.at (fault_of k))) ≡ Err (record { at = e.at; kind = k })
    go (Eof m) = refl
    go InvalidRgb = refl

-- where a reading ends
abbrev end_of : Answer Value → ℕ
end_of (found v n) = n
end_of (refused e) = 0

-- where the first of some keys stands
abbrev first_of : List (ℕ × Value) → ℕ
first_of [] = 0
first_of ((p, v) ∷ l) = p

module _ (t : Value → Bool) (s : List ℕ) (p : ℕ) where
  pub next-key-one : (r r' : Next) → NextKey t s p r → NextKey t s p r' → r ≡ r'
  next-key-one r r' x y = go r r' x.is y.is
    where
      key_one : (k k' : Key) (v v' : Value) → FirstAt t s p k.at k.end v → FirstAt t s p k'.at k'.end v' → k ≡ k'
      key_one k k' v v' f g =
          let z : k.at ≡ k'.at = ap first_of (sym f.keys ∙ g.keys) in
          let w : k.end ≡ k'.end = ap end_of (sym f.token ∙ ap (at token s) z ∙ g.token) in
          let same : k ≡ record { at = k'.at; end = k.end } = ap (λ (a : ℕ). record { at = a; end = k.end }) z in
          same ∙ ap (λ (e : ℕ). record { at = k'.at; end = e }) w

      go : (r r' : Next) → Nexts t s p r → Nexts t s p r' → r ≡ r'
      go (Ok (Some k)) (Ok (Some k')) (v, f) (v', g) = ap (λ k. Ok (Some k)) (key_one k k' v v' f g)
      go (Ok (Some k)) (Ok None) (v, f) (a, b) = let z = sym f.keys ∙ a in never (cc)
      go (Ok (Some k)) (Err e) (v, f) (a, b) = let z = sym f.keys ∙ a in never (cc)
      go (Ok None) (Ok (Some k)) (a, b) (v, f) = let z = sym f.keys ∙ a in never (cc)
      go (Err e) (Ok (Some k)) (a, b) (v, f) = let z = sym f.keys ∙ a in never (cc)
      go (Ok None) (Ok None) h g = refl
      go (Ok None) (Err e) h g = ap refused_back (sym h.1 ∙ g.1) ∙ refused-back e
      go (Err e) (Ok None) h g = sym (ap refused_back (sym g.1 ∙ h.1) ∙ refused-back e)
      go (Err e) (Err e') h g = sym (refused-back e) ∙ ap refused_back (sym h.1 ∙ g.1) ∙ refused-back e'
