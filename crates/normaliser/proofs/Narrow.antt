-- A save that is shortened is never refused for a wide lookup, since every lookup has a shortest spelling. Assumes nothing.
use Prim.Native.Nat.{ℕ, zero, suc, ◌+◌}
use mathlib.Core.Path.{◌≡◌, refl, sym, ap, ◌∙◌}
use mathlib.Core.Bool.{Bool, true, false}
use mathlib.Core.Option.{Option, none, some}
use mathlib.Core.List.{List, [], ◌∷◌}
use lib.ListN.{length, drop}
use lib.Dec.{leb, ltb}
use Rattle.std.specs.Prelude.{Result, Err}
use Rattle.form.specs.Numbers.{pick}
use Rattle.form.specs.Values as F
use Rattle.form.specs.Values.{kind}
use Rattle.form.specs.Table.{reserved}
use Rattle.form.specs.Refusals as R
use Rattle.form.specs.Refusals.{too_short, bad_colour, refusal_at}
use Rattle.form.specs.Readers.{Answer, found, refused}
use Rattle.form.specs.Reading.{token}
use Rattle.form.specs.Spelling.{reason}
use Rattle.form.specs.Shortest.{short_reason}
use Rattle.form.specs.Saves.{step, walk_f, walk, shortened, LIMIT}
use Rattle.form.specs.Writing.{written, unwritten, declined, outcome, Follows, fitted, first, first_refusal, unless, shorten}
use Rattle.laws.proofs.Never.{never}
use Rattle.normaliser.specs.declared.NormalError.{NormalError}
use Rattle.normaliser.specs.declared.NormalError.TheVariants.{WideLookup}
use Rattle.normaliser.specs.Answers.{normalised_outcome}

-- ---- a token

long : (p q : ℕ) (t : Bool) → pick t none (some (R.LongString p)) ≡ some (R.WideLookup q) → ⊥
long p q true e = never (cc)
long p q false e = never (cc)

held_back : (p q : ℕ) (t : Bool) → pick t (some (R.ReservedId p)) none ≡ some (R.WideLookup q) → ⊥
held_back p q true e = never (cc)
held_back p q false e = never (cc)

narrow-reason : (p q : ℕ) (v : F.Value) → short_reason p v ≡ some (R.WideLookup q) → ⊥
unfolding short_reason reason kind
narrow-reason p q F.Open e = never (cc)
narrow-reason p q F.Close e = never (cc)
narrow-reason p q F.Equal e = never (cc)
narrow-reason p q (F.U32 n) e = never (cc)
narrow-reason p q (F.U64 n) e = never (cc)
narrow-reason p q (F.F32 n) e = never (cc)
narrow-reason p q (F.F64 n) e = never (cc)
narrow-reason p q (F.Lookup n) e = never (cc)
narrow-reason p q (F.Id i) e = held_back p q (reserved i) e
narrow-reason p q (F.I32 z) e = never (cc)
narrow-reason p q (F.I64 z) e = never (cc)
narrow-reason p q (F.Truth b) e = never (cc)
narrow-reason p q (F.Quoted t) e = long p q (ltb (length t) 65536) e
narrow-reason p q (F.Unquoted t) e = long p q (ltb (length t) 65536) e
narrow-reason p q (F.Rgb r g b a) e = never (cc)

-- ---- a save

module _ (q : ℕ) where
  either : (p : ℕ) (v : F.Value) (rest o : Option R.Refusal) → short_reason p v ≡ o → first o rest ≡ some (R.WideLookup q) → (rest ≡ some (R.WideLookup q) → ⊥) → ⊥
  either p v rest none h e ih = ih e
  either p v rest (some r) h e ih = let k : r ≡ R.WideLookup q = cc in narrow-reason p q v (h ∙ ap some k)

  narrow-there : (k p : ℕ) (s : List ℕ) → first_refusal short_reason (walk_f k p s) ≡ some (R.WideLookup q) → ⊥
  unfolding first_refusal walk_f step refusal_at
  narrow-there zero p s e = never (cc)
  narrow-there (suc k) p [] e = never (cc)
  narrow-there (suc k) p (b ∷ s) e = go (token (b ∷ s)) e (λ m. narrow-there k (p + m) (drop m (b ∷ s)))
    where
      go : (a : Answer F.Value) → first_refusal short_reason (step p a (λ m. walk_f k (p + m) (drop m (b ∷ s)))) ≡ some (R.WideLookup q)
          → ((m : ℕ) → first_refusal short_reason (walk_f k (p + m) (drop m (b ∷ s))) ≡ some (R.WideLookup q) → ⊥) → ⊥
      go (found v m) e ih = either p v (first_refusal short_reason (walk_f k (p + m) (drop m (b ∷ s)))) (short_reason p v) refl e (ih m)
      go (refused (too_short m)) e ih = never (cc)
      go (refused bad_colour) e ih = never (cc)

  module _ (s : List ℕ) (room : ℕ) where
    roomy : (t : Bool) → declined (R.WideLookup q) ≡ outcome (pick t (written (shortened s)) (unwritten (R.NoRoom (length (shortened s))))) → ⊥
    unfolding outcome
    roomy true e = never (cc)
    roomy false e = never (cc)

    held : (o : Option R.Refusal) → first_refusal short_reason (walk s) ≡ o → declined (R.WideLookup q) ≡ outcome (unless o (fitted room (shortened s))) → ⊥
    unfolding outcome unless fitted walk
    held none h e = roomy (leb (length (shortened s)) room) e
    held (some r) h e = let k : r ≡ R.WideLookup q = cc in narrow-there (length s) 0 s (h ∙ ap some k)

    limited : (t : Bool)
        → declined (R.WideLookup q) ≡ outcome (pick t (unless (first_refusal short_reason (walk s)) (fitted room (shortened s))) (unwritten (R.TooLong (length s)))) → ⊥
    unfolding outcome
    limited true e = held (first_refusal short_reason (walk s)) refl e
    limited false e = never (cc)

-- whatever meets the promise of `shorten` answers no WideLookup
pub shorten-narrow : (s d : List ℕ) {d' : List ℕ} {r : Result ℕ NormalError} {q : ℕ} → Follows (shorten (length d) s) (normalised_outcome r) d d' → r ≡ Err (WideLookup q) → ⊥
unfolding shorten
shorten-narrow s d {q = q} f k = limited q s (length d) (leb (length s) LIMIT) (sym (ap normalised_outcome k) ∙ f.answer)
