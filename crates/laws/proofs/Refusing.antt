-- Why a save is refused: for what it holds, and of what the writer refuses for a wide lookup alone. Assumes nothing.
use Prim.Native.Nat.{ℕ, zero, suc, ◌+◌, ◌≤◌}
use native.Mathlib.Omega.{arith}
use mathlib.Core.Path.{◌≡◌, refl, sym, ap, ◌∙◌, subst}
use mathlib.Core.Bool.{Bool, true, false}
use mathlib.Core.Option.{Option, none, some}
use mathlib.Core.List.{List, [], ◌∷◌}
use mathlib.Core.Logic.{◌⊎◌, inl, inr, ⊎_elim}
use lib.ListN.{length, drop, length-drop}
use lib.Dec.{leb}
use Rattle.form.specs.Numbers.{pick, Bytes}
use Rattle.form.specs.Values.{Value}
use Rattle.form.specs.Refusals.{Refusal, Eof, InvalidRgb, LongString, WideLookup, ReservedId, NoRoom, BufferTooSmall, ReadFailed, BadPlace, TooLong, ListFull, BadIndex, refusal_value, refusal_values, Fault, too_short, bad_colour, refusal_at}
use Rattle.form.specs.Readers.{Answer, found, refused}
use Rattle.form.specs.Reading.{token}
use Rattle.form.specs.Spelling.{reason, wide}
use Rattle.form.specs.Saves.{step, walk_f, from, walk, normal, LIMIT}
use Rattle.form.specs.Finding.{cut_by}
use Rattle.form.specs.Writing.{written, unwritten, fitted, first, first_refusal, unless, normalise}
use Rattle.laws.proofs.Never.{never}
use Rattle.laws.proofs.LittleEndian.{drop-bytes}
use Rattle.laws.proofs.Found.{All, Within, token-in}
use Rattle.laws.proofs.Reasons.{only-wide}
use Rattle.laws.proofs.Sound.{Sound, token-sound}

-- for what it holds, at a place of it: never for its length, or for want of room; never for a long string or a reserved id
abbrev pub OfSave : ℕ → Refusal → Type 0
OfSave n (Eof p m) = p ≤ n
OfSave n (InvalidRgb p) = p ≤ n
OfSave n (LongString p) = ⊥
OfSave n (WideLookup p) = p ≤ n
OfSave n (ReservedId p) = ⊥
OfSave n (NoRoom m) = ⊥
OfSave n (BufferTooSmall p) = ⊥
OfSave n (ReadFailed p) = ⊥
OfSave n (BadPlace p) = ⊥
OfSave n (TooLong m) = ⊥
OfSave n (ListFull m) = ⊥
OfSave n BadIndex = ⊥

refused-there : (n k p : ℕ) (s : List ℕ) (r : Refusal) → Bytes s → p + length s ≤ n → first_refusal reason (walk_f k p s) ≡ some r → OfSave n r
unfolding first_refusal walk_f step refusal_at
refused-there n zero p s r h l e = never (cc)
refused-there n (suc k) p [] r h l e = never (cc)
refused-there n (suc k) p (b ∷ s) r h l e =
    go (token (b ∷ s)) (token-sound (b ∷ s) h) e
    (λ m q. refused-there n k (p + m) (drop m (b ∷ s)) r (drop-bytes m (b ∷ s) h) (rw length-drop (omega arith)))
  where
    is : (x : Refusal) → some x ≡ some r → OfSave n x → OfSave n r
    is x q o = let y : x ≡ r = cc in subst (OfSave n) y o

    go : (a : Answer Value) → All (Sound (b ∷ s)) a → first_refusal reason (step p a (λ m. walk_f k (p + m) (drop m (b ∷ s)))) ≡ some r
        → ((m : ℕ) → m ≤ length (b ∷ s) → first_refusal reason (walk_f k (p + m) (drop m (b ∷ s))) ≡ some r → OfSave n r) → OfSave n r
    go (found v m) x q ih = either (wide v) (rw (only-wide p v x.can) at q)
      where
        either : (t : Bool) → first (pick t (some (WideLookup p)) none) (first_refusal reason (walk_f k (p + m) (drop m (b ∷ s)))) ≡ some r → OfSave n r
        either true q = is (WideLookup p) q (omega arith)
        either false q = ih m x.there q
    go (refused (too_short m)) x q ih = is (Eof p m) q (omega arith)
    go (refused bad_colour) x q ih = is (InvalidRgb p) q (omega arith)

pub save-refusal : (s : List ℕ) (r : Refusal) → Bytes s → first_refusal reason (walk s) ≡ some r → OfSave (length s) r
unfolding walk
save-refusal s r h e = refused-there (length s) (length s) 0 s r h (omega arith) e

-- the normaliser's refusal, for every input and every room: one of the save, for want of room, or for its length
abbrev pub OfNormaliser : List ℕ → Refusal → Type 0
OfNormaliser s r = OfSave (length s) r ⊎ (r ≡ NoRoom (length (normal s))) ⊎ (r ≡ TooLong (length s))

pub normaliser-refusal : (room : ℕ) (s : List ℕ) (r : Refusal) → Bytes s → normalise room s ≡ unwritten r → OfNormaliser s r
unfolding normalise unless fitted
normaliser-refusal room s r b e = limited (leb (length s) LIMIT) e
  where
    roomy : (t : Bool) → pick t (written (normal s)) (unwritten (NoRoom (length (normal s)))) ≡ unwritten r → OfNormaliser s r
    roomy true q = never (cc)
    roomy false q = inr (inl (cc))

    held : (o : Option Refusal) → first_refusal reason (walk s) ≡ o → unless o (fitted room (normal s)) ≡ unwritten r → OfNormaliser s r
    held none h q = roomy (leb (length (normal s)) room) q
    held (some x) h q = let y : x ≡ r = cc in inl (subst (OfSave (length s)) y (save-refusal s x b h))

    limited : (t : Bool) → pick t (unless (first_refusal reason (walk s)) (fitted room (normal s))) (unwritten (TooLong (length s))) ≡ unwritten r → OfNormaliser s r
    limited true q = held (first_refusal reason (walk s)) refl q
    limited false q = inr (inr (cc))

-- so no long string and no reserved id comes from it
pub never-long : (room : ℕ) (s : List ℕ) (p : ℕ) → Bytes s → normalise room s ≡ unwritten (LongString p) → ⊥
never-long room s p b e = ⊎_elim (λ h. h) (⊎_elim (λ h. never (cc)) (λ h. never (cc))) (normaliser-refusal room s (LongString p) b e)

pub never-reserved : (room : ℕ) (s : List ℕ) (p : ℕ) → Bytes s → normalise room s ≡ unwritten (ReservedId p) → ⊥
never-reserved room s p b e = ⊎_elim (λ h. h) (⊎_elim (λ h. never (cc)) (λ h. never (cc))) (normaliser-refusal room s (ReservedId p) b e)

-- ---- where a walk is cut

-- the position of a fault's refusal
value-at : (p : ℕ) (e : Fault) → refusal_value (refusal_at p e) ≡ p
unfolding refusal_at refusal_value refusal_values
value-at p (too_short m) = refl
value-at p bad_colour = refl

cut-there : (n k p : ℕ) (s : List ℕ) (q : ℕ) (e : Fault) → p + length s ≤ n → cut_by (walk_f k p s) ≡ some (refusal_at q e) → q ≤ n
unfolding cut_by walk_f step
cut-there n zero p s q e l h = never (cc)
cut-there n (suc k) p [] q e l h = never (cc)
cut-there n (suc k) p (b ∷ s) q e l h =
    go (token (b ∷ s)) (token-in (b ∷ s)) (λ m w. cut-there n k (p + m) (drop m (b ∷ s)) q e (rw length-drop (omega (arith, w.there)))) h
  where
    go : (a : Answer Value) → All (λ _ m. Within (b ∷ s) m) a
        → ((m : ℕ) → Within (b ∷ s) m → cut_by (walk_f k (p + m) (drop m (b ∷ s))) ≡ some (refusal_at q e) → q ≤ n)
        → cut_by (step p a (λ m. walk_f k (p + m) (drop m (b ∷ s)))) ≡ some (refusal_at q e) → q ≤ n
    go (found v m) w ih h = ih m w h
    go (refused f) w ih h =
        let z : refusal_at p f ≡ refusal_at q e = cc in
        let y : p ≡ q = sym (value-at p f) ∙ ap refusal_value z ∙ value-at q e in
        omega arith

-- the one from a place of the bytes is cut at a place of them
pub cut_inside : (s : List ℕ) (p q : ℕ) (e : Fault) → p ≤ length s → cut_by (from s p) ≡ some (refusal_at q e) → q ≤ length s
unfolding from
cut_inside s p q e l h = cut-there (length s) (length s) p (drop p s) q e (rw length-drop (omega arith)) h
