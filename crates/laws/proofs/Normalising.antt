-- When a save is normalised: exactly when it is clean and there is room. And when it is shortened: exactly when it is no longer than the
-- limit, reads to its end, and there is room. Assumes nothing.
use Prim.Native.Nat.{ℕ, zero, suc, ◌+◌, ◌≤◌}
use mathlib.Core.Path.{◌≡◌, refl, ◌∙◌}
use mathlib.Core.Bool.{Bool, true, false, not, ◌&&◌}
use mathlib.Core.Option.{Option, none, some}
use mathlib.Core.List.{List, [], ◌∷◌}
use lib.ListN.{length, drop}
use lib.Dec.{T, leb}
use borrow.Author.Tests.{le-leb, leb-true}
use Rattle.form.specs.Numbers.{pick, Bytes}
use Rattle.form.specs.Values.{Value}
use Rattle.form.specs.Refusals.{Refusal, NoRoom, TooLong}
use Rattle.form.specs.Readers.{Answer, found, refused}
use Rattle.form.specs.Reading.{token}
use Rattle.form.specs.Spelling.{reason, wide}
use Rattle.form.specs.Shortest.{short_reason}
use Rattle.form.specs.Saves.{Walk, done, cut, then, step, walk_f, walk, values, whole, tokens, normal, shortened, all_narrow, LIMIT, Clean}
use Rattle.form.specs.Writing.{written, unwritten, fitted, first, first_refusal, unless, for_save, normalise, shorten}
use Rattle.laws.proofs.Never.{never}
use Rattle.laws.proofs.LittleEndian.{drop-bytes}
use Rattle.laws.proofs.Found.{All}
use Rattle.laws.proofs.Least.{Short, token-short}
use Rattle.laws.proofs.Reasons.{writable-none, none-narrow}
use Rattle.laws.proofs.Normal.{Spellable, clean-kept}
use Rattle.laws.proofs.SpelledAnew.{Each}

-- ---- a save, by what says why a token cannot be written, and by its bytes bs

-- it reads to its end where nothing is refused
free-whole : (why : ℕ → Value → Option Refusal) (w : Walk) → first_refusal why w ≡ none → T (whole w)
unfolding first_refusal whole
free-whole why done e = tt
free-whole why (cut r) e = never (cc)
free-whole why (then p k v w) e = go (why p v) e (free-whole why w)
  where
    go : (o : Option Refusal) → first o (first_refusal why w) ≡ none → (first_refusal why w ≡ none → T (whole w)) → T (whole w)
    go (some r) q k = never (cc)
    go none q k = k q

-- what is written
record Written (why : ℕ → Value → Option Refusal) (room : ℕ) (s bs cs : List ℕ) : Type 0 where
  limit : length s ≤ LIMIT
  free : first_refusal why (walk s) ≡ none
  is : cs ≡ bs
  fits : length bs ≤ room

save-written : (why : ℕ → Value → Option Refusal) (room : ℕ) (s bs : List ℕ) {cs : List ℕ} → for_save why bs room s ≡ written cs → Written why room s bs cs
unfolding fitted unless
save-written why room s bs {cs} e = limited (leb (length s) LIMIT) refl e
  where
    roomy : (t : Bool) → leb (length bs) room ≡ t → pick t (written bs) (unwritten (NoRoom (length bs))) ≡ written cs → (cs ≡ bs) × (length bs ≤ room)
    roomy true q d = (cc, leb-true _ _ q)
    roomy false q d = never (cc)

    read : length s ≤ LIMIT → (o : Option Refusal) → first_refusal why (walk s) ≡ o → unless o (fitted room bs) ≡ written cs → Written why room s bs cs
    read l none q d = let k = roomy (leb (length bs) room) refl d in record { limit = l; free = q; is = k.0; fits = k.1 }
    read l (some r) q d = never (cc)

    limited : (t : Bool) → leb (length s) LIMIT ≡ t → pick t (unless (first_refusal why (walk s)) (fitted room bs)) (unwritten (TooLong (length s))) ≡ written cs
        → Written why room s bs cs
    limited true q d = read (leb-true _ _ q) (first_refusal why (walk s)) refl d
    limited false q d = never (cc)

-- ---- normalised

-- a save has no refusal exactly when it reads to its end and each token can be written
unrefused : (w : Walk) → T (whole w) → Each Spellable (values w) → first_refusal reason w ≡ none
unfolding first_refusal whole values
unrefused done h e = refl
unrefused (cut r) h e = absurd h
unrefused (then p k v w) h e = rw (writable-none p v e.0.1) (unrefused w h e.1)

pub refusal-free : (w : Walk) → first_refusal reason w ≡ none → T (whole w) × T (all_narrow (values w))
unfolding first_refusal whole values all_narrow
refusal-free done e = (tt, tt)
refusal-free (cut r) e = never (cc)
refusal-free (then p k v w) e = go (reason p v) refl e (refusal-free w)
  where
    go : (o : Option Refusal) → reason p v ≡ o → first o (first_refusal reason w) ≡ none → (first_refusal reason w ≡ none → T (whole w) × T (all_narrow (values w)))
        → T (whole w) × T (not (wide v) && all_narrow (values w))
    go (some r) h q k = never (cc)
    go none h q k = rw (none-narrow p v h) (k q)

-- a clean save is written in normal form, where there is room
pub clean-normalises : {s : List ℕ} → Clean s → (room : ℕ) → normalise room s ≡ fitted room (normal s)
unfolding normalise unless tokens
clean-normalises {s} c room = rw (le-leb (length s) LIMIT c.limit, unrefused (walk s) c.ends (clean-kept c).0)

pub clean-fits : {s : List ℕ} → Clean s → (room : ℕ) → length (normal s) ≤ room → normalise room s ≡ written (normal s)
unfolding fitted
clean-fits {s} c room h = clean-normalises c room ∙ rw (le-leb (length (normal s)) room h)

-- and what is written is the normal form of a clean save, with room for it
pub record Normalised (room : ℕ) (s bs : List ℕ) : Type 0 where
  pub clean : Clean s
  pub is : bs ≡ normal s
  pub fits : length (normal s) ≤ room

pub normalised : {room : ℕ} {s bs : List ℕ} → Bytes s → normalise room s ≡ written bs → Normalised room s bs
unfolding normalise tokens
normalised {room} {s} b e =
    let w = save-written reason room s (normal s) e in
    let k = refusal-free (walk s) w.free in
    record { clean = record { limit = w.limit; bytes = b; ends = k.0; narrow = k.1 }; is = w.is; fits = w.fits }

-- ---- shortened

-- what is read has a shortest spelling
short-unrefused : (k p : ℕ) (s : List ℕ) → Bytes s → T (whole (walk_f k p s)) → first_refusal short_reason (walk_f k p s) ≡ none
unfolding first_refusal whole walk_f step
short-unrefused zero p s b h = refl
short-unrefused (suc k) p [] b h = refl
short-unrefused (suc k) p (x ∷ s) b h =
    go (token (x ∷ s)) (token-short (x ∷ s) b) h (λ n. short-unrefused k (p + n) (drop n (x ∷ s)) (drop-bytes n (x ∷ s) b))
  where
    left : ℕ → Walk
    left n = walk_f k (p + n) (drop n (x ∷ s))

    go : (a : Answer Value) → All (Short (x ∷ s)) a → T (whole (step p a left)) → ((n : ℕ) → T (whole (left n)) → first_refusal short_reason (left n) ≡ none)
        → first_refusal short_reason (step p a left) ≡ none
    go (found v n) r h ih = rw (r.can p) (ih n h)
    go (refused why) r h ih = absurd h

-- a save that reads to its end is written in its shortest spelling, where there is room
pub whole-fits : (s : List ℕ) → length s ≤ LIMIT → Bytes s → T (whole (walk s)) → (room : ℕ) → length (shortened s) ≤ room → shorten room s ≡ written (shortened s)
unfolding shorten unless fitted walk
whole-fits s l b w room h = rw (le-leb (length s) LIMIT l, short-unrefused (length s) 0 s b w, le-leb (length (shortened s)) room h)

-- and nothing else is
pub record Shortened (room : ℕ) (s bs : List ℕ) : Type 0 where
  pub limit : length s ≤ LIMIT
  pub ends : T (whole (walk s))
  pub is : bs ≡ shortened s
  pub fits : length (shortened s) ≤ room

pub shortened-whole : {room : ℕ} {s bs : List ℕ} → shorten room s ≡ written bs → Shortened room s bs
unfolding shorten
shortened-whole {room} {s} e =
    let w = save-written short_reason room s (shortened s) e in
    record { limit = w.limit; ends = free-whole short_reason (walk s) w.free; is = w.is; fits = w.fits }
