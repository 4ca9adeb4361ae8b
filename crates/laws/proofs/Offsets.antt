-- What an offset changes: every position that a call reports grows by it, and nothing else. Assumes nothing.
use Prim.Native.Nat.{ℕ, zero, suc, ◌+◌, ◌≤◌}
use native.Mathlib.Omega.{arith}
use mathlib.Core.Path.{◌≡◌, refl, sym, ap, ◌∙◌}
use mathlib.Core.Bool.{Bool, true, false, ◌&&◌}
use mathlib.Core.Option.{Option, none, some}
use mathlib.Core.List.{List, [], ◌∷◌}
use lib.ListN.{length, drop}
use lib.Dec.{leb, eqb}
use Rattle.form.specs.Numbers.{pick, MAX}
use Rattle.form.specs.Values.{Value}
use Rattle.form.specs.Refusals.{Fault, too_short, bad_colour, Refusal, Eof, InvalidRgb, LongString, WideLookup, ReservedId, NoRoom, BufferTooSmall, ReadFailed, BadPlace, TooLong, ListFull, BadIndex, refusal_at}
use Rattle.form.specs.Readers.{Answer, found, refused, ByPlace}
use Rattle.form.specs.Reading.{token}
use Rattle.form.specs.Skipping.{Skip, past, stopped}
use Rattle.form.specs.Calls.{cursor_in, cursor_at, position_of, Call, gives, refuses, fits, within, positions, ended, reads, optional, nexts, if_found, peeks, landed, skips}
use Rattle.form.specs.Saves.{Walk, done, cut, then, step, walk_f, from}
use Rattle.form.specs.Keys.{Around, onward, ahead, is_key, those, keys_of}
use Rattle.form.specs.Finding.{is_plain, first_plain, cut_by, firstly, sought, staying, walk_at, finds}
use Rattle.laws.proofs.Cursors.{fits-true, le-fits, within-unfit}
use Rattle.laws.proofs.FirstKey.{first-kept}

-- ---- what grows by the offset o

-- the position of a refusal by what was read; no place, and no number of anything else
unfoldable pub grown : ℕ → Refusal → Refusal
grown o (Eof p m) = Eof (o + p) m
grown o (InvalidRgb p) = InvalidRgb (o + p)
grown o (LongString p) = LongString p
grown o (WideLookup p) = WideLookup p
grown o (ReservedId p) = ReservedId p
grown o (NoRoom n) = NoRoom n
grown o (BufferTooSmall p) = BufferTooSmall p
grown o (ReadFailed p) = ReadFailed p
grown o (BadPlace p) = BadPlace p
grown o (TooLong n) = TooLong n
grown o (ListFull n) = ListFull n
grown o BadIndex = BadIndex

-- a call's answer in a file where the input begins at o: its value passed through g, its cursor at the same place
unfoldable pub in_file : {A : Type 0} → ℕ → (A → A) → Call A → Call A
in_file o g (gives a c) = gives (g a) (cursor_in o c.at)
in_file o g (refuses r c) = refuses (grown o r) (cursor_in o c.at)

-- a value that is no position
unfoldable pub as_it_is : {A : Type 0} → A → A
as_it_is a = a

-- a position that may be none
unfoldable pub if_any : ℕ → Option ℕ → Option ℕ
if_any o none = none
if_any o (some p) = some (o + p)

pub grown-at : (o p : ℕ) (e : Fault) → refusal_at (o + p) e ≡ grown o (refusal_at p e)
unfolding refusal_at grown
grown-at o p (too_short m) = refl
grown-at o p bad_colour = refl

-- of a refusal at a place
grown-from : (o p n : ℕ) (e : Fault) → refusal_at (position_of (cursor_in o p) n) e ≡ grown o (refusal_at (position_of (cursor_at p) n) e)
grown-from o p n e = let z : 0 + n ≡ n = omega arith in rw z (grown-at o n e)

-- ---- the calls

module _ (s : List ℕ) (o p : ℕ) (h : fits s (cursor_in o p) ≡ true) where
  -- the offset 0 fits too
  fits-at : fits s (cursor_at p) ≡ true
  fits-at = le-fits s (cursor_at p) (omega (arith, fits-true s (cursor_in o p) h))

  within-file : {A : Type 0} (g : A → A) {x : Call A} (y : Call A) → x ≡ in_file o g y → within s (cursor_in o p) x ≡ in_file o g (within s (cursor_at p) y)
  unfolding within in_file grown
  within-file g {x} y e = rw (h, fits-at) (go (leb p (length s)))
    where
      go : (b : Bool) → pick b x (refuses (BadPlace p) (cursor_in o p)) ≡ in_file o g (pick b y (refuses (BadPlace p) (cursor_at p)))
      go true = e
      go false = refl

  -- one that gives a value of the input
  pub gives-in-file : {A : Type 0} (a : A) → within s (cursor_in o p) (gives a (cursor_in o p)) ≡ in_file o as_it_is (within s (cursor_at p) (gives a (cursor_at p)))
  unfolding in_file as_it_is
  gives-in-file a = within-file as_it_is (gives a (cursor_at p)) refl

  ended-file : {A : Type 0} (a : Answer A) → ended (cursor_in o p) a ≡ in_file o as_it_is (ended (cursor_at p) a)
  unfolding ended in_file as_it_is
  ended-file (found a n) = refl
  ended-file (refused e) = ap (λ (r : Refusal). refuses r (cursor_in o p)) (grown-from o p p e)

  landed-file : (x : Skip) → landed (cursor_in o p) x ≡ in_file o as_it_is (landed (cursor_at p) x)
  unfolding landed in_file as_it_is
  landed-file (past n) = refl
  landed-file (stopped e n) = ap (λ (r : Refusal). refuses r (cursor_in o n)) (grown-from o p n e)

  optional-file : {A : Type 0} (x : Call A) → optional (in_file o as_it_is x) ≡ in_file o as_it_is (optional x)
  unfolding optional in_file as_it_is
  optional-file (gives a c) = refl
  optional-file (refuses r c) = refl

  pub positions-in-file : positions s (cursor_in o p) ≡ in_file o (λ n. o + n) (positions s (cursor_at p))
  unfolding positions in_file
  positions-in-file = within-file (λ n. o + n) (gives (position_of (cursor_at p) p) (cursor_at p)) (let z : 0 + p ≡ p = omega arith in rw z)

  pub skips-in-file : (f : List ℕ → ℕ → Skip) → skips f s (cursor_in o p) ≡ in_file o as_it_is (skips f s (cursor_at p))
  unfolding skips
  skips-in-file f = within-file as_it_is _ (landed-file (f s p))

  module _ {A : Type 0} (f : ByPlace A) where
    pub reads-in-file : reads f s (cursor_in o p) ≡ in_file o as_it_is (reads f s (cursor_at p))
    unfolding reads
    reads-in-file = within-file as_it_is _ (ended-file (f s p))

    pub peeks-in-file : peeks f s (cursor_in o p) ≡ in_file o as_it_is (peeks f s (cursor_at p))
    unfolding peeks
    peeks-in-file = gives-in-file (if_found (f s p))

    pub nexts-in-file : nexts f s (cursor_in o p) ≡ in_file o as_it_is (nexts f s (cursor_at p))
    unfolding nexts in_file as_it_is
    nexts-in-file = within-file as_it_is _ (go (eqb p (length s)))
      where
        go : (b : Bool)
            → pick b (gives none (cursor_in o p)) (optional (ended (cursor_in o p) (f s p))) ≡ in_file o as_it_is (pick b (gives none (cursor_at p)) (optional (ended (cursor_at p) (f s p))))
        go true = refl
        go false = ap optional (ended-file (f s p)) ∙ optional-file (ended (cursor_at p) (f s p))

-- ---- a walk, and the key that is sought

unfoldable pub walk_in_file : ℕ → Walk → Walk
walk_in_file o done = done
walk_in_file o (cut r) = cut (grown o r)
walk_in_file o (then p n v w) = then (o + p) n v (walk_in_file o w)

step-in-file : (o p : ℕ) (a : Answer Value) (f g : ℕ → Walk) → ((n : ℕ) → f n ≡ walk_in_file o (g n)) → step (o + p) a f ≡ walk_in_file o (step p a g)
unfolding step walk_in_file
step-in-file o p (found v n) f g h = ap (then (o + p) n v) (h n)
step-in-file o p (refused e) f g h = ap cut (grown-at o p e)

walk-in-file : (o k p : ℕ) (s : List ℕ) → walk_f k (o + p) s ≡ walk_in_file o (walk_f k p s)
unfolding walk_f walk_in_file
walk-in-file o zero p s = refl
walk-in-file o (suc k) p [] = refl
walk-in-file o (suc k) p (b ∷ s) =
    step-in-file o p (token (b ∷ s)) _ _ (λ n.
    let z : o + p + n ≡ o + (p + n) = omega arith in
    rw z (walk-in-file o k (p + n) (drop n (b ∷ s))))

ahead-in-file : (o : ℕ) (w : Walk) → ahead (walk_in_file o w) ≡ ahead w
unfolding ahead walk_in_file
ahead-in-file o done = refl
ahead-in-file o (cut r) = refl
ahead-in-file o (then p n v w) = refl

key-in-file : (o : ℕ) (a : Around) (v : Value) (w : Walk) → is_key a v (walk_in_file o w) ≡ is_key a v w
unfolding is_key
key-in-file o a v w = rw (ahead-in-file o w)

first-in-file : (o i : ℕ) (a : Around) (w : Walk) → first_plain i (those is_key a (walk_in_file o w)) ≡ if_any o (first_plain i (those is_key a w))
unfolding those first_plain walk_in_file if_any
first-in-file o i a done = refl
first-in-file o i a (cut r) = refl
first-in-file o i a (then p n v w) =
    rw (first-kept i (is_key a v (walk_in_file o w)) (o + p) v (those is_key (onward v a) (walk_in_file o w)), first-kept i (is_key a v w) p v (those is_key (onward v a) w), key-in-file o a v w, first-in-file o i (onward v a) w)
    (go (is_key a v w && is_plain i v) (first_plain i (those is_key (onward v a) w)))
  where
    go : (b : Bool) (x : Option ℕ) → pick b (some (o + p)) (if_any o x) ≡ if_any o (pick b (some p) x)
    go true x = refl
    go false x = refl

cut_in_file : ℕ → Option Refusal → Option Refusal
cut_in_file o none = none
cut_in_file o (some r) = some (grown o r)

cut-in-file : (o : ℕ) (w : Walk) → cut_by (walk_in_file o w) ≡ cut_in_file o (cut_by w)
unfolding cut_by walk_in_file cut_in_file
cut-in-file o done = refl
cut-in-file o (cut r) = refl
cut-in-file o (then p n v w) = cut-in-file o w

staying-in-file : (o p : ℕ) (x : Option ℕ) (r : Option Refusal)
    → staying (cursor_in o p) (firstly (if_any o x) (cut_in_file o r)) ≡ in_file o (if_any o) (staying (cursor_at p) (firstly x r))
unfolding staying firstly in_file if_any cut_in_file
staying-in-file o p (some q) r = refl
staying-in-file o p none (some r) = refl
staying-in-file o p none none = refl

-- the walk from a cursor is the one from its place
pub walk_from_lem : (s : List ℕ) (o p : ℕ) → walk_at s (cursor_in o p) ≡ walk_in_file o (from s p)
unfolding walk_at from
walk_from_lem s o p = walk-in-file o (length s) p (drop p s)

-- with no offset it is the very same
walk_at_lem : (s : List ℕ) (p : ℕ) → walk_at s (cursor_at p) ≡ from s p
unfolding walk_at from
walk_at_lem s p = let z : 0 + p ≡ p = omega arith in rw z

-- what is sought from a cursor on
pub sought-in-file : (i : ℕ) (s : List ℕ) (o p : ℕ)
    → staying (cursor_in o p) (sought i (walk_at s (cursor_in o p))) ≡ in_file o (if_any o) (staying (cursor_at p) (sought i (from s p)))
unfolding sought keys_of
sought-in-file i s o p =
    rw (walk_from_lem s o p, first-in-file o i _ (from s p), cut-in-file o (from s p)) (staying-in-file o p (first_plain i (keys_of (from s p))) (cut_by (from s p)))

pub finds-in-file : (i : ℕ) (s : List ℕ) (o p : ℕ) → fits s (cursor_in o p) ≡ true → finds i s (cursor_in o p) ≡ in_file o (if_any o) (finds i s (cursor_at p))
unfolding finds
finds-in-file i s o p h =
    within-file s o p h (if_any o) _ (sought-in-file i s o p ∙ ap (λ (w : Walk). in_file o (if_any o) (staying (cursor_at p) (sought i w))) (sym (walk_at_lem s p)))

-- ---- at an offset that is too large, and at the offset 0

-- every call is refused with the offset
pub unfit-offset : (s : List ℕ) (o p : ℕ) → fits s (cursor_in o p) ≡ false → {A : Type 0} (x : Call A) → within s (cursor_in o p) x ≡ refuses (BadPlace o) (cursor_in o p)
unfit-offset s o p h x = within-unfit s (cursor_in o p) h x

-- a call asks for the cursor's place alone, and a place is its position: as if there were no offset
pub no-offset : (s : List ℕ) (p : ℕ) → length s ≤ MAX → {A : Type 0} (x : Call A)
    → (within s (cursor_at p) x ≡ pick (leb p (length s)) x (refuses (BadPlace p) (cursor_at p))) × ((n : ℕ) → position_of (cursor_at p) n ≡ n)
unfolding within
no-offset s p h x = (rw (le-fits s (cursor_at p) (omega arith)), λ n. omega arith)
