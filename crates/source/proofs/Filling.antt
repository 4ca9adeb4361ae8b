-- What reads give: never more than there is room for or than is left, and one read after another. Assumes nothing.
use mathlib.Core.Path.{◌≡◌, refl, sym, ap, ◌∙◌}
use mathlib.Core.Bool.{Bool, true, false}
use mathlib.Core.List.{List, [], ◌∷◌}
use Prim.Native.Nat.{ℕ, suc, ◌+◌, ◌-◌, ◌≤◌, ◌<◌, min}
use native.Mathlib.Nat.{add-zero, add_assoc}
use native.Mathlib.Omega.{arith}
use lib.Dec.{eqb}
use lib.ListN.{length, take, drop, length-drop}
use lib.Seq.{sets, length-sets, drop-drop, take-add}
use borrow.Author.Tests.{eq-eqb, ne_eqb, eqb-true}
use Rattle.form.specs.Numbers.{pick}
use Rattle.laws.proofs.Runs.{part_length}
use Rattle.source.specs.declared.reads.Reads.{Reads}
use Rattle.source.specs.Reads.{FAILS, came, one, onward, fill}
use Rattle.std.specs.Prelude.{Some, None, slice_get}
use Rattle.laws.proofs.Never.{never}
use borrow.Rule.Slice.PartMut.{put_mid}
use Rattle.source.proofs.Stores.{sets_then, onwards, onwards-is, put_tail}

-- ---- one read, by the entry

pub one_past : (schedule : List ℕ) (room left : ℕ) → slice_get schedule 0 ≡ None → one room left schedule ≡ came (min room left) 0 false
unfolding one
one_past [] room left h = refl
one_past (e ∷ es) room left h = never (cc)

pub one_at : (schedule : List ℕ) (e room left : ℕ) → Some e ≡ slice_get schedule 0 → one room left schedule ≡ pick (eqb e FAILS) (came 0 1 true) (came (min e (min room left)) 1 false)
unfolding one
one_at [] e room left h = never (cc)
one_at (d ∷ es) e room left h = let k : d ≡ e = cc in rw k

-- ---- within room, supply and schedule

pub record Within (room left entries : ℕ) (r : Reads) : Type 0 where
  pub fits : r.got ≤ room
  pub there : r.got ≤ left
  pub lines : r.used ≤ entries

pub one-within : (room left : ℕ) (es : List ℕ) → Within room left (length es) (one room left es)
unfolding one
one-within room left [] = record { fits = omega arith; there = omega arith; lines = omega arith }
one-within room left (e ∷ es) = by (eqb e FAILS)
  where
    by : (b : Bool) → Within room left (suc (length es)) (pick b (came 0 1 true) (came (min e (min room left)) 1 false))
    by true = record { fits = omega arith; there = omega arith; lines = omega arith }
    by false = record { fits = omega arith; there = omega arith; lines = omega arith }

pub granted : (room left : ℕ) (es : List ℕ) (r : Reads) → r ≡ one room left es → Within room left (length es) r
granted room left es r e = rw e (one-within room left es)

-- a read, and then more within what it leaves
onward-within : (room left n : ℕ) (r more : Reads) → Within room left 1 r → Within (room - r.got) (left - r.got) n more → Within room left (suc n) (onward r more)
onward-within room left n r more w v = by (eqb r.got 0)
  where
    by : (b : Bool) → Within room left (suc n) (pick b r (came (r.got + more.got) (r.used + more.used) more.failed))
    by true = record { fits = w.fits; there = w.there; lines = omega arith }
    by false = record { fits = omega arith; there = omega arith; lines = omega arith }

one_line : (room left e : ℕ) (es : List ℕ) → (one room left (e ∷ es)).used ≡ 1
unfolding one
one_line room left e es = by (eqb e FAILS)
  where
    by : (b : Bool) → (pick b (came 0 1 true) (came (min e (min room left)) 1 false)).used ≡ 1
    by true = refl
    by false = refl

pub fill-within : (room left : ℕ) (es : List ℕ) → Within room left (length es) (fill room left es)
unfolding fill
fill-within room left [] = one-within room left []
fill-within room left (e ∷ es) =
    let r = one room left (e ∷ es) in
    let w = one-within room left (e ∷ es) in
    let first : Within room left 1 r = record { fits = w.fits; there = w.there; lines = omega (arith, one_line room left e es) } in
    by (eqb room 0) _ (onward-within room left (length es) r _ first (fill-within (room - r.got) (left - r.got) es))
  where
    by : (b : Bool) (r : Reads) → Within room left (suc (length es)) r → Within room left (suc (length es)) (pick b (came 0 0 false) r)
    by true r w = record { fits = omega arith; there = omega arith; lines = omega arith }
    by false r w = w

-- ---- a read at a time

-- what all the reads give, where one gave r and n entries are used after it
module _ (room left : ℕ) (es : List ℕ) where
  -- past the schedule's end there is nothing left after a read
  past : (m : ℕ) (p q : Bool) → eqb room 0 ≡ p → eqb m 0 ≡ q → m ≡ min room left
      → came m 0 false ≡ pick p (came 0 0 false) (pick q (came m 0 false) (came (m + min (room - m) (left - m)) (0 + 0) false))
  past m true q hp hq e = let h = eqb-true room 0 hp in let z : m ≡ 0 = omega arith in ap (λ (k : ℕ). came k 0 false) z
  past m false true hp hq e = refl
  past m false false hp hq e = let z : m ≡ m + min (room - m) (left - m) = omega arith in ap (λ (k : ℕ). came k 0 false) z

  abbrev pub FillsOn : Type 0
  FillsOn =
      fill room left es
      ≡ pick (eqb room 0) (came 0 0 false) (onward (one room left es) (fill (room - (one room left es).got) (left - (one room left es).got) (drop (one room left es).used es)))

pub fill_step : (room left : ℕ) (es : List ℕ) → FillsOn room left es
unfolding fill one
fill_step room left [] = past room left [] (min room left) (eqb room 0) (eqb (min room left) 0) refl refl refl
fill_step room left (e ∷ es) = rw (one_line room left e es)

-- ---- the loop of reads: what holds at its head, and what each way on makes of it

-- after got bytes by used entries, more came
abbrev pub and_more : ℕ → ℕ → Reads → Reads
and_more got used r = came (got + r.got) (used + r.used) r.failed

module _ (buffer₀ supply schedule : List ℕ) where
  -- what the reads give from where they stand
  abbrev rest : ℕ → ℕ → Reads
  rest got used = fill (length buffer₀ - got) (length supply - got) (drop used schedule)

  -- what all the reads together give
  abbrev pub all : Reads
  all = fill (length buffer₀) (length supply) schedule

  pub record Going (buffer : List ℕ) (got used : ℕ) : Type 0 where
    pub room : got ≤ length buffer₀
    pub left : got ≤ length supply
    pub lines : used ≤ length schedule
    pub more : and_more got used (rest got used) ≡ all
    pub bytes : buffer ≡ sets buffer₀ 0 (take got supply)

  -- what is answered where the reads end with r
  abbrev pub Ends : Reads → List ℕ → Type 0
  Ends r buffer = (r ≡ all) × (buffer ≡ sets buffer₀ 0 (take r.got supply))

  module _ (buffer : List ℕ) (got used : ℕ) (g : Going buffer got used) where
    pub long : length buffer ≡ length buffer₀
    long = ap length g.bytes ∙ length-sets buffer₀ 0 (take got supply)

    pub full : length buffer ≤ got → Ends (came got used false) buffer
    full h =
        let z : length buffer₀ - got ≡ 0 = omega (arith, long) in
        let s = fill_step (length buffer₀ - got) (length supply - got) (drop used schedule) in
        let r : rest got used ≡ came 0 0 false = rw (eq-eqb _ _ z) at s in
        let e : and_more got used (rest got used) ≡ came got used false = rw (r, add-zero got, add-zero used) in
        (sym e ∙ g.more, g.bytes)

    -- after a read into what is left of the buffer, which gave r and left `part` there
    module _ (h : got < length buffer) (r : Reads) (part : List ℕ)
        (q : r ≡ one (length (onwards buffer got)) (length (onwards supply got)) (onwards schedule used))
        (w : part ≡ sets (onwards buffer got) 0 (take r.got (onwards supply got))) where
      here : r ≡ one (length buffer₀ - got) (length supply - got) (drop used schedule)
      here = rw (onwards-is buffer got, onwards-is supply got, onwards-is schedule used, length-drop got buffer, length-drop got supply, long) at q

      pub within : Within (length buffer₀ - got) (length supply - got) (length schedule - used) r
      within =
          let o = one-within (length buffer₀ - got) (length supply - got) (drop used schedule) in
          rw (← here, length-drop used schedule) at o

      -- the whole buffer
      last : put_mid got (length buffer - got) buffer part ≡ sets buffer got (take r.got (drop got supply))
      last =
          let l = part_length supply got r.got (omega (arith, within)) in
          put_tail buffer (take r.got (drop got supply)) part got (rw (onwards-is supply got) at w) (omega (arith, l, within, long, g.room))

      step : rest got used ≡ onward r (fill (length buffer₀ - got - r.got) (length supply - got - r.got) (drop r.used (drop used schedule)))
      step =
          let n : length buffer₀ - got ≡ 0 → ⊥ = λ z. omega (arith, long) in
          let s = fill_step (length buffer₀ - got) (length supply - got) (drop used schedule) in
          rw (ne_eqb _ _ n, ← here) at s

      pub none : r.got ≡ 0 → Ends (came got (used + r.used) r.failed) (put_mid got (length buffer - got) buffer part)
      none z =
          let x : rest got used ≡ r = rw (eq-eqb _ _ z) at step in
          let y : and_more got used (rest got used) ≡ came got (used + r.used) r.failed = rw (x, z, add-zero got) in
          (sym y ∙ g.more, rw (z) at last ∙ g.bytes)

      pub goes : (r.got ≡ 0 → ⊥) → Going (put_mid got (length buffer - got) buffer part) (got + r.got) (used + r.used)
      goes n =
          let l = part_length supply 0 got (omega (arith, g.left)) in
          let v = within in
          let a : length buffer₀ - got - r.got ≡ length buffer₀ - (got + r.got) = omega arith in
          let b : length supply - got - r.got ≡ length supply - (got + r.got) = omega arith in
          let d : drop r.used (drop used schedule) ≡ drop (used + r.used) schedule = drop-drop r.used used schedule in
          let x : rest got used ≡ and_more r.got r.used (rest (got + r.got) (used + r.used)) = rw (ne_eqb _ _ n, a, b, d) at step in
          record {
            room = omega (arith, g.room, v.fits);
            left = omega (arith, g.left, v.there);
            lines = omega (arith, g.lines, v.lines);
            more = rw (add_assoc got r.got, add_assoc used r.used) (ap (and_more got used) (sym x) ∙ g.more);
            bytes =
                last ∙ ap (λ (o : List ℕ). sets o got (take r.got (drop got supply))) g.bytes
                ∙ sets_then (take got supply) (take r.got (drop got supply)) buffer₀ 0 got (omega (arith, l))
                ∙ ap (sets buffer₀ 0) (sym (take-add got r.got supply));
          }
