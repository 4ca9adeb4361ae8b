-- A pass over a save: what it has counted and written, and what is left. Assumes nothing.
use Prim.Native.Nat.{ℕ, ◌+◌, ◌-◌, ◌*◌, ◌≤◌, ◌<◌}
use native.Mathlib.Nat.{zero-add}
use native.Mathlib.Omega.{arith}
use mathlib.Core.Path.{◌≡◌, refl, sym, ap, ◌∙◌}
use mathlib.Core.Bool.{Bool, true, false}
use mathlib.Core.Option.{none}
use mathlib.Core.List.{List, [], ◌++◌, append-nil, append_assoc}
use lib.ListN.{length, take, drop, length-append, length-drop, drop_of_length-le}
use lib.Seq.{sets, sets-eq, length-sets, drop-drop}
use lib.Dec.{leb}
use borrow.Author.Tests.{le-leb, lt-leb, leb-true, leb-false}
use borrow.Author.Rules.{part_to_end}
use borrow.Rule.Slice.PartMut.{put_same}
use Rattle.form.specs.Numbers.{le_bytes, MAX}
use Rattle.form.specs.Values as F
use Rattle.form.specs.Values.{kind}
use Rattle.form.specs.Table.{table, entries}
use Rattle.form.specs.Spelling.{tag, body, spell}
use Rattle.form.specs.Saves.{LIMIT, walk}
use Rattle.form.specs.Writing.{written, unwritten, Outcome, wrote, outcome, leaves, fitted, first_refusal, unless}
use Rattle.laws.proofs.Never.{never}
use Rattle.laws.proofs.Puts.{put_then, put-none, put_front}
use Rattle.writer.specs.Layouts.{id_number}
use Rattle.normaliser.specs.Stretches.{Style, normal_style, styled, unbounded, Passed, before, Spells, Placed, Respelt, Stopped, Appends}
use Rattle.normaliser.specs.Spellings.{Stand}
use Rattle.normaliser.proofs.Joining.{rest-start, rest_end, spells-none, spells_then}

-- ---- bytes into a part of the output

-- the part that is lent, and the output with it back
abbrev pub part : List ℕ → ℕ → List ℕ
part d at = take (length d - at) (drop at d)

abbrev pub back : List ℕ → ℕ → List ℕ → List ℕ
back d at ys = take at d ++ (ys ++ drop (length d - at) (drop at d))

-- what becomes of it, where they are written if there is room
abbrev pub put : List ℕ → ℕ → List ℕ → List ℕ
put d at bs = leaves (fitted (length (part d at)) bs) (part d at)

module _ (d : List ℕ) (at : ℕ) (bs : List ℕ) (l : at ≤ length d) where
  size : length (part d at) ≡ length d - at
  size = ap length (part_to_end d at) ∙ length-drop at d

  put-room : at + length bs ≤ length d → back d at (put d at bs) ≡ sets d at bs
  unfolding fitted leaves
  put-room h =
      let e : drop (length d - at) (drop at d) ≡ [] = drop_of_length-le (drop at d) {i = length d - at} (simp length-drop (omega arith)) in
      rw (le-leb (length bs) (length (part d at)) (omega (arith, size)))
      (rw (part_to_end d at, e, append-nil, drop-drop (length bs) at d)
      (sym (sets-eq bs d at h ∙ append_assoc (take at d) bs (drop (at + length bs) d))))

  put-lacking : length d < at + length bs → back d at (put d at bs) ≡ d
  unfolding fitted leaves
  put-lacking h = rw (lt-leb (length bs) (length (part d at)) (omega (arith, size))) (put_same at (length d - at) d)

-- at the place after so many bytes
pub appends : {d bs ys : List ℕ} {need at r : ℕ} → length d ≤ MAX → Placed need (length d) at → ys ≡ put d at bs → r ≡ need + length bs
    → Appends d need bs (back d at ys) r
appends {d} {bs} {ys} {need} {at} {r} m p o e = go (leb (at + length bs) (length d)) refl
  where
    go : (f : Bool) → leb (at + length bs) (length d) ≡ f → Appends d need bs (back d at ys) r
    go true f =
        let new : back d at ys ≡ sets d at bs = ap (back d at) o ∙ put-room d at bs p.inside (leb-true (at + length bs) (length d) f) in
        let kept : length (back d at ys) ≡ length d = ap length new ∙ length-sets d at bs in
        record {
          count = e;
          same = kept;
          puts = λ h. record { next = omega arith; same = kept; bytes = λ _. new ∙ ap (λ (a : ℕ). sets d a bs) (p.fits (omega arith)) };
        }
    go false f =
        let l = leb-false (at + length bs) (length d) f in
        record {
          count = e;
          same = ap (λ (ys : List ℕ). length (back d at ys)) o ∙ ap length (put-lacking d at bs p.inside l);
          puts = λ h. absurd (omega (arith, l, p.fits (omega arith)));
        }

-- nothing more
pub appends-none : (d : List ℕ) (need : ℕ) → length d ≤ MAX → Appends d need [] d need
appends-none d need m = record { count = omega arith; same = refl; puts = λ h. put-none d need (omega arith) }

-- bytes, and then others
pub appends-then : {d d₁ d₂ a b : List ℕ} {need r₁ r₂ : ℕ} → Appends d need a d₁ r₁ → Appends d₁ r₁ b d₂ r₂ → Appends d need (a ++ b) d₂ r₂
appends-then {a = a} {b} p q = record {
  count = omega (arith, p.count, q.count, length-append a b);
  same = q.same ∙ p.same;
  puts = λ h. put_then (p.puts (omega (arith, q.count))) (q.puts (omega (arith, p.same)));
}

-- ---- a pass

-- it has come to place i: the tokens before it are spelled by the bytes done, which are in the output if they fit there
pub record Going (y : Style) (s d₀ d : List ℕ) (i need : ℕ) : Type 0 where
  pub done : List ℕ
  pub spells : Spells y s 0 i done
  pub appends : Appends d₀ 0 done d need

pub going_start : {y : Style} (s d : List ℕ) → length d ≤ MAX → Going y s d d 0 0
going_start s d m = record { done = []; spells = spells-none s 0 (omega arith); appends = appends-none d 0 m }

-- the tokens up to q are spelled by bs, and those bytes are put after the ones that are done
pub went_on : {y : Style} {s d₀ d d' bs : List ℕ} {i need q r : ℕ} → Going y s d₀ d i need → Spells y s i q bs → Appends d need bs d' r → Going y s d₀ d' q r
went_on {bs = bs} g k a = record { done = g.done ++ bs; spells = spells_then g.spells k; appends = appends-then g.appends a }

-- the bytes so far are few enough to count
pub bounded : {y : Style} {s d₀ d : List ℕ} {i need : ℕ} → Going y s d₀ d i need → length s ≤ LIMIT → need ≤ 5 * LIMIT
bounded g l = omega (arith, g.appends.count, g.spells.short, g.spells.there)

-- ---- how it ends

pub unbounded-none : (y : Style) (s : List ℕ) → first_refusal y.why (walk s) ≡ none → unbounded y s ≡ written (styled y s)
unfolding unbounded unless
unbounded-none y s n = rw n

written_same : {a b : List ℕ} → written a ≡ written b → a ≡ b
written_same e = cc

pub going_end : {y : Style} {s d₀ d : List ℕ} {i need : ℕ} → length d₀ ≤ MAX → Going y s d₀ d i need → length s ≤ i → Passed y s d₀ d (wrote need)
unfolding before outcome leaves
going_end {y} {s} {d₀} {d} {i} {need} m g h =
    let e : unbounded y s ≡ written g.done =
    sym (rest-start y s) ∙ g.spells.is ∙ ap (before g.done) (rest_end y s i h) ∙ ap written (append-nil g.done) in
    record {
      answer = ap wrote (g.appends.count ∙ zero-add (length g.done)) ∙ ap outcome (sym e);
      bytes = λ n l.
          let k : g.done ≡ styled y s = written_same (sym e ∙ unbounded-none y s n) in
          put_front m l (rw k at (g.appends.puts (omega (arith, g.appends.count, ap length k))));
    }

pub going-stopped : {y : Style} {s d₀ d : List ℕ} {i need : ℕ} {a : Outcome} → Going y s d₀ d i need → Stopped y s i a → (d' : List ℕ) → Passed y s d₀ d' a
unfolding before outcome
going-stopped {y} {s} {i = i} g k d' =
    let e : unbounded y s ≡ unwritten k.why = sym (rest-start y s) ∙ g.spells.is ∙ ap (before g.done) k.is in
    record {
      answer = k.answer ∙ ap outcome (sym e);
      bytes = λ n. let z : written (styled y s) ≡ unwritten k.why = sym (unbounded-none y s n) ∙ e in never (cc);
    }

-- ---- in normal form, by what the code knows

-- a token is spelled anew
pub turned : {s d₀ d d' : List ℕ} {i need q n : ℕ} → Going normal_style s d₀ d i need → Respelt normal_style s i q n d need d'
    → (i < q) × Going normal_style s d₀ d' q (need + n)
turned g t = (t.more, went_on g t.spells t.appends)

-- a run can be copied
pub run-there : {s d₀ d : List ℕ} {i need e : ℕ} → Going normal_style s d₀ d i need → Stand s i e → length s ≤ LIMIT → (i ≤ e) × (e ≤ length s) × (need + (e - i) ≤ MAX)
run-there g h l = (h.on, h.there, omega (arith, g.appends.count, g.spells.short, h.on, h.there))

-- the spelling of a float, and of a lookup
pub float_same : (x : ℕ) → id_number 0x0167 8 x ≡ spell (F.F64 x)
unfolding spell tag body entries table kind le_bytes
float_same x = refl

pub lookup_same : (x : ℕ) → id_number 0x0d41 3 x ≡ spell (F.Lookup x)
unfolding spell tag body entries table kind le_bytes
lookup_same x = refl
