-- What a rescued save is: it reads to its end and is balanced, its tokens are those that were kept and the Closes that were added, and one that
-- lacked nothing is as it was. Assumes nothing.
use Prim.Native.Nat.{ℕ, zero, suc, ◌+◌, ◌-◌, ◌*◌, ◌≤◌}
use native.Mathlib.Nat.{zero-add, suc-add}
use native.Mathlib.Omega.{arith}
use mathlib.Core.Path.{◌≡◌, refl, sym, ap, ◌∙◌}
use mathlib.Core.Bool.{Bool, true, false, not, ◌&&◌}
use mathlib.Core.Option.{some}
use mathlib.Core.List.{List, [], ◌∷◌, ◌++◌, append_assoc, append-nil, map}
use lib.ListN.{length, take, drop, replicate, length-append, length-drop}
use lib.Seq.{drop-drop, take-add, take-take, take-append-le, length-take-le, take_all, drop-append_seam}
use lib.Dec.{eqb}
use borrow.Author.Tests.{eqb-true, ne_eqb, le-leb}
use Rattle.form.specs.Numbers.{pick, le_bytes}
use Rattle.form.specs.Values.{Value, Close, kind}
use Rattle.form.specs.Table.{table, entries, find, or_plain, after}
use Rattle.form.specs.Readers.{Answer, found, refused, further, and_then, at}
use Rattle.form.specs.Reading.{num, payload, token}
use Rattle.form.specs.Spelling.{bit, tag, body, spell, reason, writable}
use Rattle.form.specs.Saves.{Walk, done, cut, then, walk_f, from, walk, whole, values, tokens, spell_all, LIMIT}
use Rattle.form.specs.Keys.{is_open, is_close, Around, at_top, deeper, onward, Test, is_stray, kept_if, those, count}
use Rattle.form.specs.Writing.{written, fitted}
use Rattle.form.specs.Rescue.{open_after, read_to, kept_of, closes, rescued, report, rescue, if_written, told, readable, balanced}
use Rattle.laws.proofs.Never.{never}
use Rattle.laws.proofs.Found.{Within}
use Rattle.laws.proofs.Elsewhere.{both}
use Rattle.laws.proofs.Places.{took, at-nothing, token-then}
use Rattle.laws.proofs.Local.{Begins, token_begins}
use Rattle.laws.proofs.Walking.{from_start, by-walk}
use Rattle.laws.proofs.ReadsBack.{reads-back}
use Rattle.laws.proofs.FirstKey.{goes}
use Rattle.laws.proofs.Tests.{count-step}
use Rattle.laws.proofs.ById.{close-after}

-- ---- a Close takes two bytes

pub close-two : (s : List ℕ) (p : ℕ) {v : Value} {n : ℕ} → token (drop p s) ≡ found v n → is_close v ≡ true → n ≡ 2
unfolding and_then at further after or_plain find entries table
close-two s p {v} {n} e c = go (at (num 2) s p) refl (sym (token-then s p) ∙ ap (further p) e)
  where
    go : (x : Answer ℕ) → at (num 2) s p ≡ x → and_then x (λ i m. at (payload (after i)) s m) ≡ found v (p + n) → n ≡ 2
    go (found i m) f q =
        let four : i ≡ 0x0004 = eqb-true i 0x0004 (sym (close-after i s m q) ∙ c) in
        let ends : at (payload (after i)) s m ≡ found Close m = rw four (at-nothing Close s m) in
        let z : m ≡ p + n = cc in
        omega (arith, (took 2 s p f).next)
    go (refused why) f q = never (cc)

-- ---- what is kept

-- a token that is no stray
abbrev pub not_stray : Test
not_stray a v w = not (is_stray a v w)

-- the tokens of a walk without strays
abbrev pub kept_values : Around → Walk → List Value
kept_values a w = map (λ (x : ℕ × Value). x.1) (those not_stray a w)

values-kept : (b : Bool) (p : ℕ) (v : Value) (l : List (ℕ × Value)) → map (λ (x : ℕ × Value). x.1) (kept_if (not b) (p, v) l) ≡ pick b [] (v ∷ []) ++ map (λ (x : ℕ × Value). x.1) l
values-kept true p v l = refl
values-kept false p v l = refl

-- bytes that read to these values and to their end
abbrev Reads : List ℕ → List Value → Type 0
Reads bs [] = bs ≡ []
Reads bs (v ∷ vs) = (n : ℕ) × (token bs ≡ found v n) × Reads (drop n bs) vs

module _ (s : List ℕ) where
  -- what is kept of a walk, and after it bytes that read to values
  kept-reads : (p : ℕ) (a : Around) (t : List ℕ) (vs : List Value) → Reads t vs → Reads (kept_of s a.depth (from s p) ++ t) (kept_values a (from s p) ++ vs)
  unfolding kept_of those
  kept-reads =
      by-walk s (λ p w. (a : Around) (t : List ℕ) (vs : List Value) → Reads t vs → Reads (kept_of s a.depth w ++ t) (kept_values a w ++ vs)) (λ p h a t vs r. r)
      (λ p h why e a t vs r. r)
      (λ p h v n e w ih a t vs r. go p v n e w a t vs (ih (onward v a) t vs r) (is_stray a v (from s (p + n))))
    where
      go : (p : ℕ) (v : Value) (n : ℕ) → token (drop p s) ≡ found v n → Within (drop p s) n → (a : Around) (t : List ℕ) (vs : List Value)
          → Reads (kept_of s (deeper v a.depth) (from s (p + n)) ++ t) (kept_values (onward v a) (from s (p + n)) ++ vs) → (b : Bool)
          → Reads ((pick b [] (take n (drop p s)) ++ kept_of s (deeper v a.depth) (from s (p + n))) ++ t)
          (map (λ (x : ℕ × Value). x.1) (kept_if (not b) (p, v) (those not_stray (onward v a) (from s (p + n)))) ++ vs)
      go p v n e w a t vs r true = r
      go p v n e w a t vs r false =
          let u = kept_of s (deeper v a.depth) (from s (p + n)) ++ t in
          let c = take n (drop p s) in
          let l : length c ≡ n = length-take-le n (drop p s) w.there in
          let z : (c ++ kept_of s (deeper v a.depth) (from s (p + n))) ++ t ≡ c ++ u = append_assoc c (kept_of s (deeper v a.depth) (from s (p + n))) t in
          let b : Begins n (drop p s) (c ++ u) = take-append-le n c u (omega arith) ∙ take-take n n (drop p s) (omega arith) in
          let d : drop n (c ++ u) ≡ u = ap (λ (k : ℕ). drop k (c ++ u)) (sym l) ∙ drop-append_seam c u in
          rw z (n, token_begins (drop p s) (c ++ u) e b, rw d r)

-- ---- so many Closes

close-reads : (t : List ℕ) → token (spell Close ++ t) ≡ found Close 2
unfolding spell tag body le_bytes reason writable kind
close-reads t = reads-back Close tt tt t

closes-read : (k : ℕ) → Reads (closes k) (replicate k Close)
unfolding closes spell_all spell le_bytes body
closes-read zero = refl
closes-read (suc k) = (2, close-reads (closes k), rw (drop-append_seam (spell Close) (closes k)) (closes-read k))

pub closes-add : (j k : ℕ) → closes (j + k) ≡ closes j ++ closes k
unfolding closes spell_all
closes-add zero k = rw zero-add
closes-add (suc j) k = rw (suc-add j k) (ap (λ (bs : List ℕ). spell Close ++ bs) (closes-add j k) ∙ sym (append_assoc (spell Close) (closes j) (closes k)))

pub closes-length : (k : ℕ) → length (closes k) ≡ 2 * k
unfolding closes spell_all spell le_bytes body
closes-length zero = refl
closes-length (suc k) = omega (arith, closes-length k)

-- ---- values that are read

reads-walk : (vs : List Value) (bs : List ℕ) → Reads bs vs → (p k : ℕ) → length bs ≤ k → (values (walk_f k p bs) ≡ vs) × (whole (walk_f k p bs) ≡ true)
unfolding values whole walk_f
reads-walk [] bs r p k h = rw r (go k)
  where
    go : (k : ℕ) → (values (walk_f k p []) ≡ []) × (whole (walk_f k p []) ≡ true)
    go zero = (refl, refl)
    go (suc k) = (refl, refl)
reads-walk (v ∷ vs) bs r p k h =
    let g = goes k p bs h r.1 in
    let w = reads-walk vs (drop r.0 bs) r.2 (p + r.0) g.less g.enough in
    rw g.walks (ap (λ (us : List Value). v ∷ us) w.0, w.1)

module _ (s : List ℕ) where
  -- the rescued save reads to its end, to the tokens of the save up to the refusal, without strays, and the added Closes
  rescued-reads : (tokens (rescued s) ≡ kept_values at_top (walk s) ++ replicate (open_after 0 (tokens s)) Close) × (readable (rescued s) ≡ true)
  unfolding rescued readable tokens walk
  rescued-reads =
      let k = open_after 0 (tokens s) in
      let r : Reads (kept_of s 0 (from s 0) ++ closes k) (kept_values at_top (from s 0) ++ replicate k Close) = (kept-reads s 0 at_top (closes k) (replicate k Close) (closes-read k)) in
      reads-walk _ (rescued s) (rw (from_start s) at r) 0 (length (rescued s)) (omega arith)

  pub rescued-tokens : tokens (rescued s) ≡ kept_values at_top (walk s) ++ replicate (open_after 0 (tokens s)) Close
  rescued-tokens = rescued-reads.0

  pub rescued-readable : readable (rescued s) ≡ true
  rescued-readable = rescued-reads.1

-- ---- the values alone tell the depth and the strays

strays_in : ℕ → List Value → ℕ
strays_in d [] = 0
strays_in d (v ∷ vs) = bit (is_close v && eqb d 0) + strays_in (deeper v d) vs

strays-values : (a : Around) (w : Walk) → count is_stray a w ≡ strays_in a.depth (values w)
unfolding count those values strays_in
strays-values a done = refl
strays-values a (cut r) = refl
strays-values a (then p n v w) = count-step is_stray a p n v w ∙ ap (λ (k : ℕ). bit (is_stray a v w) + k) (strays-values (onward v a) w)

-- so a stray is told by its depth
pub strays-at : (a b : Around) (w : Walk) → a.depth ≡ b.depth → count is_stray a w ≡ count is_stray b w
strays-at a b w e = strays-values a w ∙ ap (λ (d : ℕ). strays_in d (values w)) e ∙ sym (strays-values b w)

open-append : (d : ℕ) (us vs : List Value) → open_after d (us ++ vs) ≡ open_after (open_after d us) vs
unfolding open_after
open-append d [] vs = refl
open-append d (u ∷ us) vs = open-append (deeper u d) us vs

strays-append : (d : ℕ) (us vs : List Value) → strays_in d (us ++ vs) ≡ strays_in d us + strays_in (open_after d us) vs
unfolding open_after strays_in
strays-append d [] vs = omega arith
strays-append d (u ∷ us) vs = omega (arith, strays-append (deeper u d) us vs)

-- the added Closes end what is open
close_up : (k : ℕ) → (open_after k (replicate k Close) ≡ 0) × (strays_in k (replicate k Close) ≡ 0)
unfolding open_after strays_in deeper is_open is_close kind
close_up zero = (refl, refl)
close_up (suc k) =
    let e : suc k - 1 ≡ k = omega arith in
    let z : eqb (suc k) 0 ≡ false = ne_eqb (suc k) 0 (λ q. omega arith) in
    (ap (λ (d : ℕ). open_after d (replicate k Close)) e ∙ (close_up k).0, rw (e, z) (omega (arith, (close_up k).1)))

-- a stray leaves the depth as it is
stray-deep : (d : ℕ) (v : Value) → is_close v && eqb d 0 ≡ true → deeper v d ≡ d
unfolding deeper is_open is_close kind
stray-deep d v h =
    let t = both (is_close v) (eqb d 0) h in
    let c : kind v ≡ 1 = eqb-true (kind v) 1 t.0 in
    let o : is_open v ≡ false = ne_eqb (kind v) 0 (λ q. omega arith) in
    rw (eqb-true d 0 t.1, t.0, o)

-- what is kept has the same depth, and no stray
kept-open : (a : Around) (w : Walk) → open_after a.depth (kept_values a w) ≡ open_after a.depth (values w)
unfolding open_after those values
kept-open a done = refl
kept-open a (cut r) = refl
kept-open a (then p n v w) = go (is_stray a v w) refl (kept-open (onward v a) w)
  where
    go : (b : Bool) → is_stray a v w ≡ b → open_after (deeper v a.depth) (kept_values (onward v a) w) ≡ open_after (deeper v a.depth) (values w)
        → open_after a.depth (map (λ (x : ℕ × Value). x.1) (kept_if (not b) (p, v) (those not_stray (onward v a) w))) ≡ open_after (deeper v a.depth) (values w)
    go true e ih = ap (λ (d : ℕ). open_after d (kept_values (onward v a) w)) (sym (stray-deep a.depth v e)) ∙ ih
    go false e ih = ih

kept-strays : (a : Around) (w : Walk) → strays_in a.depth (kept_values a w) ≡ 0
unfolding strays_in those
kept-strays a done = refl
kept-strays a (cut r) = refl
kept-strays a (then p n v w) = go (is_stray a v w) refl (kept-strays (onward v a) w)
  where
    go : (b : Bool) → is_stray a v w ≡ b → strays_in (deeper v a.depth) (kept_values (onward v a) w) ≡ 0
        → strays_in a.depth (map (λ (x : ℕ × Value). x.1) (kept_if (not b) (p, v) (those not_stray (onward v a) w))) ≡ 0
    go true e ih = ap (λ (d : ℕ). strays_in d (kept_values (onward v a) w)) (sym (stray-deep a.depth v e)) ∙ ih
    go false e ih = rw (e, ih)

pub rescued-balanced : (s : List ℕ) → balanced (rescued s) ≡ true
unfolding balanced tokens
rescued-balanced s =
    let k = open_after 0 (tokens s) in
    let ks = kept_values at_top (walk s) in
    let c = close_up k in
    let o : open_after 0 ks ≡ k = kept-open at_top (walk s) in
    let x : open_after 0 (tokens (rescued s)) ≡ 0 = rw (rescued-tokens s, open-append 0 ks (replicate k Close), o) c.0 in
    let y : count is_stray at_top (walk (rescued s)) ≡ 0 =
    strays-values at_top (walk (rescued s)) ∙ rw (rescued-tokens s, strays-append 0 ks (replicate k Close), o, kept-strays at_top (walk s), c.1)
    in
    rw (x, y)

-- ---- how much is kept, cut and left out

-- a token goes at most one deeper
deeper-one : (v : Value) (d : ℕ) → deeper v d ≤ d + 1
unfolding deeper
deeper-one v d = go (is_open v) (is_close v)
  where
    go : (o c : Bool) → pick o (d + 1) (pick c (d - 1) d) ≤ d + 1
    go true c = omega arith
    go false true = omega arith
    go false false = omega arith

module _ (s : List ℕ) where
  read-on : (p : ℕ) → p ≤ length s → (p ≤ read_to p (from s p)) × (read_to p (from s p) ≤ length s)
  unfolding read_to
  read-on =
      by-walk s (λ p w. p ≤ length s → (p ≤ read_to p w) × (read_to p w ≤ length s)) (λ p h l. (omega arith, l)) (λ p h why e l. (omega arith, l))
      (λ p h v n e w ih l. let r = ih (omega (arith, w.there, length-drop p s)) in (omega (arith, r.0), r.1))

  kept-sum : (p : ℕ) → p ≤ length s → (a : Around) → length (kept_of s a.depth (from s p)) + 2 * count is_stray a (from s p) + p ≡ read_to p (from s p)
  unfolding read_to kept_of count those
  kept-sum =
      by-walk s (λ p w. p ≤ length s → (a : Around) → length (kept_of s a.depth w) + 2 * count is_stray a w + p ≡ read_to p w) (λ p h l a. omega arith)
      (λ p h why e l a. omega arith)
      (λ p h v n e w ih l a. go p v n e w a (is_stray a v (from s (p + n))) refl (ih (omega (arith, w.there, length-drop p s)) (onward v a)))
    where
      go : (p : ℕ) (v : Value) (n : ℕ) → token (drop p s) ≡ found v n → Within (drop p s) n → (a : Around) (b : Bool) → is_stray a v (from s (p + n)) ≡ b
          → length (kept_of s (deeper v a.depth) (from s (p + n))) + 2 * count is_stray (onward v a) (from s (p + n)) + (p + n) ≡ read_to (p + n) (from s (p + n))
          → length (pick b [] (take n (drop p s)) ++ kept_of s (deeper v a.depth) (from s (p + n))) + 2 * length (kept_if b (p, v) (those is_stray (onward v a) (from s (p + n)))) + p
          ≡ read_to (p + n) (from s (p + n))
      go p v n e w a true f ih = omega (arith, ih, close-two s p e (both (is_close v) (eqb a.depth 0) f).0)
      go p v n e w a false f ih = omega (arith, ih, length-append (take n (drop p s)) (kept_of s (deeper v a.depth) (from s (p + n))), length-take-le n (drop p s) w.there)

  -- the bytes cut, those kept and those left out are the save's
  pub rescued-sum : length (kept_of s 0 (walk s)) + 2 * (report s).strays + (report s).cut_off ≡ length s
  unfolding report
  rescued-sum =
      let e = from_start s in
      let k : length (kept_of s 0 (walk s)) + 2 * count is_stray at_top (walk s) + 0 ≡ read_to 0 (walk s) = rw e at (kept-sum 0 (omega arith) at_top) in
      let r : (0 ≤ read_to 0 (walk s)) × (read_to 0 (walk s) ≤ length s) = rw e at (read-on 0 (omega arith)) in
      omega (arith, k, r.1)

  -- a container that is open took two bytes to open
  open-few : (p : ℕ) (d : ℕ) → p ≤ length s → 2 * open_after d (values (from s p)) + p ≤ 2 * d + read_to p (from s p)
  unfolding read_to open_after values
  open-few =
      by-walk s (λ p w. (d : ℕ) → p ≤ length s → 2 * open_after d (values w) + p ≤ 2 * d + read_to p w) (λ p h d l. omega arith) (λ p h why e d l. omega arith)
      (λ p h v n e w ih d l. omega (arith, ih (deeper v d) (omega (arith, w.there, length-drop p s)), deeper-one v d, w.some))

  -- so the rescued save has at most twice the save's length
  pub rescued-length : length (rescued s) ≤ 2 * length s
  unfolding rescued tokens
  rescued-length =
      let e = from_start s in
      let k : length (kept_of s 0 (walk s)) + 2 * count is_stray at_top (walk s) + 0 ≡ read_to 0 (walk s) = rw e at (kept-sum 0 (omega arith) at_top) in
      let o : 2 * open_after 0 (values (walk s)) + 0 ≤ 2 * 0 + read_to 0 (walk s) = rw e at (open-few 0 0 (omega arith)) in
      let r : (0 ≤ read_to 0 (walk s)) × (read_to 0 (walk s) ≤ length s) = rw e at (read-on 0 (omega arith)) in
      let c = closes-length (open_after 0 (values (walk s))) in
      omega (arith, k, o, r.1, c, length-append (kept_of s 0 (walk s)) (closes (open_after 0 (values (walk s)))))

  -- ---- where nothing is wrong

  -- without strays what is kept is all that was read
  kept-all : (p : ℕ) → p ≤ length s → (a : Around) → count is_stray a (from s p) ≡ 0 → kept_of s a.depth (from s p) ≡ take (read_to p (from s p) - p) (drop p s)
  unfolding read_to kept_of count those
  kept-all =
      by-walk s (λ p w. p ≤ length s → (a : Around) → count is_stray a w ≡ 0 → kept_of s a.depth w ≡ take (read_to p w - p) (drop p s))
      (λ p h l a z. let e : p - p ≡ 0 = omega arith in rw e)
      (λ p h why f l a z. let e : p - p ≡ 0 = omega arith in rw e)
      (λ p h v n e w ih l a. go p v n e w a (is_stray a v (from s (p + n))) (ih (omega (arith, w.there, length-drop p s)) (onward v a)) (omega (arith, w.there, length-drop p s)))
    where
      go : (p : ℕ) (v : Value) (n : ℕ) → token (drop p s) ≡ found v n → Within (drop p s) n → (a : Around) (b : Bool)
          → (count is_stray (onward v a) (from s (p + n)) ≡ 0 → kept_of s (deeper v a.depth) (from s (p + n)) ≡ take (read_to (p + n) (from s (p + n)) - (p + n)) (drop (p + n) s)) → p + n ≤ length s
          → length (kept_if b (p, v) (those is_stray (onward v a) (from s (p + n)))) ≡ 0
          → pick b [] (take n (drop p s)) ++ kept_of s (deeper v a.depth) (from s (p + n)) ≡ take (read_to (p + n) (from s (p + n)) - p) (drop p s)
      go p v n e w a true ih l z = absurd (omega arith)
      go p v n e w a false ih l z =
          let r = read_to (p + n) (from s (p + n)) in
          let x : r - p ≡ n + (r - (p + n)) = omega (arith, (read-on (p + n) l).0) in
          rw (ih z, x, take-add n (r - (p + n)) (drop p s), drop-drop n p s)

  -- a save that reads to its end is read to its length
  whole-end : (p : ℕ) → p ≤ length s → whole (from s p) ≡ true → read_to p (from s p) ≡ length s
  unfolding read_to whole
  whole-end =
      by-walk s (λ p w. p ≤ length s → whole w ≡ true → read_to p w ≡ length s) (λ p h l z. omega arith) (λ p h why e l z. never (cc))
      (λ p h v n e w ih l z. ih (omega (arith, w.there, length-drop p s)) z)

  -- a balanced readable save comes out byte for byte, and nothing is reported
  pub unharmed : readable s ≡ true → balanced s ≡ true → (rescued s ≡ s) × (report s ≡ record { cut_off = 0; strays = 0; added = 0 })
  unfolding readable balanced rescued report closes spell_all
  unharmed f g =
      let t = both (eqb (count is_stray at_top (walk s)) 0) (eqb (open_after 0 (tokens s)) 0) g in
      let x : count is_stray at_top (walk s) ≡ 0 = eqb-true (count is_stray at_top (walk s)) 0 t.0 in
      let y : open_after 0 (tokens s) ≡ 0 = eqb-true (open_after 0 (tokens s)) 0 t.1 in
      let z : read_to 0 (walk s) ≡ length s = rw (from_start s) at (whole-end 0 (omega arith) (rw (from_start s) f)) in
      let k : kept_of s 0 (walk s) ≡ take (read_to 0 (walk s) - 0) (drop 0 s) = rw (from_start s) at (kept-all 0 (omega arith) at_top (rw (from_start s) x)) in
      let u : length s - 0 ≡ length s = omega arith in
      let w : length s - length s ≡ 0 = omega arith in
      (rw (k, y, z, u, take_all (length s) s (omega arith)) (append-nil s), rw (x, y, z, w))

-- so a rescued save, rescued again, is as it was
pub rescued-again : (s : List ℕ) → (rescued (rescued s) ≡ rescued s) × (report (rescued s) ≡ record { cut_off = 0; strays = 0; added = 0 })
rescued-again s = unharmed (rescued s) (rescued-readable s) (rescued-balanced s)

-- and by the call, where it is within the limit and there is room
pub rescue-again : (s : List ℕ) (room : ℕ) → length (rescued s) ≤ LIMIT → length (rescued s) ≤ room
    → (rescue room (rescued s) ≡ written (rescued s)) × (told room (rescued s) ≡ some (record { cut_off = 0; strays = 0; added = 0 }))
unfolding rescue told if_written fitted
rescue-again s room l h =
    let a = rescued-again s in
    let e : rescue room (rescued s) ≡ written (rescued s) = rw (le-leb (length (rescued s)) LIMIT l, a.0, le-leb (length (rescued s)) room h) in
    (e, rw (e, a.1))
