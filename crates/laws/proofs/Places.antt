-- Reading at a place: the laws that the code's proofs go by. Assumes nothing.
use Prim.Native.Nat.{ℕ, ◌+◌, ◌-◌, ◌^◌, ◌≤◌, ◌<◌, zero-le}
use native.Mathlib.Nat.{add-zero, add_assoc}
use native.Mathlib.Omega.{arith}
use mathlib.Core.Path.{◌≡◌, refl, sym, ap, ◌∙◌}
use mathlib.Core.Bool.{Bool, true, false}
use mathlib.Core.Option.{none, some}
use mathlib.Core.List.{List}
use lib.ListN.{length, take, drop, get_or}
use lib.Seq.{drop-drop, length-take-le}
use lib.Dec.{leb, eqb}
use borrow.Author.Tests.{le-leb, lt-leb, leb-true}
use mir.Syntax.{w8}
use mir.Val.{Fits}
use Rattle.form.specs.Numbers.{pick, le}
use Rattle.form.specs.Refusals.{Fault, too_short, bad_colour}
use Rattle.form.specs.Values.{Value, Rgb}
use Rattle.form.specs.Table.{Payload, nothing, after}
use Rattle.form.specs.Ids.{CLOSE, CHANNEL}
use Rattle.form.specs.Readers.{Answer, found, refused, Reader, further, and_then, mapped, ◌followed-by◌, ◌giving◌, give, refuse, at, placed}
use Rattle.form.specs.Reading.{next, piece, num, string, channel, alpha_end, with_alpha, ending, headed, judged, channels, payload, token}
use Rattle.laws.proofs.Never.{never}
use Rattle.laws.proofs.LittleEndian.{le-take-lt, drop-bytes, bytes-all}

further-further : {A : Type 0} (j k : ℕ) (a : Answer A) → further j (further k a) ≡ further (j + k) a
unfolding further
further-further j k (found a n) = ap (found a) (sym (add_assoc j k n))
further-further j k (refused why) = refl

-- what follows is read at the place where the first left off
pub at-then : {A B : Type 0} (f : Reader A) (g : A → Reader B) (s : List ℕ) (p : ℕ) → at (f followed-by g) s p ≡ and_then (at f s p) (λ a n. at (g a) s n)
unfolding at ◌followed-by◌ and_then further
at-then f g s p = go (f (drop p s))
  where
    go : (x : Answer _) → further p (and_then x (λ a n. further n (g a (drop n (drop p s))))) ≡ and_then (further p x) (λ a n. further n (g a (drop n s)))
    go (found a n) = rw (drop-drop n p s) (further-further p n (g a (drop (p + n) s)))
    go (refused why) = refl

pub at-giving : {A B : Type 0} (f : Reader A) (g : A → B) (s : List ℕ) (p : ℕ) → at (f giving g) s p ≡ mapped g (at f s p)
unfolding at ◌giving◌ mapped further
at-giving f g s p = go (f (drop p s))
  where
    go : (x : Answer _) → further p (mapped g x) ≡ mapped g (further p x)
    go (found a n) = refl
    go (refused why) = refl

pub at_give : {A : Type 0} (a : A) (s : List ℕ) (p : ℕ) → at (give a) s p ≡ found a p
unfolding at give further
at_give a s p = ap (found a) (add-zero p)

pub at-refuse : {A : Type 0} (why : Fault) (s : List ℕ) (p : ℕ) → at {A = A} (refuse why) s p ≡ refused why
unfolding at refuse further
at-refuse why s p = refl

pub at-pick : {A : Type 0} (b : Bool) (f g : Reader A) (s : List ℕ) (p : ℕ) → at (pick b f g) s p ≡ pick b (at f s p) (at g s p)
at-pick true f g s p = refl
at-pick false f g s p = refl

at-judged : (b : Bool) (v : Value) (s : List ℕ) (p : ℕ) → at (pick b (give v) (refuse bad_colour)) s p ≡ pick b (found v p) (refused bad_colour)
at-judged b v s p = at-pick b (give v) (refuse bad_colour) s p ∙ rw (at_give v s p, at-refuse {A = Value} bad_colour s p)

-- what follows may be said in another way
same_then : {A B : Type 0} (x : Answer A) (f g : A → ℕ → Answer B) → ((a : A) (n : ℕ) → f a n ≡ g a n) → and_then x f ≡ and_then x g
unfolding and_then
same_then (found a n) f g h = h a n
same_then (refused why) f g h = refl

mapped-then : {A B : Type 0} (f : A → B) (x : Answer A) → mapped f x ≡ and_then x (λ a n. found (f a) n)
unfolding and_then mapped
mapped-then f (found a n) = refl
mapped-then f (refused why) = refl

-- the next n bytes, in the two cases
module _ (n : ℕ) (s : List ℕ) (p : ℕ) where
  pub at_next : n ≤ length (drop p s) → at (next n) s p ≡ found (take n (drop p s)) (p + n)
  unfolding at next further
  at_next h = rw (le-leb n (length (drop p s)) h)

  -- how many bytes are missing
  abbrev lacking : ℕ
  lacking = n - length (drop p s)

  pub at-short : length (drop p s) < n → at (next n) s p ≡ refused (too_short lacking)
  unfolding at next further
  at-short h = rw (lt-leb n (length (drop p s)) h)

  pub num-there : n ≤ length (drop p s) → at (num n) s p ≡ found (le (take n (drop p s))) (p + n)
  unfolding num mapped
  num-there h = at-giving (next n) le s p ∙ rw (at_next h)

  pub num-short : length (drop p s) < n → at (num n) s p ≡ refused (too_short lacking)
  unfolding num mapped
  num-short h = at-giving (next n) le s p ∙ rw (at-short h)

-- what a number read at a place is: below 256 to its width, and the place that many bytes on
module _ (w : ℕ) (s : List ℕ) (p : ℕ) where
  pub record Took (x n : ℕ) : Type 0 where
    pub value : x ≡ le (take w (drop p s))
    pub next : n ≡ p + w
    pub there : w ≤ length (drop p s)

  by-test : (b : Bool) (x n : ℕ) → leb w (length (drop p s)) ≡ b → pick b (found (le (take w (drop p s))) (p + w)) (refused (too_short (w - length (drop p s)))) ≡ found x n → Took x n
  by-test true x n t e = record { value = cc; next = cc; there = leb-true w (length (drop p s)) t }
  by-test false x n t e = never (cc)

  at-num : at (num w) s p ≡ pick (leb w (length (drop p s))) (found (le (take w (drop p s))) (p + w)) (refused (too_short (w - length (drop p s))))
  unfolding at num next ◌giving◌ further mapped
  at-num = go (leb w (length (drop p s)))
    where
      go : (b : Bool) → further p (mapped le (pick b (found (take w (drop p s)) w) (refused (too_short (w - length (drop p s)))))) ≡ pick b (found (le (take w (drop p s))) (p + w)) (refused (too_short (w - length (drop p s))))
      go true = refl
      go false = refl

  pub took : {x n : ℕ} → at (num w) s p ≡ found x n → Took x n
  took {x} {n} e = by-test (leb w (length (drop p s))) x n refl (sym at-num ∙ e)

  pub num-lt : ((i : ℕ) → Fits w8 (get_or s i 0)) → {x n : ℕ} → at (num w) s p ≡ found x n → x < 256 ^ w
  num-lt b e = rw (took e).value (le-take-lt w (drop p s) (drop-bytes p s (bytes-all s b)))

-- where nothing follows an id
pub at-nothing : (v : Value) (s : List ℕ) (p : ℕ) → at (payload (nothing v)) s p ≡ found v p
unfolding payload mapped
at-nothing v s p = at-giving (num 0) (λ _. v) s p ∙ rw (num-there 0 s p zero-le, add-zero p)

-- a token by what follows its id
pub by-id : (s : List ℕ) (p : ℕ) {i n : ℕ} {q : Payload} → at (num 2) s p ≡ found i n → after i ≡ q → at token s p ≡ at (payload q) s n
unfolding token and_then
by-id s p e q = at-then (num 2) (λ i. payload (after i)) s p ∙ rw (e, q)

-- ---- a text

-- a text's start and length, as the code's answer has them
module _ {B : Type 0} (g : ℕ → ℕ → B) where
  abbrev pub spanned : ℕ → List ℕ → B
  spanned e t = g (e - length t) (length t)

  pub string-there : (s : List ℕ) (p : ℕ) {n b : ℕ} → at (num 2) s p ≡ found n b → n ≤ length (drop b s)
      → placed spanned (at string s p) ≡ found (g b n) (b + n)
  unfolding string and_then placed
  string-there s p {n} {b} e h =
      let q : length (take n (drop b s)) ≡ n = length-take-le n (drop b s) h in
      let d : b + n - n ≡ b = omega arith in
      rw (at-then (num 2) next s p, e, at_next n s b h, q, d)

pub string-short : (s : List ℕ) (p : ℕ) {n b : ℕ} → at (num 2) s p ≡ found n b → length (drop b s) < n → at string s p ≡ refused (too_short (n - length (drop b s)))
unfolding string and_then
string-short s p {n} {b} e h = rw (at-then (num 2) next s p, e, at-short n s b h)

pub string-then : (s : List ℕ) (p : ℕ) → at string s p ≡ and_then (at (num 2) s p) (λ n b. at (next n) s b)
unfolding string
string-then s p = at-then (num 2) next s p

-- ---- a colour

pub channel-then : (s : List ℕ) (p : ℕ)
    → at channel s p ≡ and_then (at (num 2) s p) (λ i n. and_then (at (num 4) s n) (λ x m. found (record { tag = i; value = x }) m))
unfolding channel
channel-then s p =
    at-then (num 2) (λ i. num 4 giving (λ n. record { tag = i; value = n })) s p
    ∙ same_then (at (num 2) s p) _ _ (λ i n. at-giving (num 4) (λ n. record { tag = i; value = n }) s n ∙ mapped-then (λ n. record { tag = i; value = n }) (at (num 4) s n))

-- what is asked for at once, by its first bytes
module _ {A : Type 0} (n : ℕ) (f : Reader A) (s : List ℕ) (p : ℕ) where
  pub piece_then : at (piece n f) s p ≡ and_then (at (next n) s p) (λ _ _. at f s p)
  unfolding piece at and_then further
  piece_then = go (next n (drop p s))
    where
      go : (x : Answer (List ℕ)) → further p (and_then x (λ _ _. f (drop p s))) ≡ and_then (further p x) (λ _ _. further p (f (drop p s)))
      go (found a k) = refl
      go (refused why) = refl

pub alpha-then : (r g b : ℕ) (s : List ℕ) (p : ℕ)
    → at (alpha_end r g b) s p ≡ and_then (at (num 4) s p) (λ a n. and_then (at (num 2) s n) (λ e m. pick (eqb e CLOSE) (found (Rgb r g b (some a)) m) (refused bad_colour)))
unfolding alpha_end
alpha-then r g b s p =
    at-then (num 4) (λ a. num 2 followed-by (λ e. pick (eqb e CLOSE) (give (Rgb r g b (some a))) (refuse bad_colour))) s p
    ∙ same_then (at (num 4) s p) _ _ (λ a n. at-then (num 2) (λ e. pick (eqb e CLOSE) (give (Rgb r g b (some a))) (refuse bad_colour)) s n
    ∙ same_then (at (num 2) s n) _ _ (λ e m. at-judged (eqb e CLOSE) (Rgb r g b (some a)) s m))

pub ending-then : (e r g b : ℕ) (s : List ℕ) (p : ℕ)
    → at (ending e r g b) s p ≡ pick (eqb e CLOSE) (found (Rgb r g b none) p) (pick (eqb e CHANNEL) (at (with_alpha r g b) s p) (refused bad_colour))
unfolding ending
ending-then e r g b s p =
    at-pick (eqb e CLOSE) (give (Rgb r g b none)) (pick (eqb e CHANNEL) (with_alpha r g b) (refuse bad_colour)) s p
    ∙ rw (at_give (Rgb r g b none) s p, at-pick (eqb e CHANNEL) (with_alpha r g b) (refuse bad_colour) s p, at-refuse {A = Value} bad_colour s p)

pub channels-then : (s : List ℕ) (p : ℕ)
    → at channels s p ≡ and_then (at (num 2) s p) (λ o n. and_then (at channel s n) (λ r m. and_then (at channel s m) (λ g k. and_then (at channel s k) (λ b j. and_then (at (num 2) s j)
    (λ e i. pick (headed o r.tag g.tag b.tag) (at (ending e r.value g.value b.value) s i) (refused bad_colour))))))
unfolding channels judged
channels-then s p =
    at-then (num 2) _ s p ∙ same_then (at (num 2) s p) _ _ (λ o n.
    at-then channel _ s n ∙ same_then (at channel s n) _ _ (λ r m.
    at-then channel _ s m ∙ same_then (at channel s m) _ _ (λ g k.
    at-then channel _ s k ∙ same_then (at channel s k) _ _ (λ b j.
    at-then (num 2) _ s j ∙ same_then (at (num 2) s j) _ _ (λ e i.
    at-pick (headed o r.tag g.tag b.tag) (ending e r.value g.value b.value) (refuse bad_colour) s i
    ∙ rw (at-refuse {A = Value} bad_colour s i))))))

-- ---- a token

pub token-then : (s : List ℕ) (p : ℕ) → at token s p ≡ and_then (at (num 2) s p) (λ i n. at (payload (after i)) s n)
unfolding token
token-then s p = at-then (num 2) (λ i. payload (after i)) s p
