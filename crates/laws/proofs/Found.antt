-- What holds of whatever a reading finds: how many bytes it took, and where they stand. Assumes nothing.
use Prim.Native.Nat.{ℕ, ◌+◌, ◌^◌, ◌≤◌, ◌<◌}
use native.Mathlib.Omega.{arith}
use mathlib.Core.Path.{◌≡◌, refl, ap, ◌∙◌}
use mathlib.Core.Bool.{Bool, true, false}
use mathlib.Core.Option.{none, some}
use mathlib.Core.List.{List}
use lib.ListN.{length, take, drop, length-drop}
use lib.Seq.{length-take-le}
use lib.Dec.{T, leb, eqb, leb→le}
use borrow.Author.Tests.{le-leb}
use Rattle.form.specs.Numbers.{pick, le, Bytes}
use Rattle.form.specs.Refusals.{Fault}
use Rattle.form.specs.Values.{Value, Rgb}
use Rattle.form.specs.Table.{Payload, number, text, colour, after}
use Rattle.form.specs.Ids.{CLOSE, CHANNEL}
use Rattle.form.specs.Readers.{Answer, found, refused, Reader, further, and_then, mapped, ◌followed-by◌, give, refuse, ◌giving◌}
use Rattle.form.specs.Reading.{next, piece, num, string, Channel, channel, alpha_end, with_alpha, ending, headed, judged, channels, rgb, payload, token}
use Rattle.laws.proofs.LittleEndian.{le-take-lt, take-bytes, drop-bytes}

-- ---- answers

-- P holds of what was found and of the count, if there is such
abbrev pub All : {A : Type 0} → (A → ℕ → Type 0) → Answer A → Type 0
All P (found a n) = P a n
All P (refused why) = Unit {0}

pub all-pick : {A : Type 0} (P : A → ℕ → Type 0) (b : Bool) (x y : Answer A) → (T b → All P x) → All P y → All P (pick b x y)
all-pick P true x y f g = f tt
all-pick P false x y f g = g

pub all-mapped : {A B : Type 0} (P : A → ℕ → Type 0) (Q : B → ℕ → Type 0) (g : A → B) (x : Answer A) → All P x → ((a : A) (n : ℕ) → P a n → Q (g a) n) → All Q (mapped g x)
unfolding mapped
all-mapped P Q g (found a n) h k = k a n h
all-mapped P Q g (refused why) h k = tt

all-further : {B : Type 0} (Q : B → ℕ → Type 0) (k : ℕ) (x : Answer B) → All (λ b m. Q b (k + m)) x → All Q (further k x)
unfolding further
all-further Q k (found b m) h = h
all-further Q k (refused why) h = tt

-- what f finds, and what g then finds
pub all_then : {A B : Type 0} (P : A → ℕ → Type 0) (Q : B → ℕ → Type 0) (f : Reader A) (g : A → Reader B) (s : List ℕ) → All P (f s)
    → ((a : A) (n : ℕ) → P a n → All (λ b m. Q b (n + m)) (g a (drop n s))) → All Q ((f followed-by g) s)
unfolding ◌followed-by◌ and_then
all_then P Q f g s h k = go (f s) h
  where
    go : (x : Answer _) → All P x → All Q (and_then x (λ a n. further n (g a (drop n s))))
    go (found a n) h = all-further Q n (g a (drop n s)) (k a n h)
    go (refused why) h = tt

pub all-weaken : {A : Type 0} (P Q : A → ℕ → Type 0) (x : Answer A) → All P x → ((a : A) (n : ℕ) → P a n → Q a n) → All Q x
all-weaken P Q (found a n) h k = k a n h
all-weaken P Q (refused why) h k = tt

refuse-all : (P : Value → ℕ → Type 0) (why : Fault) (s : List ℕ) → All P (refuse why s)
unfolding refuse
refuse-all P why s = tt

pick_all : (P : Value → ℕ → Type 0) (b : Bool) (f g : Reader Value) (s : List ℕ) → All P (f s) → All P (g s) → All P (pick b f g s)
pick_all P true f g s x y = x
pick_all P false f g s x y = y

-- ---- bytes, numbers and texts

-- the next n bytes
pub record Next (n : ℕ) (s t : List ℕ) (k : ℕ) : Type 0 where
  pub count : k ≡ n
  pub there : n ≤ length s
  pub is : t ≡ take n s

pub next-found : (n : ℕ) (s : List ℕ) → All (Next n s) (next n s)
unfolding next
next-found n s = all-pick (Next n s) (leb n (length s)) _ _ (λ l. record { count = refl; there = leb→le _ _ l; is = refl }) tt

pub next-there : (n : ℕ) (s : List ℕ) → n ≤ length s → next n s ≡ found (take n s) n
unfolding next
next-there n s h = rw (le-leb n (length s) h)

-- what is asked for at once and is there is read
pub piece-there : {A : Type 0} (n : ℕ) (f : Reader A) (s : List ℕ) → n ≤ length s → piece n f s ≡ f s
unfolding piece and_then
piece-there n f s h = rw (next-there n s h)

pub all-piece : {A : Type 0} (P : A → ℕ → Type 0) (n : ℕ) (f : Reader A) (s : List ℕ) → All P (f s) → All P (piece n f s)
unfolding piece and_then
all-piece P n f s h = go (next n s)
  where
    go : (x : Answer (List ℕ)) → All P (and_then x (λ _ _. f s))
    go (found t k) = h
    go (refused why) = tt

-- a number of w bytes
pub record Number (w : ℕ) (s : List ℕ) (x n : ℕ) : Type 0 where
  pub is : x ≡ le (take w s)
  pub count : n ≡ w
  pub there : w ≤ length s
  pub small : Bytes s → x < 256 ^ w

pub num-found : (w : ℕ) (s : List ℕ) → All (Number w s) (num w s)
unfolding num ◌giving◌
num-found w s =
    all-mapped (Next w s) (Number w s) le (next w s) (next-found w s)
    (λ t n k. record { is = ap le k.is; count = k.count; there = k.there; small = λ h. rw k.is (le-take-lt w s h) })

-- a text after its length
pub record Text (s t : List ℕ) (m : ℕ) : Type 0 where
  pub count : m ≡ 2 + length t
  pub there : m ≤ length s
  pub is : t ≡ take (length t) (drop 2 s)
  pub bytes : Bytes s → Bytes t
  pub short : Bytes s → length t < 65536

text-found : (s : List ℕ) {x n : ℕ} → Number 2 s x n → (t : List ℕ) (m : ℕ) → Next x (drop n s) t m → Text s t (n + m)
text-found s {x} {n} k t m l =
    let size : length t ≡ x = ap length l.is ∙ length-take-le x (drop n s) l.there in
    record {
      count = omega (arith, k.count, l.count);
      there = omega (arith, k.count, k.there, l.count, l.there, length-drop n s);
      is = rw (size, ← k.count) l.is;
      bytes = λ h. rw l.is (take-bytes x (drop n s) (drop-bytes n s h));
      short = λ h. omega (arith, k.small h);
    }

pub string-found : (s : List ℕ) → All (Text s) (string s)
unfolding string
string-found s =
    all_then (Number 2 s) (Text s) (num 2) next s (num-found 2 s)
    (λ x n k. all-weaken (Next x (drop n s)) (λ t m. Text s t (n + m)) (next x (drop n s)) (next-found x (drop n s)) (text-found s k))

-- ---- a colour

abbrev Small : ℕ → Type 0
Small x = x < 2 ^ 32

record Sextet (s : List ℕ) (c : Channel) (n : ℕ) : Type 0 where
  count : n ≡ 6
  there : 6 ≤ length s
  small : Bytes s → Small c.value

channel-found : (s : List ℕ) → All (Sextet s) (channel s)
unfolding channel ◌giving◌
channel-found s =
    all_then (Number 2 s) (Sextet s) (num 2) _ s (num-found 2 s)
    (λ x n k. all-mapped (Number 4 (drop n s)) (λ c m. Sextet s c (n + m)) _ (num 4 (drop n s)) (num-found 4 (drop n s))
    (λ y m l. record {
      count = omega (arith, k.count, l.count);
      there = omega (arith, k.count, k.there, l.there, length-drop n s);
      small = λ h. l.small (drop-bytes n s h);
    }))

-- what holds of each colour of three channels in 22 bytes, and of each of four in 28, holds of any that is found
module _ (P : Value → ℕ → Type 0) (s : List ℕ)
    (three : (r g b : ℕ) → 22 ≤ length s → (Bytes s → Small r × Small g × Small b) → P (Rgb r g b none) 22)
    (four : (r g b a : ℕ) → 28 ≤ length s → (Bytes s → Small r × Small g × Small b × Small a) → P (Rgb r g b (some a)) 28) where
  module _ (r g b : ℕ) (small : Bytes s → Small r × Small g × Small b) (t : List ℕ) (left : 22 + length t ≡ length s) (bytes : Bytes s → Bytes t) where
    alpha-found : All (λ v m. P v (22 + m)) (alpha_end r g b t)
    unfolding alpha_end give
    alpha-found =
        all_then (Number 4 t) (λ v m. P v (22 + m)) (num 4) _ t (num-found 4 t)
        (λ a i x. all_then (Number 2 (drop i t)) (λ v m. P v (22 + (i + m))) (num 2) _ (drop i t) (num-found 2 (drop i t))
        (λ c j y. pick_all _ (eqb c CLOSE) _ _ (drop j (drop i t))
        (rw (x.count, y.count)
        (four r g b a (omega (arith, x.count, x.there, y.there, length-drop i t))
        (λ h. let k = small h in (k.0, k.1, k.2, x.small (bytes h)))))
        (refuse-all _ _ _)))

    ending-found : (e : ℕ) → All (λ v m. P v (22 + m)) (ending e r g b t)
    unfolding ending with_alpha give
    ending-found e =
        pick_all _ (eqb e CLOSE) _ _ t (three r g b (omega arith) small)
        (pick_all _ (eqb e CHANNEL) _ _ t (all-piece _ 6 (alpha_end r g b) t alpha-found) (refuse-all _ _ _))

  channels-found : All P (channels s)
  unfolding channels judged
  channels-found =
      all_then (Number 2 s) P (num 2) _ s (num-found 2 s) (λ o i x.
      let s1 = drop i s in let l1 = length-drop i s in
      all_then (Sextet s1) (λ v m. P v (i + m)) channel _ s1 (channel-found s1) (λ r j y.
      let s2 = drop j s1 in let l2 = length-drop j s1 in
      all_then (Sextet s2) (λ v m. P v (i + (j + m))) channel _ s2 (channel-found s2) (λ g k z.
      let s3 = drop k s2 in let l3 = length-drop k s2 in
      all_then (Sextet s3) (λ v m. P v (i + (j + (k + m)))) channel _ s3 (channel-found s3) (λ b l u.
      let s4 = drop l s3 in let l4 = length-drop l s3 in
      all_then (Number 2 s4) (λ v m. P v (i + (j + (k + (l + m))))) (num 2) _ s4 (num-found 2 s4) (λ e n w.
      let s5 = drop n s4 in let l5 = length-drop n s4 in
      let d : 22 + length s5 ≡ length s = omega (arith, x.count, x.there, y.count, y.there, z.count, z.there, u.count, u.there, w.count, w.there) in
      let b1 : Bytes s → Bytes s1 = drop-bytes i s in
      let b2 : Bytes s → Bytes s2 = λ h. drop-bytes j s1 (b1 h) in
      let b3 : Bytes s → Bytes s3 = λ h. drop-bytes k s2 (b2 h) in
      let b5 : Bytes s → Bytes s5 = λ h. drop-bytes n s4 (drop-bytes l s3 (b3 h)) in
      all-weaken (λ v m. P v (22 + m)) (λ v m. P v (i + (j + (k + (l + (n + m)))))) (judged o r g b e s5)
      (pick_all _ (headed o r.tag g.tag b.tag) _ _ s5
      (ending-found r.value g.value b.value (λ h. (y.small (b1 h), z.small (b2 h), u.small (b3 h))) s5 d b5 e)
      (refuse-all _ _ _))
      (λ v m q. let p : i + (j + (k + (l + (n + m)))) ≡ 22 + m = omega (arith, x.count, y.count, z.count, u.count, w.count) in rw p q))))))

  pub rgb-found : All P (rgb s)
  unfolding rgb
  rgb-found = all-piece P 22 channels s channels-found

-- no less is taken than was asked for, and it ends within the bytes
pub record Whole (n : ℕ) (s : List ℕ) (k : ℕ) : Type 0 where
  pub takes : n ≤ k
  pub there : k ≤ length s

pub channels-whole : (s : List ℕ) → All (λ _ k. Whole 22 s k) (channels s)
channels-whole s =
    channels-found (λ _ k. Whole 22 s k) s (λ r g b l _. record { takes = omega arith; there = l }) (λ r g b a l _. record { takes = omega arith; there = l })

pub alpha-whole : (r g b : ℕ) (s : List ℕ) → All (λ _ k. Whole 6 s k) (alpha_end r g b s)
unfolding alpha_end give
alpha-whole r g b s =
    all_then (Number 4 s) (λ _ k. Whole 6 s k) (num 4) _ s (num-found 4 s) (λ a i x.
    all_then (Number 2 (drop i s)) (λ _ k. Whole 6 s (i + k)) (num 2) _ (drop i s) (num-found 2 (drop i s)) (λ c j y.
    pick_all _ (eqb c CLOSE) _ _ (drop j (drop i s))
    (record { takes = omega (arith, x.count, y.count); there = omega (arith, x.count, x.there, y.count, y.there, length-drop i s) })
    (refuse-all _ _ _)))

-- ---- a token

-- a payload ends within the bytes
pub payload-in : (p : Payload) (s : List ℕ) → All (λ _ n. n ≤ length s) (payload p s)
unfolding payload ◌giving◌
payload-in (number w f) s = all-mapped (Number w s) (λ _ n. n ≤ length s) f (num w s) (num-found w s) (λ _ n k. omega (arith, k.count, k.there))
payload-in (text f) s = all-mapped (Text s) (λ _ n. n ≤ length s) f (string s) (string-found s) (λ _ n k. k.there)
payload-in colour s = rgb-found (λ _ n. n ≤ length s) s (λ r g b l _. l) (λ r g b a l _. l)

-- each token takes two bytes at least, and ends within the bytes
pub record Within (s : List ℕ) (n : ℕ) : Type 0 where
  pub some : 2 ≤ n
  pub there : n ≤ length s

pub token-in : (s : List ℕ) → All (λ _ n. Within s n) (token s)
unfolding token
token-in s =
    all_then (Number 2 s) (λ _ n. Within s n) (num 2) (λ i. payload (after i)) s (num-found 2 s)
    (λ i n k. all-weaken (λ _ m. m ≤ length (drop n s)) (λ _ m. Within s (n + m)) (payload (after i) (drop n s)) (payload-in (after i) (drop n s))
    (λ v m l. record { some = omega (arith, k.count); there = omega (arith, k.count, k.there, length-drop n s) }))
