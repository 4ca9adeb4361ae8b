-- What is found is told by the bytes that it takes: all bytes that begin with them give the same. Assumes nothing.
use Prim.Native.Nat.{ℕ, ◌+◌, ◌-◌, ◌≤◌}
use native.Mathlib.Omega.{arith}
use mathlib.Core.Path.{◌≡◌, refl, sym, ap, ◌∙◌}
use mathlib.Core.Bool.{Bool, true, false}
use mathlib.Core.List.{List, ◌++◌}
use lib.ListN.{length, take, drop}
use lib.Seq.{take_all, take-take, take-add, length-take-le, drop-append_seam}
use lib.Dec.{leb, eqb, leb→le}
use borrow.Author.Tests.{le-leb, leb-false}
use Rattle.form.specs.Numbers.{pick, le}
use Rattle.form.specs.Values.{Value}
use Rattle.form.specs.Table.{Payload, number, text, colour, after}
use Rattle.form.specs.Ids.{CLOSE, CHANNEL}
use Rattle.form.specs.Refusals.{Fault}
use Rattle.form.specs.Readers.{Answer, found, refused, Reader, further, and_then, mapped, ◌followed-by◌, ◌giving◌, give, refuse}
use Rattle.form.specs.Reading.{next, piece, num, string, Channel, channel, alpha_end, with_alpha, ending, headed, judged, channels, rgb, payload, token}
use Rattle.laws.proofs.Found.{All, all-pick, all-mapped, all_then, all-weaken, Next, next-found, piece-there, Whole, channels-whole, alpha-whole}

-- t begins with the first n bytes of s
abbrev pub Begins : ℕ → List ℕ → List ℕ → Type 0
Begins n s t = take n t ≡ take n s

pub begins-front : (n m : ℕ) (s t : List ℕ) → Begins (n + m) s t → Begins n s t
begins-front n m s t e =
    sym (take-take n (n + m) t (omega arith)) ∙ ap (take n) e ∙ take-take n (n + m) s (omega arith)

pub begins-back : (n m : ℕ) (s t : List ℕ) → Begins (n + m) s t → Begins m (drop n s) (drop n t)
begins-back n m s t e =
    let f = begins-front n m s t e in
    let q : take n s ++ take m (drop n t) ≡ take n s ++ take m (drop n s) =
    ap (λ (x : List ℕ). x ++ take m (drop n t)) (sym f) ∙ sym (take-add n m t) ∙ e ∙ take-add n m s
    in
    sym (drop-append_seam (take n s) (take m (drop n t))) ∙ ap (drop (length (take n s))) q ∙ drop-append_seam (take n s) (take m (drop n s))

-- it is as long
pub begins-length : (n : ℕ) (s t : List ℕ) → n ≤ length s → Begins n s t → n ≤ length t
begins-length n s t h e = go (leb n (length t)) refl
  where
    go : (b : Bool) → leb n (length t) ≡ b → n ≤ length t
    go true q = leb→le n (length t) (rw q tt)
    go false q =
        let l = leb-false n (length t) q in
        let z = ap length e in
        let x = ap length (take_all n t (omega arith)) in
        omega (arith, length-take-le n s h)

-- ---- readers

pub record Local {A : Type 0} (f : Reader A) : Type 0 where
  pub of : (s t : List ℕ) → All (λ _ n. Begins n s t → f t ≡ f s) (f s)

-- with what it is found as
all-is : {A : Type 0} (P : A → ℕ → Type 0) (x : Answer A) → All P x → All (λ a n. (x ≡ found a n) × P a n) x
all-is P (found a n) h = (refl, h)
all-is P (refused why) h = tt

local-then : {A B : Type 0} {f : Reader A} {g : A → Reader B} → Local f → ((a : A) → Local (g a)) → Local (f followed-by g)
unfolding ◌followed-by◌ and_then
local-then {A} {B} {f} {g} h k = record {
  of = λ s t.
      all_then _ (λ _ n. Begins n s t → (f followed-by g) t ≡ (f followed-by g) s) f g s (all-is (λ _ n. Begins n s t → f t ≡ f s) (f s) (h.of s t))
      (λ a n x. all-weaken (λ _ m. Begins m (drop n s) (drop n t) → g a (drop n t) ≡ g a (drop n s)) _ (g a (drop n s)) ((k a).of (drop n s) (drop n t))
      (λ b m y e. rw (x.1 (begins-front n m s t e), x.0) (ap (further n) (y (begins-back n m s t e)))));
}

local-giving : {A B : Type 0} {f : Reader A} (g : A → B) → Local f → Local (f giving g)
unfolding ◌giving◌
local-giving {A} {B} {f} g h = record {
  of = λ s t. all-mapped (λ _ n. Begins n s t → f t ≡ f s) _ g (f s) (h.of s t) (λ a n x e. ap (mapped g) (x e));
}

local-give : {A : Type 0} (a : A) → Local (give a)
unfolding give
local-give a = record { of = λ s t e. refl }

local-refuse : {A : Type 0} (why : Fault) → Local (refuse {A = A} why)
unfolding refuse
local-refuse why = record { of = λ s t. tt }

local-pick : {A : Type 0} (b : Bool) {f g : Reader A} → Local f → Local g → Local (pick b f g)
local-pick true h k = h
local-pick false h k = k

-- of what is asked for at once no less is taken
local-piece : {A : Type 0} (n : ℕ) {f : Reader A} → ((s : List ℕ) → All (λ _ k. Whole n s k) (f s)) → Local f → Local (piece n f)
unfolding piece and_then
local-piece {A} n {f} whole h = record {
  of = λ s t. go s t (next n s) (next-found n s);
}
  where
    go : (s t : List ℕ) (x : Answer (List ℕ)) → All (Next n s) x → All (λ _ k. Begins k s t → piece n f t ≡ and_then x (λ _ _. f s)) (and_then x (λ _ _. f s))
    go s t (found u k) y = both_found (f s) (whole s) (h.of s t)
      where
        both_found : (z : Answer A) → All (λ _ k. Whole n s k) z → All (λ _ k. Begins k s t → f t ≡ f s) z → All (λ _ k. Begins k s t → piece n f t ≡ f s) z
        both_found (found a k) l e = λ b.
            let d : n + (k - n) ≡ k = omega arith in
            piece-there n f t (begins-length n s t y.there (begins-front n (k - n) s t (rw d b))) ∙ e b
        both_found (refused why) l e = tt
    go s t (refused why) y = tt

-- ---- bytes, numbers and texts

local-next : (n : ℕ) → Local (next n)
unfolding next
local-next n = record {
  of = λ s t.
      all-pick (λ _ k. Begins k s t → next n t ≡ next n s) (leb n (length s)) _ _
      (λ l e.
      let h = leb→le n (length s) l in
      rw (le-leb n (length s) h, le-leb n (length t) (begins-length n s t h e), e))
      tt;
}

local-num : (w : ℕ) → Local (num w)
unfolding num
local-num w = local-giving le (local-next w)

local-string : Local string
unfolding string
local-string = local-then (local-num 2) local-next

-- ---- a colour, a token

local-channel : Local channel
unfolding channel
local-channel = local-then (local-num 2) (λ i. local-giving _ (local-num 4))

local-alpha : (r g b : ℕ) → Local (with_alpha r g b)
unfolding with_alpha alpha_end
local-alpha r g b = local-piece 6 (alpha-whole r g b) end
  where
    end : Local (alpha_end r g b)
    end = local-then (local-num 4) (λ a. local-then (local-num 2) (λ e. local-pick (eqb e CLOSE) (local-give _) (local-refuse _)))

local-ending : (e r g b : ℕ) → Local (ending e r g b)
unfolding ending
local-ending e r g b = local-pick (eqb e CLOSE) (local-give _) (local-pick (eqb e CHANNEL) (local-alpha r g b) (local-refuse _))

local-judged : (o : ℕ) (r g b : Channel) (e : ℕ) → Local (judged o r g b e)
unfolding judged
local-judged o r g b e = local-pick (headed o r.tag g.tag b.tag) (local-ending e r.value g.value b.value) (local-refuse _)

local-channels : Local channels
unfolding channels
local-channels =
    local-then (local-num 2) (λ o.
    local-then local-channel (λ r.
    local-then local-channel (λ g.
    local-then local-channel (λ b.
    local-then (local-num 2) (λ e. local-judged o r g b e)))))

local-rgb : Local rgb
unfolding rgb
local-rgb = local-piece 22 channels-whole local-channels

local-payload : (p : Payload) → Local (payload p)
unfolding payload
local-payload (number w f) = local-giving f (local-num w)
local-payload (text f) = local-giving f local-string
local-payload colour = local-rgb

local-token : Local token
unfolding token
local-token = local-then (local-num 2) (λ i. local-payload (after i))

-- a token that is found is found in all bytes that begin with its own
pub token_begins : (s t : List ℕ) {v : Value} {n : ℕ} → token s ≡ found v n → Begins n s t → token t ≡ found v n
token_begins s t {v} {n} e b = go (token s) refl e (local-token.of s t)
  where
    go : (x : Answer Value) → token s ≡ x → x ≡ found v n → All (λ _ m. Begins m s t → token t ≡ token s) x → token t ≡ found v n
    go (found w m) f q h = let z : m ≡ n = cc in h (rw z b) ∙ f ∙ q
    go (refused why) f q h = cc
