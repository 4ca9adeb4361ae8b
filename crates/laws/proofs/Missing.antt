-- What is missing: so many bytes more make the read that was short succeed, and with fewer more it is short by the rest. Assumes nothing.
use Prim.Native.Nat.{ℕ, ◌+◌, ◌-◌, ◌≤◌, ◌<◌, zero-le}
use native.Mathlib.Omega.{arith}
use mathlib.Core.Path.{◌≡◌, refl, ap, ◌∙◌}
use mathlib.Core.Bool.{Bool, true, false}
use mathlib.Core.List.{List, ◌++◌}
use lib.ListN.{length, take, drop, length-append, length-drop}
use lib.Seq.{take_all, take-append-le, drop-append-le}
use lib.Dec.{leb, eqb}
use borrow.Author.Tests.{leb-true, leb-false, lt-leb}
use Rattle.form.specs.Numbers.{pick, le}
use Rattle.form.specs.Table.{Payload, number, text, colour, after}
use Rattle.form.specs.Ids.{CLOSE, CHANNEL}
use Rattle.form.specs.Refusals.{too_short, bad_colour}
use Rattle.form.specs.Readers.{Answer, found, refused, Reader, further, and_then, mapped, ◌followed-by◌, ◌giving◌, give, refuse}
use Rattle.form.specs.Reading.{next, piece, num, string, Channel, channel, alpha_end, with_alpha, ending, headed, judged, channels, rgb, payload, token}
use Rattle.laws.proofs.Never.{never}
use Rattle.laws.proofs.Found.{next-there, piece-there}

-- ---- so many bytes more

-- bytes that are too few lack the difference
next-short : (n : ℕ) (s : List ℕ) → length s < n → next n s ≡ refused (too_short (n - length s))
unfolding next
next-short n s h = rw (lt-leb n (length s) h)

-- those that are refused are too few, by what is missing
next-few : (n : ℕ) (s : List ℕ) {m : ℕ} → next n s ≡ refused (too_short m) → (1 ≤ m) × (length s + m ≡ n)
unfolding next
next-few n s {m} e = go (leb n (length s)) refl e
  where
    go : (b : Bool) → leb n (length s) ≡ b → pick b (found (take n s) n) (refused (too_short (n - length s))) ≡ refused (too_short m) → (1 ≤ m) × (length s + m ≡ n)
    go true t e = never (cc)
    go false t e = let h = leb-false n (length s) t in let d : n - length s ≡ m = cc in (omega arith, omega arith)

-- bytes that are as many as are asked for are read
next-all : (n : ℕ) (s : List ℕ) → length s ≡ n → next n s ≡ found s n
next-all n s h = next-there n s (omega arith) ∙ ap (λ (t : List ℕ). found t n) (take_all n s (omega arith))

-- what is missing is a byte at least, and so many more, whatever they are, are read
pub next-lacks : (n : ℕ) (s : List ℕ) {m : ℕ} → next n s ≡ refused (too_short m) → (1 ≤ m) × ((t : List ℕ) → length t ≡ m → next n (s ++ t) ≡ found (s ++ t) n)
next-lacks n s e = let k = next-few n s e in (k.0, λ t l. next-all n (s ++ t) (omega (arith, k.1, length-append s t)))

-- the same of bytes that are asked for at once: they are read by f
pub piece-lacks : {A : Type 0} (n : ℕ) (f : Reader A) (s : List ℕ) {m : ℕ} → length s < n → piece n f s ≡ refused (too_short m)
    → (1 ≤ m) × ((t : List ℕ) → length t ≡ m → piece n f (s ++ t) ≡ f (s ++ t))
unfolding piece and_then
piece-lacks n f s {m} h e =
    let q : refused (too_short (n - length s)) ≡ refused (too_short m) = rw (next-short n s h) at e in
    let d : n - length s ≡ m = cc in
    (omega arith, λ t l. piece-there n f (s ++ t) (omega (arith, length-append s t)))

-- ---- fewer bytes more

-- what more bytes make of an answer: what was found is found again; what was too short is short by the rest, as long as that is something;
-- and what was no colour is none
abbrev pub Lasts : {A : Type 0} → Reader A → List ℕ → Answer A → Type 0
Lasts f s (found a n) = (n ≤ length s) × ((t : List ℕ) → f (s ++ t) ≡ found a n)
Lasts f s (refused (too_short m)) = (1 ≤ m) × ((t : List ℕ) → length t < m → f (s ++ t) ≡ refused (too_short (m - length t)))
Lasts f s (refused bad_colour) = (t : List ℕ) → f (s ++ t) ≡ refused bad_colour

pub record Lacking {A : Type 0} (f : Reader A) : Type 0 where
  pub of : (s : List ℕ) → Lasts f s (f s)

lacking-then : {A B : Type 0} {f : Reader A} {g : A → Reader B} → Lacking f → ((a : A) → Lacking (g a)) → Lacking (f followed-by g)
unfolding ◌followed-by◌ and_then further
lacking-then {A} {B} {f} {g} h k = record { of = λ s. go s (f s) (h.of s) }
  where
    go : (s : List ℕ) (x : Answer A) → Lasts f s x → Lasts (f followed-by g) s (and_then x (λ a n. further n (g a (drop n s))))
    go s (found a n) x = on (g a (drop n s)) ((k a).of (drop n s))
      where
        again : (t : List ℕ) → (f followed-by g) (s ++ t) ≡ further n (g a (drop n s ++ t))
        again t = rw (x.1 t, drop-append-le n s t x.0)

        on : (y : Answer B) → Lasts (g a) (drop n s) y → Lasts (f followed-by g) s (further n y)
        on (found b m) y = (omega (arith, x.0, y.0, length-drop n s), λ t. again t ∙ ap (further n) (y.1 t))
        on (refused (too_short m)) y = (y.0, λ t l. again t ∙ ap (further n) (y.1 t l))
        on (refused bad_colour) y = λ t. again t ∙ ap (further n) (y t)
    go s (refused (too_short m)) x = (x.0, λ t l. rw (x.1 t l))
    go s (refused bad_colour) x = λ t. rw (x t)

lacking-giving : {A B : Type 0} {f : Reader A} (g : A → B) → Lacking f → Lacking (f giving g)
unfolding ◌giving◌ mapped
lacking-giving {A} {B} {f} g h = record { of = λ s. go s (f s) (h.of s) }
  where
    go : (s : List ℕ) (x : Answer A) → Lasts f s x → Lasts (f giving g) s (mapped g x)
    go s (found a n) x = (x.0, λ t. ap (mapped g) (x.1 t))
    go s (refused (too_short m)) x = (x.0, λ t l. ap (mapped g) (x.1 t l))
    go s (refused bad_colour) x = λ t. ap (mapped g) (x t)

lacking-give : {A : Type 0} (a : A) → Lacking (give a)
unfolding give
lacking-give a = record { of = λ s. (zero-le, λ t. refl) }

lacking-refuse : {A : Type 0} → Lacking (refuse {A = A} bad_colour)
unfolding refuse
lacking-refuse = record { of = λ s t. refl }

lacking-pick : {A : Type 0} (b : Bool) {f g : Reader A} → Lacking f → Lacking g → Lacking (pick b f g)
lacking-pick true h k = h
lacking-pick false h k = k

-- too few with those that follow: the rest is missing
shorter : (n : ℕ) (s t : List ℕ) → length (s ++ t) < n → next n (s ++ t) ≡ refused (too_short (n - length s - length t))
shorter n s t h = next-short n (s ++ t) h ∙ ap (λ (m : ℕ). refused (too_short m)) (omega (arith, length-append s t))

lacking-next : (n : ℕ) → Lacking (next n)
unfolding next
lacking-next n = record { of = λ s. go s (leb n (length s)) refl }
  where
    go : (s : List ℕ) (b : Bool) → leb n (length s) ≡ b → Lasts (next n) s (pick b (found (take n s) n) (refused (too_short (n - length s))))
    go s true e =
        let h = leb-true n (length s) e in
        (h, λ t. next-there n (s ++ t) (omega (arith, length-append s t)) ∙ ap (λ (u : List ℕ). found u n) (take-append-le n s t h))
    go s false e = let h = leb-false n (length s) e in (omega arith, λ t l. shorter n s t (omega (arith, length-append s t)))

lacking-piece : {A : Type 0} (n : ℕ) {f : Reader A} → Lacking f → Lacking (piece n f)
unfolding piece and_then
lacking-piece {A} n {f} h = record { of = λ s. go s (next n s) ((lacking-next n).of s) }
  where
    go : (s : List ℕ) (x : Answer (List ℕ)) → Lasts (next n) s x → Lasts (piece n f) s (and_then x (λ _ _. f s))
    go s (found u k) x = on (f s) (h.of s)
      where
        on : (y : Answer A) → Lasts f s y → Lasts (piece n f) s y
        on (found b m) y = (y.0, λ t. rw (x.1 t) (y.1 t))
        on (refused (too_short m)) y = (y.0, λ t l. rw (x.1 t) (y.1 t l))
        on (refused bad_colour) y = λ t. rw (x.1 t) (y t)
    go s (refused (too_short m)) x = (x.0, λ t l. rw (x.1 t l))
    go s (refused bad_colour) x = λ t. rw (x t)

-- ---- a token

lacking-num : (w : ℕ) → Lacking (num w)
unfolding num
lacking-num w = lacking-giving le (lacking-next w)

lacking-string : Lacking string
unfolding string
lacking-string = lacking-then (lacking-num 2) lacking-next

lacking-channel : Lacking channel
unfolding channel
lacking-channel = lacking-then (lacking-num 2) (λ i. lacking-giving _ (lacking-num 4))

lacking-alpha : (r g b : ℕ) → Lacking (with_alpha r g b)
unfolding with_alpha alpha_end
lacking-alpha r g b = lacking-piece 6 end
  where
    end : Lacking (alpha_end r g b)
    end = lacking-then (lacking-num 4) (λ a. lacking-then (lacking-num 2) (λ e. lacking-pick (eqb e CLOSE) (lacking-give _) lacking-refuse))

lacking-ending : (e r g b : ℕ) → Lacking (ending e r g b)
unfolding ending
lacking-ending e r g b = lacking-pick (eqb e CLOSE) (lacking-give _) (lacking-pick (eqb e CHANNEL) (lacking-alpha r g b) lacking-refuse)

lacking-judged : (o : ℕ) (r g b : Channel) (e : ℕ) → Lacking (judged o r g b e)
unfolding judged
lacking-judged o r g b e = lacking-pick (headed o r.tag g.tag b.tag) (lacking-ending e r.value g.value b.value) lacking-refuse

lacking-rgb : Lacking rgb
unfolding rgb channels
lacking-rgb =
    lacking-piece 22
    (lacking-then (lacking-num 2) (λ o.
    lacking-then lacking-channel (λ r.
    lacking-then lacking-channel (λ g.
    lacking-then lacking-channel (λ b.
    lacking-then (lacking-num 2) (λ e. lacking-judged o r g b e))))))

lacking-payload : (p : Payload) → Lacking (payload p)
unfolding payload
lacking-payload (number w f) = lacking-giving f (lacking-num w)
lacking-payload (text f) = lacking-giving f lacking-string
lacking-payload colour = lacking-rgb

-- all that more bytes make of a token
pub lacking-token : Lacking token
unfolding token
lacking-token = lacking-then (lacking-num 2) (λ i. lacking-payload (after i))

-- a token that is short is so with fewer bytes more than are missing, whatever they are: by the rest
pub token-lacks : (s : List ℕ) {m : ℕ} → token s ≡ refused (too_short m)
    → (1 ≤ m) × ((t : List ℕ) → length t < m → token (s ++ t) ≡ refused (too_short (m - length t)))
token-lacks s e = rw e at (lacking-token.of s)
