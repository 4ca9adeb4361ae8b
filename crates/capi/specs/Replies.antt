-- What an exported function replies: the number that it returns, and eight words for the list that it is lent.
use Rattle.std.specs.Prelude.{ℕ, zero, suc, List, [], ◌∷◌, ◌++◌, length, drop, leb}
use Rattle.std.proofs.Math.Option.{Option, none, some}
use Rattle.form.specs.Numbers.{pick}
use Rattle.form.specs.Refusals.{Refusal, refusal_number, refusal_values}
use Rattle.form.specs.Calls.{Call, gives, refuses}

-- ---- the numbers, beside those of the refusals

abbrev pub ANSWERED : ℕ
ANSWERED = 0

abbrev pub NONE : ℕ
NONE = 9

abbrev pub SHORT_ANSWER : ℕ
SHORT_ANSWER = 100

abbrev pub BAD_ARGUMENT : ℕ
BAD_ARGUMENT = 101

-- ---- replies

pub record Reply : Type 0 where
  pub code : ℕ
  pub words : List ℕ

-- the first k words, with zeros where there are fewer
abbrev pub padded : ℕ → List ℕ → List ℕ
padded zero ws = []
padded (suc k) [] = 0 ∷ padded k []
padded (suc k) (w ∷ ws) = w ∷ padded k ws

-- a number, and a place with what is said there
abbrev pub reply : ℕ → ℕ → List ℕ → Reply
reply k p ws = record { code = k; words = p ∷ padded 7 ws }

abbrev pub answered : ℕ → List ℕ → Reply
answered p ws = reply ANSWERED p ws

-- a refusal has its own number
abbrev pub refused : ℕ → Refusal → Reply
refused p r = reply (refusal_number r) p (refusal_values r)

-- there is none
abbrev pub absent : ℕ → Reply
absent p = reply NONE p []

-- ---- the reply to a call, by the words of its value

abbrev pub reply_of : {A : Type 0} → (A → List ℕ) → Call A → Reply
reply_of words (gives a c) = answered c.at (words a)
reply_of words (refuses r c) = refused c.at r

abbrev pub reply_or_none : {A : Type 0} → (A → List ℕ) → Call (Option A) → Reply
reply_or_none words (gives (some a) c) = answered c.at (words a)
reply_or_none words (gives none c) = absent c.at
reply_or_none words (refuses r c) = refused c.at r

-- ---- what the caller has then: the number returned, and the list

pub record Returned : Type 0 where
  pub number : ℕ
  pub list : List ℕ

abbrev pub returned : ℕ → List ℕ → Returned
returned k l = record { number = k; list = l }

-- a list of fewer than eight words is left alone; of a longer one the first eight are filled
unfoldable pub into : List ℕ → Reply → Returned
into l r = pick (leb 8 (length l)) (returned r.code (r.words ++ drop 8 l)) (returned SHORT_ANSWER l)
