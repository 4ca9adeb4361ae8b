-- What a branch on an answer leaves, and what `?` hands on. Assumes nothing.
use Prim.Native.Nat.{ℕ}
use mathlib.Core.Path.{◌≡◌, refl, sym, ap, ◌∙◌, subst}
use Rattle.form.specs.Refusals.{Fault}
use Rattle.form.specs.Readers.{Answer, found, refused, and_then, placed}
use Rattle.std.specs.Prelude.{Result, Ok, Err, IsErr}
use Rattle.std.specs.Result.{MatchResult, IsErrAnd}
use Rattle.laws.proofs.Never.{never}
use Rattle.payload.specs.Answers.{read_as, lexed_as}
use Rattle.payload.specs.declared.answers.Eof.{Eof}
use Rattle.payload.specs.declared.answers.LexError.{LexError}
use Rattle.payload.specs.declared.answers.LexError.TheVariants.{Eof as Lacks}

-- what was asked for, by the answer as the branch has it: a value or a refusal
pub got_of : {E A : Type 0} (answer : E → Answer A) {r t : E} {a : Answer A} → answer r ≡ a → r ≡ t → a ≡ answer t
got_of answer p q = sym p ∙ ap answer q

-- what `?` returns, where this is the error that it makes
pub handed : {V E : Type 0} {e : E} (r : Result V E) → IsErr r × IsErrAnd r (λ x. x ≡ e) → r ≡ Err e
handed (Ok x) h = absurd h.1
handed (Err x) h = ap Err h.1

-- where what bytes lack is handed on as what a token is refused for
abbrev pub Lacked : {V W : Type 0} → Result V Eof → Result W LexError → Type 0
Lacked read r = MatchResult read (λ _. ⊥) (λ e. r ≡ Err (Lacks e.0))

pub lacked : {V W A B : Type 0} (value : V → A) (made : W → B) (read : Result (V × ℕ) Eof) (r : Result (W × ℕ) LexError) → Lacked read r
    → {x : Answer A} → read_as value read ≡ x → (f : A → ℕ → Answer B) → lexed_as made r ≡ and_then x f
unfolding and_then
lacked value made (Ok y) r l e f = absurd l
lacked value made (Err d) r l e f = rw (l, sym e)

-- what `map_err` was given, by what it returns: its closure makes errors as P says
module _ {V E D : Type 0} (P : E → D → Type 0) where
  pub given_ok : (r : Result V E) {t : Result V D} {x : V} → MatchResult r (λ y. t ≡ Ok y) (λ e. IsErrAnd t (P e)) → t ≡ Ok x → r ≡ Ok x
  given_ok (Ok y) {t} {x} h k =
      let e : ◌≡◌ {A = Result V D} (Ok y) (Ok x) = sym h ∙ k in
      let q : y ≡ x = cc in
      ap Ok q
  given_ok (Err e) h k = absurd (subst (λ t. IsErrAnd t (P e)) k h)

  pub given_err : (r : Result V E) {t : Result V D} {d : D} → MatchResult r (λ y. t ≡ Ok y) (λ e. IsErrAnd t (P e)) → t ≡ Err d → (e : E) × (r ≡ Err e) × P e d
  given_err (Ok y) {t} {d} h k = let e : Ok y ≡ Err d = sym h ∙ k in never (cc)
  given_err (Err e) h k = (e, refl, subst (λ t. IsErrAnd t (P e)) k h)

-- where the answer holds a place in what was read: what was read, and the refusal, are as they were
module _ {A B : Type 0} (f : ℕ → A → B) where
  pub placed-found : (x : Answer A) {b : B} {n : ℕ} → placed f x ≡ found b n → (a : A) × (x ≡ found a n)
  unfolding placed
  placed-found (found a m) {b} {n} e = let k : m ≡ n = cc in (a, ap (found a) k)
  placed-found (refused why) e = never (cc)

  pub placed-refused : (x : Answer A) {why : Fault} → placed f x ≡ refused why → x ≡ refused why
  unfolding placed
  placed-refused (found a n) e = never (cc)
  placed-refused (refused w) {why} e = let k : w ≡ why = cc in ap refused k
