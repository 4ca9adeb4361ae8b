-- Any two results that a promise allows are equal: each answer can be read back from what it stands for. Each theorem is for every call that
-- gives the answer of its name, and `plain-one` for those whose value stands for itself: a number, a truth, a text or a token. The other calls'
-- promises are plain equations. Assumes nothing.
use Prim.Native.Nat.{ℕ}
use mathlib.Core.Path.{◌≡◌, refl, sym, ap, ◌∙◌}
use mathlib.Core.Option.{Option}
use mathlib.Core.List.{[], ◌∷◌}
use Rattle.std.specs.Prelude.{Result, Ok, Err, Option as MayBe, Some, None}
use Rattle.form.specs.Refusals as F
use Rattle.form.specs.Values.{Value}
use Rattle.form.specs.Calls.{Cursor, Call}
use Rattle.laws.proofs.Unique.{same, eof_or_number}
use Rattle.lexeme.specs.declared.LexemeId.{LexemeId}
use Rattle.payload.specs.Answers.{option_as, colour_of}
use Rattle.payload.specs.declared.answers.LexError.{LexError}
use Rattle.payload.specs.declared.answers.LexError.TheVariants.{Eof, InvalidRgb}
use Rattle.payload.specs.declared.answers.Rgb.{Rgb}
use Rattle.payload.proofs.Unique.{colour-one}
use Rattle.token.specs.declared.Token.{Token}
use Rattle.lexer.specs.Calls.{cursor_of, refusal_of, read_call, next_call, staying_call, skip_call}
use Rattle.lexer.specs.declared.Lexer.{Lexer}
use Rattle.lexer.specs.declared.answers.Halt.{Halt}
use Rattle.lexer.specs.declared.answers.Refusal.{Refusal}
use Rattle.lexer.specs.declared.answers.Refusal.TheVariants.{Lexed, BadPlace}

abbrev lexer_of : Cursor → Lexer
lexer_of c = record { at = c.at; offset = c.offset }

pub new-one : {c : Cursor} (r r' : Lexer) → cursor_of r ≡ c → cursor_of r' ≡ c → r ≡ r'
new-one = same cursor_of lexer_of (λ r. refl)

abbrev lexed_at : LexError → ℕ → Refusal
lexed_at k p = Lexed (record { position = p; kind = k })

abbrev refusal_back : F.Refusal → Refusal
refusal_back r = eof_or_number (λ p m. lexed_at (Eof m) p) ((2, lexed_at InvalidRgb) ∷ []) BadPlace r

refusal-back : (e : Refusal) → refusal_back (refusal_of e) ≡ e
unfolding refusal_of F.refusal_at F.refusal_number F.refusal_value F.refusal_values
refusal-back (Lexed e) = go e.position e.kind
  where
    go : (p : ℕ) (k : LexError) → refusal_back (refusal_of (Lexed (record { position = p; kind = k }))) ≡ Lexed (record { position = p; kind = k })
    go p (Eof m) = refl
    go p InvalidRgb = refl
refusal-back (BadPlace p) = refl

refusal-one : (e e' : Refusal) → refusal_of e ≡ refusal_of e' → e ≡ e'
refusal-one e e' q = same refusal_of refusal_back refusal-back e e' q refl

-- where a value is told by what it stands for, so is an answer
module _ {V A : Type 0} (value : V → A) (one : (x x' : V) → value x ≡ value x' → x ≡ x') (c : Lexer) where
  reads : (r r' : Result (V × Lexer) Refusal) → read_call value c r ≡ read_call value c r' → r ≡ r'
  reads (Ok (x, d)) (Ok (x', d')) p =
      let v : value x ≡ value x' = cc in
      let q : cursor_of d ≡ cursor_of d' = cc in
      cc (one x x' v, new-one d d' q refl)
  reads (Ok x) (Err e) p = cc
  reads (Err e) (Ok x) p = cc
  reads (Err e) (Err e') p = let q : refusal_of e ≡ refusal_of e' = cc in ap Err (refusal-one e e' q)

  pub read-one : {a : Call A} (r r' : Result (V × Lexer) Refusal) → read_call value c r ≡ a → read_call value c r' ≡ a → r ≡ r'
  read-one r r' p q = reads r r' (p ∙ sym q)

  nexts : (r r' : Result (MayBe (V × Lexer)) Refusal) → next_call value c r ≡ next_call value c r' → r ≡ r'
  nexts (Ok (Some (x, d))) (Ok (Some (x', d'))) p =
      let v : value x ≡ value x' = cc in
      let q : cursor_of d ≡ cursor_of d' = cc in
      cc (one x x' v, new-one d d' q refl)
  nexts (Ok (Some x)) (Ok None) p = cc
  nexts (Ok (Some x)) (Err e) p = cc
  nexts (Ok None) (Ok (Some x)) p = cc
  nexts (Ok None) (Ok None) p = refl
  nexts (Ok None) (Err e) p = cc
  nexts (Err e) (Ok (Some x)) p = cc
  nexts (Err e) (Ok None) p = cc
  nexts (Err e) (Err e') p = let q : refusal_of e ≡ refusal_of e' = cc in ap Err (refusal-one e e' q)

  pub next-one : {a : Call (Option A)} (r r' : Result (MayBe (V × Lexer)) Refusal) → next_call value c r ≡ a → next_call value c r' ≡ a → r ≡ r'
  next-one r r' p q = nexts r r' (p ∙ sym q)

  stays : (r r' : Result V Refusal) → staying_call value c r ≡ staying_call value c r' → r ≡ r'
  stays (Ok x) (Ok x') p = let v : value x ≡ value x' = cc in ap Ok (one x x' v)
  stays (Ok x) (Err e) p = cc
  stays (Err e) (Ok x) p = cc
  stays (Err e) (Err e') p = let q : refusal_of e ≡ refusal_of e' = cc in ap Err (refusal-one e e' q)

  pub staying-one : {a : Call A} (r r' : Result V Refusal) → staying_call value c r ≡ a → staying_call value c r' ≡ a → r ≡ r'
  staying-one r r' p q = stays r r' (p ∙ sym q)

  options : (m m' : MayBe V) → option_as value m ≡ option_as value m' → m ≡ m'
  options None None p = refl
  options None (Some x) p = cc
  options (Some x) None p = cc
  options (Some x) (Some x') p = let v : value x ≡ value x' = cc in ap Some (one x x' v)

-- where it may be nothing
pub option-one : {V A : Type 0} (value : V → A) → ((x x' : V) → value x ≡ value x' → x ≡ x') → (c : Lexer) {a : Call (Option A)} (r r' : Result (MayBe V) Refusal)
    → staying_call (option_as value) c r ≡ a → staying_call (option_as value) c r' ≡ a → r ≡ r'
option-one value one c = staying-one (option_as value) (options value one c) c

-- ---- the calls

plain : {A : Type 0} (x x' : A) → x ≡ x' → x ≡ x'
plain x x' p = p

pub plain-one : {A : Type 0} (c : Lexer) {a : Call A} (r r' : Result (A × Lexer) Refusal) → read_call (λ x. x) c r ≡ a → read_call (λ x. x) c r' ≡ a → r ≡ r'
plain-one = read-one (λ x. x) plain

ids : (x x' : LexemeId) → x.0 ≡ x'.0 → x ≡ x'
ids x x' p = ap (λ i. record { 0 = i }) p

pub id-one : (c : Lexer) {a : Call ℕ} (r r' : Result (LexemeId × Lexer) Refusal) → read_call (λ x. x.0) c r ≡ a → read_call (λ x. x.0) c r' ≡ a → r ≡ r'
id-one = read-one (λ x. x.0) ids

pub rgb-one : (c : Lexer) {a : Call Value} (r r' : Result (Rgb × Lexer) Refusal) → read_call colour_of c r ≡ a → read_call colour_of c r' ≡ a → r ≡ r'
rgb-one = read-one colour_of colour-one

pub next-id-one : (c : Lexer) {a : Call (Option ℕ)} (r r' : Result (MayBe (LexemeId × Lexer)) Refusal) → next_call (λ x. x.0) c r ≡ a → next_call (λ x. x.0) c r' ≡ a → r ≡ r'
next-id-one = next-one (λ x. x.0) ids

pub next-token-one : (c : Lexer) {a : Call (Option Token)} (r r' : Result (MayBe (Token × Lexer)) Refusal) → next_call (λ t. t) c r ≡ a → next_call (λ t. t) c r' ≡ a → r ≡ r'
next-token-one = next-one (λ t. t) plain

pub peek-id-one : (c : Lexer) {a : Call (Option ℕ)} (r r' : Result (MayBe LexemeId) Refusal) → staying_call (option_as (λ x. x.0)) c r ≡ a → staying_call (option_as (λ x. x.0)) c r' ≡ a → r ≡ r'
peek-id-one = option-one (λ x. x.0) ids

pub peek-token-one : (c : Lexer) {a : Call (Option Token)} (r r' : Result (MayBe Token) Refusal) → staying_call (option_as (λ t. t)) c r ≡ a → staying_call (option_as (λ t. t)) c r' ≡ a → r ≡ r'
peek-token-one = option-one (λ t. t) plain

pub position-one : (c : Lexer) {a : Call ℕ} (r r' : Result ℕ Refusal) → staying_call (λ p. p) c r ≡ a → staying_call (λ p. p) c r' ≡ a → r ≡ r'
position-one = staying-one (λ p. p) plain

pub find-one : (c : Lexer) {a : Call (Option ℕ)} (r r' : Result (MayBe ℕ) Refusal) → staying_call (option_as (λ p. p)) c r ≡ a → staying_call (option_as (λ p. p)) c r' ≡ a → r ≡ r'
find-one = option-one (λ p. p) plain

abbrev halted : Refusal → Lexer → Halt
halted e d = record { refusal = e; next = d }

lands : (r r' : Result Lexer Halt) → skip_call r ≡ skip_call r' → r ≡ r'
lands (Ok d) (Ok d') p = let q : cursor_of d ≡ cursor_of d' = cc in ap Ok (new-one d d' q refl)
lands (Ok d) (Err h) p = cc
lands (Err h) (Ok d) p = cc
lands (Err h) (Err h') p =
    let e : refusal_of h.refusal ≡ refusal_of h'.refusal = cc in
    let q : cursor_of h.next ≡ cursor_of h'.next = cc in
    let x : h.refusal ≡ h'.refusal = refusal-one h.refusal h'.refusal e in
    let y : h.next ≡ h'.next = new-one h.next h'.next q refl in
    let z : halted h.refusal h.next ≡ halted h'.refusal h'.next = rw (x, y) in
    ap Err z

pub skip-one : {a : Call (Unit {0})} (r r' : Result Lexer Halt) → skip_call r ≡ a → skip_call r' ≡ a → r ≡ r'
skip-one r r' p q = lands r r' (p ∙ sym q)
