-- No public promise goes through this file. What a call makes of its read's answer, whatever is read.
use Rattle.std.specs.Prelude.{ℕ, ◌≡◌, Bool, true, false, List, Result, Ok, Err, Option, Some, None}
use Rattle.form.specs.Readers.{refused}
use Rattle.form.specs.Calls.{moved_to, gives, refuses, fits, reads}
use Rattle.form.specs.Refusals as F
use Rattle.payload.specs.Answers.{fault_of}
use Rattle.payload.specs.declared.answers.LexError.{LexError}
use Rattle.lexer.specs.Calls.{cursor_of, read_call}
use Rattle.lexer.specs.declared.Lexer.{Lexer}
use Rattle.lexer.specs.declared.answers.Refusal.{Refusal}
use Rattle.lexer.specs.declared.answers.Refusal.TheVariants.{Lexed, BadPlace}

-- a read at the cursor c of an offset that fits: what was found is given and the cursor goes on, and a fault is refused as of every read; kind
-- is which fault a refusal of the read stands for
abbrev pub Ends : {V E : Type 0} → (E → LexError → Type 0) → List ℕ → Lexer → Result (V × ℕ) E → Result (V × Lexer) Refusal → Type 0
Ends kind s c (Ok x) r = read_call (λ v. v) c r ≡ gives x.0 (moved_to (cursor_of c) x.1)
Ends kind s c (Err e) r = (k : LexError) × kind e k × (read_call (λ v. v) c r ≡ reads (λ _ _. refused (fault_of k)) s (cursor_of c))

-- whatever the read, an offset that is too large is refused
pub record Ended {V E : Type 0} (kind : E → LexError → Type 0) (s : List ℕ) (c : Lexer) (read : Result (V × ℕ) E) (r : Result (V × Lexer) Refusal) : Type 0 where
  pub fit : fits s (cursor_of c) ≡ true → Ends kind s c read r
  pub unfit : fits s (cursor_of c) ≡ false → read_call (λ v. v) c r ≡ refuses (F.BadPlace c.offset) (cursor_of c)

-- nothing where the cursor stands at the end
abbrev pub next_of : {V : Type 0} → Bool → Result (V × Lexer) Refusal → Result (Option (V × Lexer)) Refusal
next_of end (Ok x) = Ok (Some x)
next_of true (Err e) = Ok None
next_of false (Err e) = Err e

-- nothing where a fault was found
abbrev pub peek_of : {V : Type 0} → Result (V × Lexer) Refusal → Result (Option V) Refusal
peek_of (Ok x) = Ok (Some x.0)
peek_of (Err (Lexed e)) = Ok None
peek_of (Err (BadPlace p)) = Err (BadPlace p)
