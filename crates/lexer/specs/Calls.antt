-- What the calls of the code stand for.
use Rattle.std.specs.Prelude.{ℕ, ◌-◌, ◌≤◌, ◌≡◌, Bool, not, List, [], length, eqb, ℤ, Result, Ok, Err, Option as MayBe, Some, None}
use Rattle.std.proofs.Math.Option.{Option, none, some}
use Rattle.std.specs.Int.{w32, w64}
use Rattle.std.proofs.Common.{to_z}
use Rattle.form.specs.Numbers.{MAX}
use Rattle.form.specs.Refusals as F
use Rattle.form.specs.Readers.{ByPlace, at, mapped, placed}
use Rattle.form.specs.Reading.{next, num, string}
use Rattle.form.specs.Calls.{Cursor, cursor_in, position_of, Call, gives, refuses, within}
use Rattle.payload.specs.Answers.{fault_of, text_of}
use Rattle.payload.specs.declared.answers.LexErrorAt.{LexErrorAt}
use Rattle.payload.specs.declared.answers.Text.{Text}
use Rattle.payload.specs.Texts as Texts
use Rattle.lexer.specs.declared.Lexer.{Lexer}
use Rattle.lexer.specs.declared.answers.Halt.{Halt}
use Rattle.lexer.specs.declared.answers.Refusal.{Refusal}
use Rattle.lexer.specs.declared.answers.Refusal.TheVariants.{Lexed, BadPlace}

abbrev pub cursor_of : Lexer → Cursor
cursor_of c = cursor_in c.offset c.at

unfoldable pub refusal_of : Refusal → F.Refusal
refusal_of (Lexed e) = F.refusal_at e.position (fault_of e.kind)
refusal_of (BadPlace p) = F.BadPlace p

-- ---- the reads whose value is not the number that the bytes spell

abbrev pub bool_at : ByPlace Bool
bool_at s p = mapped (λ x. not (eqb x 0)) (at (num 1) s p)

abbrev pub i32_at : ByPlace ℤ
i32_at s p = mapped (to_z w32) (at (num 4) s p)

abbrev pub i64_at : ByPlace ℤ
i64_at s p = mapped (to_z w64) (at (num 8) s p)

abbrev pub string_at : ByPlace Text
string_at s p = placed text_of (at string s p)

-- the place of the next n bytes
abbrev pub bytes_at : ℕ → ByPlace Text
bytes_at n s p = placed text_of (at (next n) s p)

-- the place of all bytes that are left: the cursor stays
abbrev pub remainder_of : List ℕ → Cursor → Call Text
remainder_of s c = within s c (gives (record { start = c.at; len = length s - c.at }) c)

-- ---- the calls from a cursor c, by what a value stands for: a refused one leaves it

abbrev pub refused_call : Lexer → Refusal → Call (Unit {0})
refused_call c e = refuses (refusal_of e) (cursor_of c)

-- `read_..`
abbrev pub read_call : {V A : Type 0} → (V → A) → Lexer → Result (V × Lexer) Refusal → Call A
read_call value c (Ok x) = gives (value x.0) (cursor_of x.1)
read_call value c (Err e) = refuses (refusal_of e) (cursor_of c)

-- `next_..`: at the end there is nothing
abbrev pub next_call : {V A : Type 0} → (V → A) → Lexer → Result (MayBe (V × Lexer)) Refusal → Call (Option A)
next_call value c (Ok (Some x)) = gives (some (value x.0)) (cursor_of x.1)
next_call value c (Ok None) = gives none (cursor_of c)
next_call value c (Err e) = refuses (refusal_of e) (cursor_of c)

-- one that moves nothing
abbrev pub staying_call : {V A : Type 0} → (V → A) → Lexer → Result V Refusal → Call A
staying_call value c (Ok x) = gives (value x) (cursor_of c)
staying_call value c (Err e) = refuses (refusal_of e) (cursor_of c)

-- a skip leaves the cursor where it ended
abbrev pub skip_call : Result Lexer Halt → Call (Unit {0})
skip_call (Ok d) = gives tt (cursor_of d)
skip_call (Err h) = refuses (refusal_of h.refusal) (cursor_of h.next)

-- ---- what the calls' inner functions ask for: that there is a position to tell

-- no call from the cursor is refused for where it stands
abbrev pub Stands : Lexer → List ℕ → Type 0
Stands c s = ◌≡◌ {A = Call (Unit {0})} (gives tt (cursor_of c)) (within s (cursor_of c) (gives tt (cursor_of c)))

-- the place where a skip stopped has one
abbrev pub Lands : Lexer → Result ℕ LexErrorAt → Type 0
Lands c (Ok n) = Unit {0}
Lands c (Err e) = position_of (cursor_of c) e.at ≤ MAX

-- ---- the part of the bytes that a call gives the place of; none where it is refused

abbrev pub given_part : List ℕ → Call Text → List ℕ
given_part s (gives x c) = Texts.part_of s x
given_part s (refuses e c) = []
