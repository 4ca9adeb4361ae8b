-- What an offset changes of the calls that hand back a part: nothing but the cursor, and the refusal of an offset that is too large. Assumes
-- nothing.
use Prim.Native.Nat.{ℕ}
use mathlib.Core.Path.{◌≡◌, refl}
use mathlib.Core.Bool.{true}
use mathlib.Core.List.{List}
use Rattle.form.specs.Calls.{cursor_in, cursor_at, Call, gives, refuses, fits}
use Rattle.laws.proofs.Offsets.{in_file, as_it_is, gives-in-file}
use Rattle.payload.specs.declared.answers.Text.{Text}
use Rattle.lexer.specs.Calls.{remainder_of, given_part}

pub remainder-in-file : (s : List ℕ) (o p : ℕ) → fits s (cursor_in o p) ≡ true → remainder_of s (cursor_in o p) ≡ in_file o as_it_is (remainder_of s (cursor_at p))
remainder-in-file s o p h = gives-in-file s o p h _

-- the part is the same
pub part-in-file : (s : List ℕ) (o : ℕ) (x : Call Text) → given_part s (in_file o as_it_is x) ≡ given_part s x
unfolding in_file as_it_is
part-in-file s o (gives t c) = refl
part-in-file s o (refuses r c) = refl
