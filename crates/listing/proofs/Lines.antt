-- The line of a token that was read is the line of its value. Assumes nothing.
use Prim.Native.Nat.{ℕ, ◌+◌, ◌-◌, ◌≤◌}
use native.Mathlib.Omega.{arith}
use mathlib.Core.Path.{◌≡◌, refl}
use mathlib.Core.Option.{none, some}
use mathlib.Core.List.{List}
use lib.ListN.{length}
use Rattle.form.specs.Values as F
use Rattle.form.specs.Listing.{name, shown, token_line}
use Rattle.laws.proofs.TextsLast.{own_text, Last, Ends}
use Rattle.payload.specs.Answers.{text_of}
use Rattle.payload.specs.Texts.{part_of}
use Rattle.payload.proofs.Texts.{within}
use Rattle.token.specs.Tokens.{token_of, value_of}
use Rattle.listing.specs.Words.{name_of, value_words, line_of}

-- the text of a token that ends at place e
text-is : (s t : List ℕ) (e : ℕ) → Last s t e → e ≤ length s → part_of s (text_of e t) ≡ t
text-is s t e k h =
    let l : length t ≤ e = k.fits in
    let q : e - length t + length t ≤ length s = omega arith in
    rw (within s (text_of e t) q) k.last

pub line-is : (s : List ℕ) (p e : ℕ) (v : F.Value) → Ends s v e → e ≤ length s → line_of s p (token_of e v) ≡ token_line p v
unfolding line_of token_line token_of value_of name_of name shown value_words own_text
line-is s p e F.Open k h = refl
line-is s p e F.Close k h = refl
line-is s p e F.Equal k h = refl
line-is s p e (F.U32 n) k h = refl
line-is s p e (F.U64 n) k h = refl
line-is s p e (F.F32 n) k h = refl
line-is s p e (F.F64 n) k h = refl
line-is s p e (F.Lookup n) k h = refl
line-is s p e (F.Id i) k h = refl
line-is s p e (F.I32 z) k h = refl
line-is s p e (F.I64 z) k h = refl
line-is s p e (F.Truth b) k h = refl
line-is s p e (F.Quoted t) k h = rw (text-is s t e k h)
line-is s p e (F.Unquoted t) k h = rw (text-is s t e k h)
line-is s p e (F.Rgb r g b none) k h = refl
line-is s p e (F.Rgb r g b (some a)) k h = refl
