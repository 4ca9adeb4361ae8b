-- What a token that was read says of the save in a style, and of the writer. Assumes nothing.
use Prim.Native.Nat.{ℕ, ◌+◌, ◌-◌, ◌*◌, ◌≤◌}
use native.Mathlib.Omega.{arith}
use mathlib.Core.Path.{◌≡◌, refl, ap, ◌∙◌}
use mathlib.Core.Bool.{false}
use mathlib.Core.Option.{Option, none, some}
use mathlib.Core.List.{List}
use lib.ListN.{length, drop}
use borrow.Author.Tests.{le-leb}
use Rattle.form.specs.Numbers.{pick, Bytes}
use Rattle.form.specs.Values as F
use Rattle.form.specs.Refusals as R
use Rattle.form.specs.Readers.{found}
use Rattle.form.specs.Spelling.{spell, reason, wide}
use Rattle.form.specs.Shortest.{shortest}
use Rattle.form.specs.Writing.{fitted, write, write_shortest, unless}
use Rattle.form.specs.Saves.{from}
use Rattle.laws.proofs.LittleEndian.{drop-bytes}
use Rattle.laws.proofs.Reasons.{only-wide}
use Rattle.laws.proofs.Sound.{Sound, token-sound}
use Rattle.laws.proofs.Least.{Short, token-short}
use Rattle.laws.proofs.TextsLast.{own_text, Ends}
use Rattle.token.specs.declared.Token.{Token}
use Rattle.token.specs.Tokens.{token_of, value_of, token_at}
use Rattle.token.proofs.Walks.{Read, token-read, token-is}
use Rattle.writer.specs.Writes.{misplaced, write_token, write_shortest_token}
use Rattle.normaliser.specs.Stretches.{Style, normal_style, short_style, output_of, rest, Spells, HasSpelling}
use Rattle.normaliser.proofs.Joining.{output-then}

-- the refusal of a wide lookup
abbrev pub wide_at : ℕ → F.Value → Option R.Refusal
wide_at p v = pick (wide v) (some (R.WideLookup p)) none

-- a string that was read stands in the bytes
read-placed : (s : List ℕ) (v : F.Value) (e : ℕ) → Ends s v e → e ≤ length s → misplaced s (token_of e v) ≡ none
unfolding misplaced token_of own_text
read-placed s F.Open e k h = refl
read-placed s F.Close e k h = refl
read-placed s F.Equal e k h = refl
read-placed s (F.U32 n) e k h = refl
read-placed s (F.U64 n) e k h = refl
read-placed s (F.F32 n) e k h = refl
read-placed s (F.F64 n) e k h = refl
read-placed s (F.Lookup n) e k h = refl
read-placed s (F.Id i) e k h = refl
read-placed s (F.I32 z) e k h = refl
read-placed s (F.I64 z) e k h = refl
read-placed s (F.Truth b) e k h = refl
read-placed s (F.Quoted t) e k h = rw (le-leb (e - length t + length t) (length s) (omega (arith, k.fits)))
read-placed s (F.Unquoted t) e k h = rw (le-leb (e - length t + length t) (length s) (omega (arith, k.fits)))
read-placed s (F.Rgb r g b a) e k h = refl

pub token-placed : (s : List ℕ) (p : ℕ) {t : Token} {n : ℕ} → token_at s p ≡ found t n → misplaced s t ≡ none
token-placed s p {t} {n} e = let r = token-read s p e in ap (misplaced s) (token-is s p e) ∙ read-placed s (value_of s t) n r.ends r.there

-- a token is spelled as its value is, where that has a spelling
value-spells : (y : Style) {s : List ℕ} {p : ℕ} {v : F.Value} {n : ℕ} → Read s p v n → y.why p v ≡ none → length (y.spelled v) ≤ 5 * (n - p)
    → Spells y s p n (y.spelled v)
unfolding rest from
value-spells y {s} {p} {v} {n} r w l = record {
  on = omega (arith, r.on);
  there = r.there;
  short = l;
  is = ap (output_of y) r.walks ∙ output-then y p (n - p) v (from s n) w;
}

-- ---- in normal form

-- what `token` reads at a place is sound
read-sound : {s : List ℕ} {p : ℕ} {v : F.Value} {n : ℕ} → Bytes s → Read s p v n → Sound (drop p s) v (n - p)
read-sound {s} {p} b r = rw r.reads at (token-sound (drop p s) (drop-bytes p s b))

-- so that a wide lookup alone cannot be written
pub read-reason : {s : List ℕ} {p : ℕ} {v : F.Value} {n : ℕ} → Bytes s → Read s p v n → (q : ℕ) → reason q v ≡ wide_at q v
read-reason {v = v} b r q = only-wide q v (read-sound b r).can

pub read-spells : {s : List ℕ} {p : ℕ} {v : F.Value} {n : ℕ} → Bytes s → Read s p v n → wide v ≡ false → Spells normal_style s p n (spell v)
read-spells {p = p} b r w = value-spells normal_style r (read-reason b r p ∙ rw w) (read-sound b r).short

-- what the writer does with a token that `read_token` answers
pub token-writes : (s : List ℕ) (p : ℕ) {t : Token} {n : ℕ} → Bytes s → token_at s p ≡ found t n → (room : ℕ)
    → write_token room s t ≡ unless (wide_at 0 (value_of s t)) (fitted room (spell (value_of s t)))
unfolding write_token unless write
token-writes s p b e room = rw (token-placed s p e, read-reason b (token-read s p e) 0)

-- ---- in the shortest spelling

read_short : {s : List ℕ} {p : ℕ} {v : F.Value} {n : ℕ} → Bytes s → Read s p v n → Short (drop p s) v (n - p)
read_short {s} {p} b r = rw r.reads at (token-short (drop p s) (drop-bytes p s b))

-- each token that was read has one
pub short-spells : {s : List ℕ} {p : ℕ} {v : F.Value} {n : ℕ} → Bytes s → Read s p v n → Spells short_style s p n (shortest v)
short-spells {p = p} b r = let k = read_short b r in value-spells short_style r (k.can p) (omega (arith, k.short))

pub token-spellable : (s : List ℕ) (p : ℕ) {t : Token} {n : ℕ} → Bytes s → token_at s p ≡ found t n → HasSpelling short_style s t
token-spellable s p b e = record { placed = token-placed s p e; can = (read_short b (token-read s p e)).can 0 }

pub spellable-writes : {s : List ℕ} {t : Token} → HasSpelling short_style s t → (room : ℕ) → write_shortest_token room s t ≡ fitted room (shortest (value_of s t))
unfolding write_shortest_token unless write_shortest
spellable-writes k room = rw (k.placed, k.can)
