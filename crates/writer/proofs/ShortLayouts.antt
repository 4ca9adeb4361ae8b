-- The layout of each token's shortest spelling. Assumes nothing.
use Prim.Native.Nat.{ℕ, ◌+◌, ◌-◌, ◌^◌, ◌≤◌, ◌<◌}
use native.Mathlib.Omega.{arith}
use mathlib.Core.Path.{◌≡◌, refl, ◌∙◌}
use mathlib.Core.Bool.{Bool, true, false, ◌||◌}
use mathlib.Core.List.{List, [], ◌∷◌}
use lib.ListN.{length, take, drop}
use lib.Dec.{eqb, ltb}
use borrow.Author.Tests.{lt-ltb, le-ltb, ltb-true, ltb-false}
use denote.Enum.Declared.{tag_of}
use types.Run.{OneOf}
use Rattle.form.specs.Numbers.{pick, le_bytes, negated}
use Rattle.form.specs.Values as F
use Rattle.form.specs.Values.{kind}
use Rattle.form.specs.Spelling.{tag, body, spell, reason}
use Rattle.form.specs.Shortest.{Width, held_by, first_in, otherwise, or_spelled, shortest, short_reason}
use Rattle.form.specs.Writing.{unless, write, write_shortest}
use Rattle.laws.proofs.Never.{never}
use Rattle.laws.proofs.Lookups.{arm}
use Rattle.laws.proofs.Widths.{more_bytes}
use Rattle.laws.proofs.ShortSpellings.{float-compact, float_negated, float_plain}
use Rattle.payload.specs.declared.answers.Text.{Text as Place}
use Rattle.payload.specs.Texts.{lies}
use Rattle.token.specs.declared.Token.{Token}
use Rattle.token.specs.declared.Token.TheVariants as T
use Rattle.token.specs.contracts.Token.{the_type}
use Rattle.token.specs.Tokens.{value_of}
use Rattle.token.specs.Texts.{place_of}
use Rattle.writer.specs.Writes.{misplaced, write_token, write_shortest_token}
use Rattle.writer.specs.declared.layout.Layout.{Layout}
use Rattle.writer.specs.declared.layout.Layout.TheVariants.{Number, Text, Empty}
use Rattle.writer.specs.Layouts.{spelled_by, misplaced_by, reason_by, write_by, magnitude, before_ids, LaysOut, LaysOutShortest}
use Rattle.writer.proofs.LayingOut.{text-length, lays-out}

-- ---- floats

-- an id and a number that spell the float x
float_out : (x i w n : ℕ) → shortest (F.F64 x) ≡ spelled_by [] (Number (record { 0 = i }) w n) → LaysOutShortest (T.F64 x) (Number (record { 0 = i }) w n)
unfolding write_by misplaced_by reason_by spelled_by write_shortest_token misplaced value_of write_shortest short_reason reason unless kind
float_out x i w n e room s = rw e

compact-out : (x w : ℕ) → Width x w → w ≤ 7 → LaysOutShortest (T.F64 x) (Number (record { 0 = 0x0d47 + w }) w x)
unfolding spelled_by
compact-out x w k l = float_out x (0x0d47 + w) w x (float-compact x w k l)

module _ (x m : ℕ) (h : 2 ^ 63 ≤ x) (f : x < 2 ^ 64) (e : m ≡ 2 ^ 64 - x) where
  same : negated x ≡ m
  same = omega arith

  negated-out : (w : ℕ) → Width m w → w ≤ 7 → LaysOutShortest (T.F64 x) (Number (record { 0 = 0x0d4e + w }) w m)
  unfolding spelled_by
  negated-out w k l =
      let o : 1 ≤ w = more_bytes {w = 0} (omega arith) k.holds in
      float_out x (0x0d4e + w) w m (rw same at (float_negated x w (omega arith) (rw same k) o l))

  -- more than seven bytes
  long-negated-out : (w : ℕ) → Width m w → 7 < w → LaysOutShortest (T.F64 x) (Number (record { 0 = 0x0167 }) 8 x)
  unfolding spelled_by spell tag body
  long-negated-out w k l = float_out x 0x0167 8 x (float_plain x (omega arith) (rw same (k.least 7 l)))

long-out : (x w : ℕ) → x < 2 ^ 63 → Width x w → 7 < w → LaysOutShortest (T.F64 x) (Number (record { 0 = 0x0167 }) 8 x)
unfolding spelled_by spell tag body
long-out x w h k l = let q : 256 ^ 7 ≤ x = k.least 7 l in float_out x 0x0167 8 x (float_plain x q (omega arith))

-- ---- a float, by its magnitude

module _ (x : ℕ) (f : x < 2 ^ 64) where
  short : (b : Bool) → ltb x (2 ^ 63) ≡ b → (w : ℕ) → Width (pick b x (negated x)) w → w ≤ 7
      → LaysOutShortest (T.F64 x) (Number (record { 0 = pick b 0x0d47 0x0d4e + w }) w (pick b x (negated x)))
  short true h w k l = compact-out x w k l
  short false h w k l = let o : 2 ^ 63 ≤ x = ltb-false x (2 ^ 63) h in negated-out x (negated x) o f (omega arith) w k l

  whole : (b : Bool) → ltb x (2 ^ 63) ≡ b → (w : ℕ) → Width (pick b x (negated x)) w → 7 < w → LaysOutShortest (T.F64 x) (Number (record { 0 = 0x0167 }) 8 x)
  whole true h w k l = long-out x w (ltb-true x (2 ^ 63) h) k l
  whole false h w k l = let o : 2 ^ 63 ≤ x = ltb-false x (2 ^ 63) h in long-negated-out x (negated x) o f (omega arith) w k l

  pub short-out : (w : ℕ) → Width (magnitude x) w → w ≤ 7 → LaysOutShortest (T.F64 x) (Number (record { 0 = before_ids x + w }) w (magnitude x))
  short-out = short (ltb x (2 ^ 63)) refl

  pub whole-out : (w : ℕ) → Width (magnitude x) w → 7 < w → LaysOutShortest (T.F64 x) (Number (record { 0 = 0x0167 }) 8 x)
  whole-out = whole (ltb x (2 ^ 63)) refl

-- ---- lookups

module _ (x : ℕ) (room : ℕ) (s : List ℕ) where
  pub lookup1-out : x < 0x100 → write_by room s (Number (record { 0 = 0x0d40 }) 1 x) ≡ write_shortest_token room s (T.Lookup x)
  unfolding write_by misplaced_by reason_by spelled_by write_shortest_token misplaced value_of write_shortest short_reason unless kind shortest or_spelled otherwise first_in held_by
  lookup1-out h = rw (lt-ltb x (256 ^ 1) h)

  pub lookup2-out : 0x100 ≤ x → x < 0x10000 → write_by room s (Number (record { 0 = 0x0d3e }) 2 x) ≡ write_shortest_token room s (T.Lookup x)
  unfolding write_by misplaced_by reason_by spelled_by write_shortest_token misplaced value_of write_shortest short_reason unless kind shortest or_spelled otherwise first_in held_by
  lookup2-out l h = rw (le-ltb x (256 ^ 1) l, lt-ltb x (256 ^ 2) h)

  pub lookup3-out : 0x10000 ≤ x → x < 0x1000000 → write_by room s (Number (record { 0 = 0x0d41 }) 3 x) ≡ write_shortest_token room s (T.Lookup x)
  unfolding write_by misplaced_by reason_by spelled_by write_shortest_token misplaced value_of write_shortest short_reason unless kind shortest or_spelled otherwise first_in held_by
  lookup3-out l h = rw (le-ltb x (256 ^ 1) (omega arith), le-ltb x (256 ^ 2) l, lt-ltb x (256 ^ 3) h)

  pub lookup4-out : 0x1000000 ≤ x → x < 2 ^ 32 → write_by room s (Number (record { 0 = 0x0d3f }) 4 x) ≡ write_shortest_token room s (T.Lookup x)
  unfolding write_by misplaced_by reason_by spelled_by write_shortest_token misplaced value_of write_shortest short_reason unless kind shortest or_spelled otherwise first_in held_by
  lookup4-out l h = rw (le-ltb x (256 ^ 1) (omega arith), le-ltb x (256 ^ 2) (omega arith), le-ltb x (256 ^ 3) l, lt-ltb x (256 ^ 4) h)

-- ---- quoted strings

pub empty-out : (t : Place) → t.len ≡ 0 → LaysOutShortest (T.Quoted t) (Empty t)
unfolding write_by misplaced_by reason_by spelled_by write_shortest_token misplaced value_of write_shortest short_reason reason unless kind shortest or_spelled otherwise first_in held_by le_bytes
empty-out t e room s = rw e

some_out : (room : ℕ) (x : List ℕ) → 0 < length x → write_shortest room (F.Quoted x) ≡ write room (F.Quoted x)
unfolding write_shortest write short_reason shortest or_spelled otherwise kind
some_out room [] h = absurd (omega arith)
some_out room (b ∷ x) h = refl

pub quoted-out : (t : Place) → 0 < t.len → LaysOutShortest (T.Quoted t) (Text (record { 0 = 0x000f }) t)
unfolding write_token write_shortest_token misplaced value_of unless
quoted-out t h room s = lays-out (T.Quoted t) room s ∙ go (lies s t) refl
  where
    x : List ℕ
    x = take t.len (drop t.start s)

    go : (b : Bool) → lies s t ≡ b → unless (place_of s t) (write room (F.Quoted x)) ≡ unless (place_of s t) (write_shortest room (F.Quoted x))
    go true l = rw (l, some_out room x (omega (arith, text-length s t l)))
    go false l = rw l

-- ---- every other token is laid out as the writer does

-- the tags of a quoted string, a float and a lookup
abbrev special : ℕ → Bool
special x = eqb x 7 || eqb x 10 || eqb x 13

pub other-out : (t : Token) → OneOf (0 ∷ 1 ∷ 2 ∷ 3 ∷ 4 ∷ 5 ∷ 6 ∷ 8 ∷ 9 ∷ 11 ∷ 12 ∷ 14 ∷ []) (tag_of the_type t) → (p : Layout) → LaysOut t p → LaysOutShortest t p
unfolding write_token write_shortest_token misplaced value_of write write_shortest short_reason shortest or_spelled otherwise kind
other-out t h p l room s = l room s ∙ go t (arm special (0 ∷ 1 ∷ 2 ∷ 3 ∷ 4 ∷ 5 ∷ 6 ∷ 8 ∷ 9 ∷ 11 ∷ 12 ∷ 14 ∷ []) (refl, (refl, (refl, (refl, (refl, (refl, (refl, (refl, (refl, (refl, (refl, (refl, tt)))))))))))) h)
  where
    go : (t : Token) → special (tag_of the_type t) ≡ false → write_token room s t ≡ write_shortest_token room s t
    go T.Open e = refl
    go T.Close e = refl
    go T.Equal e = refl
    go (T.U32 n) e = refl
    go (T.U64 n) e = refl
    go (T.I32 z) e = refl
    go (T.Bool b) e = refl
    go (T.Quoted t) e = never (cc)
    go (T.Unquoted t) e = refl
    go (T.F32 n) e = refl
    go (T.F64 n) e = never (cc)
    go (T.Rgb c) e = refl
    go (T.I64 z) e = refl
    go (T.Lookup n) e = never (cc)
    go (T.Id i) e = refl
