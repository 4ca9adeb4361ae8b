-- How many bytes a layout takes. Assumes nothing.
use Prim.Native.Nat.{ℕ, ◌+◌}
use native.Mathlib.Omega.{arith}
use mathlib.Core.Path.{◌≡◌, refl, ◌∙◌}
use mathlib.Core.List.{List, ◌++◌}
use lib.ListN.{length, length-append}
use Rattle.form.specs.Numbers.{le_bytes}
use Rattle.form.specs.Spelling.{spelled_channel, spelled_alpha}
use Rattle.std.specs.Prelude.{Option, None, Some}
use Rattle.payload.specs.declared.answers.Rgb.{Rgb}
use Rattle.laws.proofs.LittleEndian.{length-bytes}
use Rattle.laws.proofs.ReadsBack.{channel-length}
use Rattle.writer.specs.Layouts.{id_number, id_text, colour_end, channels, id_colour}

pub number_size : (i w n : ℕ) → length (id_number i w n) ≡ 2 + w
number_size i w n = simp (length-append, length-bytes)

pub text-size : (i : ℕ) (t : List ℕ) → length (id_text i t) ≡ 4 + length t
text-size i t = simp (length-append, length-bytes) (omega arith)

-- a colour's end with and without alpha
abbrev pub end_size : Option ℕ → ℕ
end_size None = 2
end_size (Some a) = 8

pub end-size : (a : Option ℕ) → length (colour_end a) ≡ end_size a
unfolding spelled_channel spelled_alpha le_bytes
end-size None = refl
end-size (Some a) = refl

pub channels-size : (c : Rgb) → length (channels c) ≡ 18 + end_size c.a
channels-size c =
    let e = end-size c.a in
    let l = length-append (spelled_channel c.b) (colour_end c.a) in
    let m = length-append (spelled_channel c.g) (spelled_channel c.b ++ colour_end c.a) in
    length-append (spelled_channel c.r) (spelled_channel c.g ++ (spelled_channel c.b ++ colour_end c.a))
    ∙ omega (arith, channel-length c.r, channel-length c.g, channel-length c.b)

pub colour-size : (c : Rgb) → length (id_colour c) ≡ 22 + end_size c.a
unfolding le_bytes
colour-size c = omega (arith, channels-size c)
