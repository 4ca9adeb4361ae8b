-- `writer::put::Pen::layout` meets its contract. Assumes nothing.
use mathlib.Core.Path.{sym}
use native.Mathlib.Omega.{arith}
use Rattle.laws.proofs.LittleEndian.{length-bytes}
use Rattle.payload.specs.Texts.{part_of}
use Rattle.writer.specs.Layouts.{spelled_by}
use Rattle.writer.proofs.Sizes.{number_size, text-size}
use Rattle.writer.proofs.put.Pen.layout.Goals as goal

pub id_number-requires : goal.id_number-requires
unfolding spelled_by
id_number-requires c =
    omega (arith, rw c.in-Number.is at c.requires, number_size c.in-Number.x.0 c.in-Number.width c.in-Number.n)

pub id_text-requires : goal.id_text-requires
unfolding spelled_by
id_text-requires c =
    rw c.text_part.ensures
    (omega (arith, rw c.in-Text.is at c.requires, text-size c.in-Text.x.0 (part_of c.args.bytes.now c.in-Text.t)))

pub id-requires : goal.id-requires
unfolding spelled_by
id-requires c = omega (arith, rw c.in-Empty.is at c.requires, length-bytes 2 0x0d42)

pub id_number-requires-in-Lookup : goal.id_number-requires-in-Lookup
unfolding spelled_by
id_number-requires-in-Lookup c =
    omega (arith, rw c.in-Lookup.is at c.requires, number_size 0x0d41 3 c.in-Lookup.n)

pub id_colour-requires : goal.id_colour-requires
unfolding spelled_by
id_colour-requires c = rw c.in-Rgb.is at c.requires

pub id-requires-in-Id : goal.id-requires-in-Id
unfolding spelled_by
id-requires-in-Id c = omega (arith, rw c.in-Id.is at c.requires, length-bytes 2 c.in-Id.x)

pub returns-in-Number : goal.returns-in-Number
unfolding spelled_by
returns-in-Number c = rw c.in-Number.is c.id_number.ensures

pub returns-in-Text : goal.returns-in-Text
unfolding spelled_by
returns-in-Text c = rw (c.in-Text.is, sym c.text_part.ensures) c.id_text.ensures

pub returns-in-Empty : goal.returns-in-Empty
unfolding spelled_by
returns-in-Empty c = rw c.in-Empty.is c.id.ensures

pub returns-in-Lookup : goal.returns-in-Lookup
unfolding spelled_by
returns-in-Lookup c = rw c.in-Lookup.is c.id_number-in-Lookup.ensures

pub returns-in-Rgb : goal.returns-in-Rgb
unfolding spelled_by
returns-in-Rgb c = rw c.in-Rgb.is c.id_colour.ensures

pub returns-in-Id : goal.returns-in-Id
unfolding spelled_by
returns-in-Id c = rw (c.in-Id.is, sym c.new.ensures) c.id-in-Id.ensures
