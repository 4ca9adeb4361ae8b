-- `writer::layout::laid_out` meets its contract. Assumes nothing.
use borrow.Author.Rules.{rules}
use mathlib.Core.Path.{◌≡◌}
use mir.Syntax.{w32, w64}
use mir.Val.{of_z, to_z}
use Rattle.token.specs.declared.Token.TheVariants as T
use Rattle.writer.proofs.LayingOut.{lays-out}
use Rattle.writer.proofs.layout.laid_out.Goals as goal

pub returns-in-Open : goal.returns-in-Open
returns-in-Open c = rw c.in-Open.is (lays-out T.Open)

pub returns-in-Close : goal.returns-in-Close
returns-in-Close c = rw c.in-Close.is (lays-out T.Close)

pub returns-in-Equal : goal.returns-in-Equal
returns-in-Equal c = rw c.in-Equal.is (lays-out T.Equal)

pub returns-in-U32 : goal.returns-in-U32
returns-in-U32 c = rw c.in-U32.is (lays-out (T.U32 _))

pub returns-in-U64 : goal.returns-in-U64
returns-in-U64 c = rw c.in-U64.is (lays-out (T.U64 _))

pub returns-in-I32 : goal.returns-in-I32
returns-in-I32 c =
    let x = c.in-I32.x in
    let e : to_z w32 (of_z w32 x) ≡ x = search rules in
    rw (c.in-I32.is, c.of_i32.ensures, e) (lays-out (T.I32 x))

pub returns-in-Bool : goal.returns-in-Bool
returns-in-Bool c = rw (c.in-Bool.is, c.of_bool.ensures) (lays-out (T.Bool _))

pub returns-in-Quoted : goal.returns-in-Quoted
returns-in-Quoted c = rw c.in-Quoted.is (lays-out (T.Quoted _))

pub returns-in-Unquoted : goal.returns-in-Unquoted
returns-in-Unquoted c = rw c.in-Unquoted.is (lays-out (T.Unquoted _))

pub returns-in-F32 : goal.returns-in-F32
returns-in-F32 c = rw c.in-F32.is (lays-out (T.F32 _))

pub returns-in-F64 : goal.returns-in-F64
returns-in-F64 c = rw c.in-F64.is (lays-out (T.F64 _))

pub returns-in-Rgb : goal.returns-in-Rgb
returns-in-Rgb c = rw c.in-Rgb.is (lays-out (T.Rgb _))

pub returns-in-I64 : goal.returns-in-I64
returns-in-I64 c =
    let x = c.in-I64.x in
    let e : to_z w64 (of_z w64 x) ≡ x = search rules in
    rw (c.in-I64.is, c.of_i64.ensures, e) (lays-out (T.I64 x))

pub returns-in-Lookup : goal.returns-in-Lookup
returns-in-Lookup c = rw c.in-Lookup.is (lays-out (T.Lookup _))

pub returns-in-Id : goal.returns-in-Id
returns-in-Id c = rw c.in-Id.is (lays-out (T.Id _))
