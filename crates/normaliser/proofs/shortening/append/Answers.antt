-- `normaliser::shortening::append` meets its contract. Assumes nothing.
use native.Mathlib.Omega.{arith}
use mathlib.Core.Path.{sym, ◌∙◌}
use Rattle.normaliser.proofs.Respelling.{short-count, short-appends}
use Rattle.normaliser.proofs.shortening.append.Goals as goal

pub unwrap-requires : goal.unwrap-requires
unwrap-requires c =
    let n = short-count c.write_shortest.result c.args.out.now c.requires (omega arith) c.place-to.ensures c.write_shortest.ensures in
    rw (c.counted.ensures, n)

pub returns : goal.returns
returns c =
    short-appends c.write_shortest.result c.args.out.now c.requires (omega arith) c.place-to.ensures c.write_shortest.ensures (sym c.counted.ensures ∙ c.unwrap.ensures)
