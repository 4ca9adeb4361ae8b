-- There is room for every dump, so that one is written, and whole. Assumes nothing.
use mathlib.Core.Path.{◌≡◌, sym, ◌∙◌}
use lib.ListN.{length}
use Rattle.std.specs.Prelude.{Ok}
use Rattle.form.specs.Listing.{listing}
use Rattle.laws.proofs.LittleEndian.{bytes-all}
use Rattle.dump.proofs.Whole.{listed, filled}
use Rattle.dump.proofs.dump.Goals as goal

pub unwrap-requires : goal.unwrap-requires
unwrap-requires c =
    let s = c.args.bytes.now in
    rw (listed s c.args.out.now (bytes-all s c.type_inv.bytes) c.requires c.list.result c.list.ensures.answer)

pub returns-clause-len : goal.returns-clause-len
returns-clause-len c =
    let s = c.args.bytes.now in
    let is : Ok c.unwrap.result ≡ Ok (length (listing s)) =
    sym c.unwrap.ensures ∙ listed s c.args.out.now (bytes-all s c.type_inv.bytes) c.requires c.list.result c.list.ensures.answer in
    cc

pub returns-clause-output : goal.returns-clause-output
returns-clause-output c = filled c.args.bytes.now c.args.out.now (bytes-all c.args.bytes.now c.type_inv.bytes) c.requires c.list.ensures.output
