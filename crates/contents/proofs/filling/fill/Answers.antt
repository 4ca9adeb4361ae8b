-- `contents::filling::fill` meets its contract. Assumes nothing.
use Rattle.form.specs.Contents.{fill}
use Rattle.contents.proofs.Admitted.{as-numbers}
use Rattle.laws.proofs.InOrder.{filled_is}
use Rattle.contents.proofs.filling.fill.Goals as goal

pub returns : goal.returns
returns c =
    let s = c.args.bytes.now in
    as-numbers (λ room. fill room s) (λ room l e. (filled_is s room e).1) c.args.list.now c.fill_list.ensures
