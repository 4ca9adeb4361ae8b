-- `keys::is_key` meets its contract. Assumes nothing.
use borrow.Author.Tests.{ne_eqb}
use Rattle.keys.proofs.Passing.{unwanted, inner, at_top_lem, below-top}
use Rattle.keys.proofs.is_key.Goals as goal
use Rattle.keys.proofs.is_key.Goals.{then-wanted, else-wanted}

pub returns-then-depth-eq0 : goal.returns-then-depth-eq0
returns-then-depth-eq0 c = at_top_lem _ _ _ _ _ c.if-depth-eq0.true.0 c.if-depth-eq0.true.1 c.makes_key.ensures

pub returns-else-depth-eq0 : goal.returns-else-depth-eq0
returns-else-depth-eq0 c =
    let a = c.args in
    elim c.if-wanted.branch [
      | then-wanted w ↦
          let d = below-top c.if-depth-eq0.either w.if-wanted.true in
          let e = ne_eqb a.depth 0 d in
          let k = inner a.wanted a.value a.depth a.bytes.now a.at w.if-wanted.true d in
          cc
      | else-wanted w ↦
          let k = unwanted a.wanted a.value a.depth a.bytes.now a.at w.if-wanted.false in
          cc
    ]
