-- `fast::next_token_fast` meets its contract. Assumes nothing.
use Prim.Native.Nat.{ℕ}
use mathlib.Core.Path.{sym, ap, ◌∙◌}
use borrow.Author.Tests.{le-leb, lt-leb}
use Rattle.form.specs.Fast.{fast_step, step_by}
use Rattle.form.specs.Table.{after}
use Rattle.fast.proofs.Holding.{id-got, id-never}
use Rattle.fast.proofs.next_token_fast.Goals as goal

pub returns-then-window-lt16 : goal.returns-then-window-lt16
unfolding fast_step
returns-then-window-lt16 c = rw (c.slow.ensures, lt-leb _ _ c.if-window-lt16.true)

pub returns-in_default : goal.returns-in_default
returns-in_default c = id-never c.args.window.now c.if-window-lt16.false (sym c.in_default.ensures)

pub by_id-requires : goal.by_id-requires
by_id-requires c = (c.if-window-lt16.false, id-got c.args.window.now c.if-window-lt16.false (sym c.in-Ok.ensures))

pub returns : goal.returns
unfolding fast_step
returns c =
    let a = c.args in
    let q = id-got a.window.now c.if-window-lt16.false (sym c.in-Ok.ensures) in
    rw (le-leb _ _ c.if-window-lt16.false) (c.by_id.ensures ∙ ap (λ (i : ℕ). step_by (after i) a.window.now a.held) q)
