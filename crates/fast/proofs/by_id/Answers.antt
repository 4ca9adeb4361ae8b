-- `fast::by_id` meets its contract: an arm knows which entry of the table its number is in, and the default that none has it. Assumes nothing.
use mathlib.Core.Path.{refl, ap}
use mathlib.Core.Logic.{⊎_elim}
use mathlib.Core.List.{[]}
use lib.Dec.{lit≤}
use Rattle.std.proofs.Common.{◌≡◌, ℕ, ◌≤◌, List, length, slice_index_or, Fits, w8}
use Rattle.form.specs.Values as F
use Rattle.form.specs.Table.{after, or_plain, find, entries, table}
use Rattle.form.specs.Fast.{front, step_by}
use Rattle.laws.proofs.Lookups.{unquoted-at, lookup1-at, lookup2-at, lookup3-at, lookup4-at, range-from, compact-at, negated-in, plain-below, plain-above}
use Rattle.lexeme.specs.declared.TokenKind.TheVariants.{Open, Close, Equal, U32, U64, I32, Bool, Quoted, Unquoted, F32, F64, I64}
use Rattle.fast.proofs.Holding.{at-most-7, narrow, Ready, copy-arm, lookup-arm, compact-arm, negated-arm, text-arm, alone-arm, zeros-held, id-arm, arm-by}
use borrow.Author.Rules.{rules}
use Rattle.fast.proofs.by_id.Goals as goal

pub overflow_sub-width : goal.overflow_sub-width
unfolding entries table
overflow_sub-width c = range-from _ c.in-3399-to-3406.in_default-own.rest c.in-3399-to-3406.if-n-lt3390-own.false

pub overflow_cast-width : goal.overflow_cast-width
overflow_cast-width c = narrow _ 0x0d47 c.in-3399-to-3406.if-n-lt3407-own.true

pub compact-requires : goal.compact-requires
compact-requires c = (at-most-7 _ 0x0d47 c.in-3399-to-3406.if-n-lt3407-own.true, c.requires.0)

pub overflow_cast-width-in-3407-to-3413 : goal.overflow_cast-width-in-3407-to-3413
overflow_cast-width-in-3407-to-3413 c = narrow _ 0x0d4e c.in-3407-to-3413.if-n-lt3414-own.true

pub compact-requires-in-3407-to-3413 : goal.compact-requires-in-3407-to-3413
compact-requires-in-3407-to-3413 c = (at-most-7 _ 0x0d4e c.in-3407-to-3413.if-n-lt3414-own.true, c.requires.0)

-- what every arm knows of the window and of what is held
ready : (w held : List ℕ) → ((i : ℕ) → Fits w8 (slice_index_or w i 0)) → 16 ≤ length w → length held ≡ 8 → Ready w held
ready w held b l e = record { bytes = b; long = l; eight = e }

pub returns-in-1 : goal.returns-in-1
unfolding after or_plain find entries table F.kind front
returns-in-1 c = arm-by _ _ c.alone.ensures (ap after c.in-1.is) (alone-arm (ready _ _ c.type_inv.window c.requires.0 (search rules)) F.Equal Equal _ refl refl)

pub returns-in-3 : goal.returns-in-3
unfolding after or_plain find entries table F.kind front
returns-in-3 c = arm-by _ _ c.alone-in-3.ensures (ap after c.in-3.is) (alone-arm (ready _ _ c.type_inv.window c.requires.0 (search rules)) F.Open Open _ refl refl)

pub returns-in-4 : goal.returns-in-4
unfolding after or_plain find entries table F.kind front
returns-in-4 c = arm-by _ _ c.alone-in-4.ensures (ap after c.in-4.is) (alone-arm (ready _ _ c.type_inv.window c.requires.0 (search rules)) F.Close Close _ refl refl)

pub returns-in-20 : goal.returns-in-20
unfolding after or_plain find entries table F.kind front
returns-in-20 c = arm-by _ _ c.copy.ensures (ap after c.in-20.is) (copy-arm (ready _ _ c.type_inv.window c.requires.0 (search rules)) 4 F.U32 U32 (lit≤ tt) (λ _. refl) (λ _. refl))

pub returns-in-12 : goal.returns-in-12
unfolding after or_plain find entries table F.kind front
returns-in-12 c = arm-by _ _ c.copy-in-12.ensures (ap after c.in-12.is) (copy-arm (ready _ _ c.type_inv.window c.requires.0 (search rules)) 4 F.signed32 I32 (lit≤ tt) (λ _. refl) (λ _. refl))

pub returns-in-13 : goal.returns-in-13
unfolding after or_plain find entries table F.kind front
returns-in-13 c = arm-by _ _ c.copy-in-13.ensures (ap after c.in-13.is) (copy-arm (ready _ _ c.type_inv.window c.requires.0 (search rules)) 4 F.F32 F32 (lit≤ tt) (λ _. refl) (λ _. refl))

pub returns-in-668 : goal.returns-in-668
unfolding after or_plain find entries table F.kind front
returns-in-668 c = arm-by _ _ c.copy-in-668.ensures (ap after c.in-668.is) (copy-arm (ready _ _ c.type_inv.window c.requires.0 (search rules)) 8 F.U64 U64 (lit≤ tt) (λ _. refl) (λ _. refl))

pub returns-in-791 : goal.returns-in-791
unfolding after or_plain find entries table F.kind front
returns-in-791 c = arm-by _ _ c.copy-in-791.ensures (ap after c.in-791.is) (copy-arm (ready _ _ c.type_inv.window c.requires.0 (search rules)) 8 F.signed64 I64 (lit≤ tt) (λ _. refl) (λ _. refl))

pub returns-in-359 : goal.returns-in-359
unfolding after or_plain find entries table F.kind front
returns-in-359 c = arm-by _ _ c.copy-in-359.ensures (ap after c.in-359.is) (copy-arm (ready _ _ c.type_inv.window c.requires.0 (search rules)) 8 F.F64 F64 (lit≤ tt) (λ _. refl) (λ _. refl))

pub returns-in-14 : goal.returns-in-14
unfolding after or_plain find entries table F.kind front
returns-in-14 c = arm-by _ _ c.copy-in-14.ensures (ap after c.in-14.is) (copy-arm (ready _ _ c.type_inv.window c.requires.0 (search rules)) 1 F.nonzero Bool (lit≤ tt) (λ _. refl) (λ _. refl))

pub returns-in-15 : goal.returns-in-15
unfolding after or_plain find entries table F.kind front
returns-in-15 c = arm-by _ _ c.string.ensures (ap after c.in-15.is) (text-arm (ready _ _ c.type_inv.window c.requires.0 (search rules)) F.Quoted Quoted refl)

pub returns-in-23 : goal.returns-in-23
unfolding F.kind
returns-in-23 c = arm-by _ _ c.string-in-23.ensures (unquoted-at c.in-23.is) (text-arm (ready _ _ c.type_inv.window c.requires.0 (search rules)) F.Unquoted Unquoted refl)

pub returns-in-3394 : goal.returns-in-3394
unfolding after or_plain find entries table F.kind front
returns-in-3394 c = arm-by _ _ c.alone-in-3394.ensures (ap after c.in-3394.is) (alone-arm (ready _ _ c.type_inv.window c.requires.0 (search rules)) (F.Quoted []) Quoted _ refl (zeros-held (ready _ _ c.type_inv.window c.requires.0 (search rules))))

pub returns-in-579 : goal.returns-in-579
unfolding after or_plain find entries table step_by
returns-in-579 c =
    arm-by c.args.window.now c.args.held c.slow.ensures (ap after c.in-579.is) refl

pub returns-in-3392 : goal.returns-in-3392
returns-in-3392 c = arm-by _ _ c.lookup.ensures (lookup1-at c.in-3392.is) (lookup-arm (ready _ _ c.type_inv.window c.requires.0 (search rules)) 1 (lit≤ tt))

pub returns-in-3390 : goal.returns-in-3390
returns-in-3390 c = arm-by _ _ c.lookup-in-3390.ensures (lookup2-at c.in-3390.is) (lookup-arm (ready _ _ c.type_inv.window c.requires.0 (search rules)) 2 (lit≤ tt))

pub returns-in-3393 : goal.returns-in-3393
returns-in-3393 c = arm-by _ _ c.lookup-in-3393.ensures (lookup3-at c.in-3393.is) (lookup-arm (ready _ _ c.type_inv.window c.requires.0 (search rules)) 3 (lit≤ tt))

pub returns-in-3391 : goal.returns-in-3391
returns-in-3391 c = arm-by _ _ c.lookup-in-3391.ensures (lookup4-at c.in-3391.is) (lookup-arm (ready _ _ c.type_inv.window c.requires.0 (search rules)) 4 (lit≤ tt))

pub returns-in-3399-to-3406 : goal.returns-in-3399-to-3406
unfolding entries table
returns-in-3399-to-3406 c = arm-by _ _ c.compact.ensures (compact-at _ c.in-3399-to-3406.in_default-own.rest c.in-3399-to-3406.if-n-lt3390-own.false c.in-3399-to-3406.if-n-lt3407-own.true) (compact-arm (ready _ _ c.type_inv.window c.requires.0 (search rules)) _)

pub returns-in-3407-to-3413 : goal.returns-in-3407-to-3413
unfolding entries table
returns-in-3407-to-3413 c = arm-by _ _ c.compact-in-3407-to-3413.ensures (negated-in _ c.in-3407-to-3413.if-n-lt3407-own.false c.in-3407-to-3413.if-n-lt3414-own.true) (negated-arm (ready _ _ c.type_inv.window c.requires.0 (search rules)) _)

pub returns-in_default : goal.returns-in_default
unfolding entries table
returns-in_default c = arm-by _ _ c.named.ensures (⊎_elim (λ w. plain-below _ c.in_default-1.rest w.if-n-lt3390-1.true) (λ w. plain-above _ c.in_default-1.rest w.if-n-lt3414-1.false) c.in_default.branch-raw) (id-arm (ready _ _ c.type_inv.window c.requires.0 (search rules)) _ c.requires.1)
