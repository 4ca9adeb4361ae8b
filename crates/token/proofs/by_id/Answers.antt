-- `token::by_id` meets its contract: an arm knows which entry of the table its number is in, and the default that none has it. Assumes nothing.
use Prim.Native.Nat.{◌-◌}
use mathlib.Core.Path.{◌≡◌, refl, ap, ◌∙◌}
use mathlib.Core.Bool.{true, false, not}
use lib.Dec.{eqb}
use mir.Syntax.{w32, w64}
use mir.Val.{to_z}
use borrow.Author.Rules.{part_to_end}
use Rattle.std.proofs.Common.{rules}
use Rattle.form.specs.Values as F
use Rattle.form.specs.Table.{table, entries, find, or_plain, after, nothing}
use Rattle.laws.proofs.Lookups.{unquoted-at, lookup1-at, lookup2-at, lookup3-at, lookup4-at, compact-at, negated-in, plain-below, plain-above}
use Rattle.token.specs.Tokens.{token_of}
use Rattle.token.specs.declared.Token.TheVariants as T
use Rattle.token.proofs.Payloads.{made-is, by-entry, number_at, through-at, text_at_lem, colour-at, compact-from, nothing-at, empty-at, compact-is}
use Rattle.token.proofs.by_id.Goals as goal

pub returns-in-1 : goal.returns-in-1
unfolding after or_plain find entries table token_of
returns-in-1 c = by-entry _ _ (ap after c.in-1.is) (nothing-at _ _ _)

pub returns-in-3 : goal.returns-in-3
unfolding after or_plain find entries table token_of
returns-in-3 c = by-entry _ _ (ap after c.in-3.is) (nothing-at _ _ _)

pub returns-in-4 : goal.returns-in-4
unfolding after or_plain find entries table token_of
returns-in-4 c = by-entry _ _ (ap after c.in-4.is) (nothing-at _ _ _)

pub returns-in-20 : goal.returns-in-20
unfolding after or_plain find entries table token_of
returns-in-20 c =
    by-entry _ _ (ap after c.in-20.is)
    (number_at _ _ 4 F.U32 c.read_u32.ensures (made-is T.U32 _ (λ x t k. search rules) _ _ c.made.ensures))

pub returns-in-12 : goal.returns-in-12
unfolding after or_plain find entries table token_of
returns-in-12 c =
    by-entry _ _ (ap after c.in-12.is)
    (through-at _ _ 4 (to_z w32) F.I32 c.read_i32.ensures (made-is T.I32 _ (λ x t k. search rules) _ _ c.made-in-12.ensures))

pub returns-in-13 : goal.returns-in-13
unfolding after or_plain find entries table token_of
returns-in-13 c =
    by-entry _ _ (ap after c.in-13.is)
    (number_at _ _ 4 F.F32 c.read_f32.ensures (made-is T.F32 _ (λ x t k. search rules) _ _ c.made-in-13.ensures))

pub returns-in-668 : goal.returns-in-668
unfolding after or_plain find entries table token_of
returns-in-668 c =
    by-entry _ _ (ap after c.in-668.is)
    (number_at _ _ 8 F.U64 (rw (part_to_end c.args.bytes.now 0) at c.read_u64.ensures) (made-is T.U64 _ (λ x t k. search rules) _ _ c.made-in-668.ensures))

pub returns-in-791 : goal.returns-in-791
unfolding after or_plain find entries table token_of
returns-in-791 c =
    by-entry _ _ (ap after c.in-791.is)
    (through-at _ _ 8 (to_z w64) F.I64 (rw (part_to_end c.args.bytes.now 0) at c.read_i64.ensures) (made-is T.I64 _ (λ x t k. search rules) _ _ c.made-in-791.ensures))

pub returns-in-359 : goal.returns-in-359
unfolding after or_plain find entries table token_of
returns-in-359 c =
    by-entry _ _ (ap after c.in-359.is)
    (number_at _ _ 8 F.F64 (rw (part_to_end c.args.bytes.now 0) at c.read_f64.ensures) (made-is T.F64 _ (λ x t k. search rules) _ _ c.made-in-359.ensures))

pub returns-in-14 : goal.returns-in-14
unfolding after or_plain find entries table token_of
returns-in-14 c =
    by-entry _ _ (ap after c.in-14.is)
    (through-at _ _ 1 (λ n. not (eqb n 0)) F.Truth c.read_bool.ensures (made-is T.Bool _ (λ x t k. search rules) _ _ c.made-in-14.ensures))

pub returns-in-15 : goal.returns-in-15
unfolding after or_plain find entries table token_of
returns-in-15 c =
    by-entry _ _ (ap after c.in-15.is)
    (text_at_lem _ _ F.Quoted T.Quoted (λ _ _. refl) c.read_string.ensures (made-is T.Quoted _ (λ x t k. search rules) _ _ c.made-in-15.ensures))

pub returns-in-23 : goal.returns-in-23
unfolding token_of
returns-in-23 c =
    by-entry _ _ (unquoted-at c.in-23.is)
    (text_at_lem _ _ F.Unquoted T.Unquoted (λ _ _. refl) c.read_string-in-23.ensures (made-is T.Unquoted _ (λ x t k. search rules) _ _ c.made-in-23.ensures))

pub returns-in-3394 : goal.returns-in-3394
unfolding after or_plain find entries table
returns-in-3394 c = by-entry _ _ (ap after c.in-3394.is) (rw c.empty_token.ensures (empty-at _ _ refl))

pub returns-in-579 : goal.returns-in-579
unfolding after or_plain find entries table
returns-in-579 c =
    by-entry _ _ (ap after c.in-579.is)
    (colour-at _ _ (rw (part_to_end c.args.bytes.now 0) at c.read_rgb.ensures) c.rgb_token.ensures)

pub returns-in-3392 : goal.returns-in-3392
unfolding token_of
returns-in-3392 c =
    by-entry _ _ (lookup1-at c.in-3392.is)
    (number_at _ _ 1 F.Lookup c.read_lookup_u8.ensures (made-is T.Lookup _ (λ x t k. search rules) _ _ c.lookup.ensures))

pub returns-in-3390 : goal.returns-in-3390
unfolding token_of
returns-in-3390 c =
    by-entry _ _ (lookup2-at c.in-3390.is)
    (number_at _ _ 2 F.Lookup c.read_lookup_u16.ensures (made-is T.Lookup _ (λ x t k. search rules) _ _ c.lookup-in-3390.ensures))

pub returns-in-3393 : goal.returns-in-3393
unfolding token_of
returns-in-3393 c =
    by-entry _ _ (lookup3-at c.in-3393.is)
    (number_at _ _ 3 F.Lookup c.read_lookup_u24.ensures (made-is T.Lookup _ (λ x t k. search rules) _ _ c.lookup-in-3393.ensures))

pub returns-in-3391 : goal.returns-in-3391
unfolding token_of
returns-in-3391 c =
    by-entry _ _ (lookup4-at c.in-3391.is)
    (number_at _ _ 4 F.Lookup c.read_lookup_u32.ensures (made-is T.Lookup _ (λ x t k. search rules) _ _ c.lookup-in-3391.ensures))

pub returns-in-3399-to-3406 : goal.returns-in-3399-to-3406
unfolding entries table token_of
returns-in-3399-to-3406 c =
    let a = c.args in
    by-entry _ _ (search (rules, compact-at) ∙ compact-is _ _ false (search rules))
    (compact-from a.bytes.now a.next (a.id.0 - 0x0d47) false c.compact_token.ensures)

pub returns-in-3407-to-3413 : goal.returns-in-3407-to-3413
unfolding entries table token_of
returns-in-3407-to-3413 c =
    let a = c.args in
    by-entry _ _ (negated-in _ (search rules) (search rules) ∙ compact-is _ _ true (search rules))
    (compact-from a.bytes.now a.next (a.id.0 - 0x0d4e) true c.compact_token-in-3407-to-3413.ensures)

pub returns-in_default : goal.returns-in_default
unfolding entries table token_of
returns-in_default c =
    let h : after c.args.id.0 ≡ nothing (F.Id c.args.id.0) = search (rules, plain-below) in
    by-entry _ _ h (nothing-at _ _ _)

pub returns-in_default-2 : goal.returns-in_default-2
unfolding entries table token_of
returns-in_default-2 c =
    let h : after c.args.id.0 ≡ nothing (F.Id c.args.id.0) = search (rules, plain-above) in
    by-entry _ _ h (nothing-at _ _ _)
