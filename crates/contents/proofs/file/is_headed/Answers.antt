-- `contents::file::is_headed` meets its contract. Assumes nothing.
use Prim.Native.Nat.{◌-◌}
use mathlib.Core.Path.{sym, ◌∙◌}
use lib.ListN.{length, take, drop, get_or}
use borrow.Author.Tests.{le-leb, lt-leb, eq-eqb, ne_eqb}
use Rattle.form.specs.Contents.{big_number}
use Rattle.contents.specs.Files.{is_headed}
use Rattle.contents.proofs.Admitted.{headed-by}
use Rattle.contents.proofs.file.is_headed.Goals as goal

pub returns-then-len-lt5 : goal.returns-then-len-lt5
unfolding is_headed
returns-then-len-lt5 c = rw (lt-leb 5 (length c.args.file.now) c.if-len-lt5.true)

pub returns-then-file-ne1 : goal.returns-then-file-ne1
unfolding is_headed
returns-then-file-ne1 c =
    let s = c.args.file.now in
    rw (le-leb 5 (length s) c.if-len-lt5.false, ne_eqb (get_or s 0 0) 1 c.if-file-ne1.true)

pub returns-then-number_at-len : goal.returns-then-number_at-len
returns-then-number_at-len c =
    let s = c.args.file.now in
    let n = ne_eqb (big_number (take 4 (drop 1 s))) (length s - 5) (λ q. c.if-number_at-len.true (c.number_at.ensures ∙ q)) in
    rw (headed-by s c.if-len-lt5.false c.if-file-ne1.false, n)

pub returns : goal.returns
returns c =
    let s = c.args.file.now in
    let n = eq-eqb (big_number (take 4 (drop 1 s))) (length s - 5) (sym c.number_at.ensures ∙ c.if-number_at-len.false) in
    rw (headed-by s c.if-len-lt5.false c.if-file-ne1.false, n)
