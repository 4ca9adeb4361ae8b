-- `lexer::Lexer::read_bytes` meets its contract. Assumes nothing.
use Rattle.form.specs.Calls.{reads}
use Rattle.payload.proofs.Handed.{handed}
use Rattle.lexer.specs.Calls.{bytes_at}
use Rattle.lexer.proofs.Endings.{told-inside, told-outside, placed-ended, either}
use Rattle.lexer.proofs.Lexer.read_bytes.Goals as goal

pub returns-in_err-place : goal.returns-in_err-place
unfolding reads
returns-in_err-place c = rw (handed _ c.from_residual.ensures) (told-outside _ _ c.place.ensures c.in_err-place.was _)

pub returns : goal.returns
returns c =
    let h = told-inside _ _ c.place.ensures c.in_ok-place.was in
    let e = placed-ended (λ t. t) (bytes_at c.args.count) _ _ h (search either) c.ended.ensures in
    search (either, e)
