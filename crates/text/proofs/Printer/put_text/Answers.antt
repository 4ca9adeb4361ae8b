-- `text::Printer::put_text` meets its contract. Assumes nothing.
use native.Mathlib.Omega.{arith}
use Rattle.text.proofs.Words.{dash, no-dash}
use Rattle.text.proofs.Printer.put_text.Goals as goal

pub returns-in-empty : goal.returns-in-empty
returns-in-empty c = rw (dash c.args.src.now (omega arith)) c.put.ensures

pub returns-in_default : goal.returns-in_default
returns-in_default c = rw (no-dash c.args.src.now (λ e. omega arith)) c.put_hex.ensures
