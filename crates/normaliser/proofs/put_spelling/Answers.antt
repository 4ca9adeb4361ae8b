-- `normaliser::put_spelling` meets its contract. Assumes nothing.
use Rattle.normaliser.proofs.Passing.{float_same, lookup_same}
use Rattle.normaliser.proofs.put_spelling.Goals as goal

pub returns-in-F64 : goal.returns-in-F64
returns-in-F64 c = rw (c.in-F64.is, ← float_same c.in-F64.x) c.put_number.ensures

pub returns-in-Lookup : goal.returns-in-Lookup
returns-in-Lookup c = rw (c.in-Lookup.is, ← lookup_same c.in-Lookup.x) c.put_number-in-Lookup.ensures
