-- `listing::line::name` meets its contract. Assumes nothing.
use Rattle.form.specs.Listing.{name}
use Rattle.token.specs.Tokens.{value_of}
use Rattle.listing.specs.Words.{name_of}
use Rattle.listing.proofs.line.name.Goals as goal

pub returns-in-Open : goal.returns-in-Open
unfolding name_of name value_of
returns-in-Open c = rw c.in-Open.is

pub returns-in-Close : goal.returns-in-Close
unfolding name_of name value_of
returns-in-Close c = rw c.in-Close.is

pub returns-in-Equal : goal.returns-in-Equal
unfolding name_of name value_of
returns-in-Equal c = rw c.in-Equal.is

pub returns-in-U32 : goal.returns-in-U32
unfolding name_of name value_of
returns-in-U32 c = rw c.in-U32.is

pub returns-in-U64 : goal.returns-in-U64
unfolding name_of name value_of
returns-in-U64 c = rw c.in-U64.is

pub returns-in-I32 : goal.returns-in-I32
unfolding name_of name value_of
returns-in-I32 c = rw c.in-I32.is

pub returns-in-Bool : goal.returns-in-Bool
unfolding name_of name value_of
returns-in-Bool c = rw c.in-Bool.is

pub returns-in-Quoted : goal.returns-in-Quoted
unfolding name_of name value_of
returns-in-Quoted c = rw c.in-Quoted.is

pub returns-in-Unquoted : goal.returns-in-Unquoted
unfolding name_of name value_of
returns-in-Unquoted c = rw c.in-Unquoted.is

pub returns-in-F32 : goal.returns-in-F32
unfolding name_of name value_of
returns-in-F32 c = rw c.in-F32.is

pub returns-in-F64 : goal.returns-in-F64
unfolding name_of name value_of
returns-in-F64 c = rw c.in-F64.is

pub returns-in-Rgb : goal.returns-in-Rgb
unfolding name_of name value_of
returns-in-Rgb c = rw c.in-Rgb.is

pub returns-in-I64 : goal.returns-in-I64
unfolding name_of name value_of
returns-in-I64 c = rw c.in-I64.is

pub returns-in-Lookup : goal.returns-in-Lookup
unfolding name_of name value_of
returns-in-Lookup c = rw c.in-Lookup.is

pub returns-in-Id : goal.returns-in-Id
unfolding name_of name value_of
returns-in-Id c = rw c.in-Id.is
