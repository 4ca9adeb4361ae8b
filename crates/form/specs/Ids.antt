-- The ids that a colour and a container are told by, and what an id's payload may give.
use Rattle.std.specs.Prelude.{ℕ, []}
use Rattle.std.proofs.Math.Option.{none}
use Rattle.form.specs.Values.{Value, Rgb}
use Rattle.form.specs.Table.{Payload, number, text, colour}

unfoldable pub OPEN : ℕ
OPEN = 0x0003

unfoldable pub CLOSE : ℕ
CLOSE = 0x0004

-- the id of U32, which stands before each number of a colour
unfoldable pub CHANNEL : ℕ
CHANNEL = 0x0014

-- a value that such a payload may give
unfoldable pub sample : Payload → Value
sample (number w f) = f 0
sample (text f) = f []
sample colour = Rgb 0 0 0 none
