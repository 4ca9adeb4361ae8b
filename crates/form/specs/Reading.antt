-- Reading: the next bytes, a number, a text, a colour, a token.
use Rattle.std.specs.Prelude.{ℕ, ◌-◌, Bool, ◌&&◌, List, length, take, leb, eqb}
use Rattle.std.proofs.Math.Option.{none, some}
use Rattle.form.specs.Numbers.{pick, le}
use Rattle.form.specs.Values.{Value, Rgb}
use Rattle.form.specs.Table.{Payload, number, text, colour, after}
use Rattle.form.specs.Ids.{OPEN, CLOSE, CHANNEL}
use Rattle.form.specs.Refusals.{too_short, bad_colour}
use Rattle.form.specs.Readers.{found, refused, Reader, and_then, ◌followed-by◌, ◌giving◌, give, refuse}

-- the next n bytes
unfoldable pub next : ℕ → Reader (List ℕ)
next n s = pick (leb n (length s)) (found (take n s) n) (refused (too_short (n - length s)))

-- the next n bytes are asked for at once, and read by f
unfoldable pub piece : {A : Type 0} → ℕ → Reader A → Reader A
piece n f s = and_then (next n s) (λ _ _. f s)

-- the number that the next w bytes spell
unfoldable pub num : ℕ → Reader ℕ
num w = next w giving le

-- a length of two bytes, and so many bytes of text
unfoldable pub string : Reader (List ℕ)
string = num 2 followed-by next

-- an id and a number of four bytes
pub record Channel : Type 0 where
  pub tag : ℕ
  pub value : ℕ

unfoldable pub channel : Reader Channel
channel = num 2 followed-by (λ i. num 4 giving (λ n. record { tag = i; value = n }))

-- a colour's alpha and its end
unfoldable pub alpha_end : ℕ → ℕ → ℕ → Reader Value
alpha_end r g b =
    num 4 followed-by (λ a. num 2 followed-by (λ e. pick (eqb e CLOSE) (give (Rgb r g b (some a))) (refuse bad_colour)))

-- they are one piece of six bytes
unfoldable pub with_alpha : ℕ → ℕ → ℕ → Reader Value
with_alpha r g b = piece 6 (alpha_end r g b)

-- what follows the third channel, by the id there
unfoldable pub ending : ℕ → ℕ → ℕ → ℕ → Reader Value
ending e r g b =
    pick (eqb e CLOSE) (give (Rgb r g b none)) (pick (eqb e CHANNEL) (with_alpha r g b) (refuse bad_colour))

-- the first four ids of a colour are right
unfoldable pub headed : ℕ → ℕ → ℕ → ℕ → Bool
headed o r g b = eqb o OPEN && eqb r CHANNEL && eqb g CHANNEL && eqb b CHANNEL

-- what is said of a colour's five ids and three numbers
unfoldable pub judged : ℕ → Channel → Channel → Channel → ℕ → Reader Value
judged o r g b e = pick (headed o r.tag g.tag b.tag) (ending e r.value g.value b.value) (refuse bad_colour)

-- a colour's five ids and three numbers
unfoldable pub channels : Reader Value
channels = num 2 followed-by (λ o. channel followed-by (λ r. channel followed-by (λ g. channel followed-by (λ b. num 2 followed-by judged o r g b))))

-- a colour: they are one piece of 22 bytes, taken before anything is judged
unfoldable pub rgb : Reader Value
rgb = piece 22 channels

unfoldable pub payload : Payload → Reader Value
payload (number w f) = num w giving f
payload (text f) = string giving f
payload colour = rgb

-- a token: an id, and what follows it
unfoldable pub token : Reader Value
token = num 2 followed-by (λ i. payload (after i))
