-- `normaliser::spelling::colour` meets its contract. Assumes nothing.
use borrow.Author.Rules.{part_to_end}
use Rattle.payload.specs.Answers.{lexed_as, colour_of}
use Rattle.normaliser.proofs.Taken.{ok_of}
use Rattle.normaliser.proofs.spelling.colour.Goals as goal

pub returns : goal.returns
returns c = (_, ok_of (lexed_as colour_of) c.read_rgb.result c.in_ok-next.ensures.value (rw (part_to_end c.args.bytes.now 0) at c.read_rgb.ensures))
