-- `capi::lexing::stivlaheim_read_rgb` meets its contract. Assumes nothing.
use Rattle.payload.specs.Answers.{colour_of}
use Rattle.capi.specs.Words.{colour_words, rgb_words}
use Rattle.capi.proofs.Mapped.{read, colour_own}
use Rattle.capi.proofs.lexing.stivlaheim_read_rgb.Goals as goal

pub returns : goal.returns
returns c = rw (← c.read_rgb.ensures, read colour_of colour_words rgb_words colour_own _ c.read_rgb.result, ← c.of_read.ensures) c.store.ensures
