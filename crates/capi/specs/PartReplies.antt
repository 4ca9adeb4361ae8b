-- The replies of the calls on parts of the bytes.
use Rattle.std.specs.Prelude.{ℕ, List, [], ◌∷◌, length, Option as MayBe, Some, None}
use Rattle.std.proofs.Math.Option.{Option, none, some}
use Rattle.form.specs.Refusals.{Refusal}
use Rattle.split.specs.Splits.{rest_of}
use Rattle.payload.specs.declared.answers.Text.{Text}
use Rattle.capi.specs.Replies.{Reply, answered, refused, absent}
use Rattle.capi.specs.Words.{text_words}

-- `get_split`: the place after the head, and the part that is the rest
abbrev pub split_reply : List ℕ → MayBe ℕ → Reply
split_reply s (Some n) = answered n (n ∷ length (rest_of s n) ∷ [])
split_reply s None = absent 0

-- `text`: the part that it is, or why it is none
abbrev pub text_reply : Text → Option Refusal → Reply
text_reply t none = answered t.start (text_words t)
text_reply t (some r) = refused t.start r
