-- How many tokens a save has.
use Rattle.std.specs.Prelude.{ℕ, ◌+◌, List, length}
use Rattle.form.specs.Refusals.{refusal_value}
use Rattle.form.specs.Saves.{Walk, done, cut, then, walk}
use Rattle.capi.specs.Replies.{Reply, answered, refused}
use Rattle.capi.specs.Words.{number_words}

-- the reply for a walk to place e, with k tokens before it: a walk that is cut ends at its refusal's position
unfoldable pub counting : ℕ → ℕ → Walk → Reply
counting e k done = answered e (number_words k)
counting e k (cut r) = refused (refusal_value r) r
counting e k (then p n v w) = counting e (k + 1) w

unfoldable pub count_reply : List ℕ → Reply
count_reply s = counting (length s) 0 (walk s)
