-- The reply of the fast step, and the held bytes after it.
use Rattle.std.specs.Prelude.{ℕ, List, length, leb, eqb}
use Rattle.form.specs.Numbers.{pick}
use Rattle.form.specs.Fast.{Step, fast, slow, Stepped}
use Rattle.capi.specs.Replies.{SHORT_ANSWER, BAD_ARGUMENT, Reply, answered, absent, Returned, returned, into}
use Rattle.capi.specs.Words.{number_words}

abbrev pub step_reply : Step → Reply
step_reply (fast k n) = answered n (number_words k)
step_reply slow = absent 0

-- held bytes that are not eight are refused
abbrev pub held_returned : List ℕ → List ℕ → Stepped → Returned
held_returned held answer x =
    pick (leb 8 (length answer))
    (pick (eqb (length held) 8) (into answer (step_reply x.step)) (returned BAD_ARGUMENT answer))
    (returned SHORT_ANSWER answer)

-- and are left alone, as where the answer list is too short
abbrev pub held_after : List ℕ → List ℕ → Stepped → List ℕ
held_after held answer x = pick (leb 8 (length answer)) (pick (eqb (length held) 8) x.held held) held
