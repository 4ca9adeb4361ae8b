-- The replies of the calls that write into a lent output, and the output after them.
use Rattle.std.proofs.Math.Option.{Option, none, some}
use Rattle.std.specs.Prelude.{List, [], ◌∷◌, ℕ, length, leb}
use Rattle.form.specs.Numbers.{pick}
use Rattle.form.specs.Writing.{Output, Outcome, wrote, declined, leaves}
use Rattle.form.specs.Rescue.{Report}
use Rattle.capi.specs.Replies.{Reply, answered, refused}

-- the number of bytes written; or nothing written, and why
abbrev pub outcome_reply : Outcome → Reply
outcome_reply (wrote n) = answered n []
outcome_reply (declined r) = refused 0 r

-- the same of a rescue, with what is told: the bytes cut, the strays, the Closes
abbrev pub rescue_reply : Outcome → Option Report → Reply
rescue_reply (wrote n) (some r) = answered n (r.cut_off ∷ r.strays ∷ r.added ∷ [])
rescue_reply (wrote n) none = answered n []
rescue_reply (declined r) o = refused 0 r

-- the output, which is left alone where the answer list is too short
abbrev pub left_by : List ℕ → Output → List ℕ → List ℕ
left_by answer o out = pick (leb 8 (length answer)) (leaves o out) out
