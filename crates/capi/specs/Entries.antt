-- The replies of the calls on a table of contents, and a lent list of numbers after them.
use Rattle.std.specs.Prelude.{ℕ, List, [], length, leb}
use Rattle.form.specs.Numbers.{pick}
use Rattle.form.specs.Contents.{Filling, numbers_left, Search, held, nowhere, unsearched}
use Rattle.capi.specs.Replies.{Reply, answered, absent, refused}

-- the entry's number; that none holds the position; or why there is no answer
abbrev pub search_reply : Search → Reply
search_reply (held i) = answered i []
search_reply nowhere = absent 0
search_reply (unsearched r) = refused 0 r

-- the list, which is left alone where the answer list is too short
abbrev pub list_left : List ℕ → Filling → List ℕ → List ℕ
list_left answer x list = pick (leb 8 (length answer)) (numbers_left x list) list
