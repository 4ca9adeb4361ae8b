-- No public promise goes through this file. A rescue as the code makes it: stretch by stretch, and what is left from a place on.
use Rattle.std.specs.Prelude.{ℕ, ◌+◌, ◌-◌, ◌*◌, ◌≤◌, ◌<◌, ◌≡◌, List, ◌++◌, length}
use Rattle.form.specs.Saves.{from, values}
use Rattle.form.specs.Writing.{written, leaves}
use Rattle.form.specs.Keys.{is_stray, count}
use Rattle.form.specs.Rescue.{open_after, read_to, at_depth, kept_of, rescued, report}
use Rattle.normaliser.specs.declared.rescuing.Ending.{Ending}
use Rattle.normaliser.specs.declared.rescuing.Ending.TheVariants.{Stray, End}
use Rattle.normaliser.specs.declared.rescuing.Rescued.{Rescued}
use Rattle.normaliser.specs.Answers.{report_of}
use Rattle.normaliser.specs.Stretches.{between}

-- what is to come: the bytes that are kept, the strays, how many containers are open at the end, and where it is
pub record ToCome : Type 0 where
  pub kept : List ℕ
  pub strays : ℕ
  pub deep : ℕ
  pub end : ℕ

-- from place p on, at depth d
abbrev pub to_come : List ℕ → ℕ → ℕ → ToCome
to_come s d p = record {
  kept = kept_of s d (from s p);
  strays = count is_stray (at_depth d) (from s p);
  deep = open_after d (values (from s p));
  end = read_to p (from s p);
}

-- after the bytes bs, which are kept, and k strays
abbrev pub behind : List ℕ → ℕ → ToCome → ToCome
behind bs k r = record { kept = bs ++ r.kept; strays = k + r.strays; deep = r.deep; end = r.end }

-- a stretch from place p ends at a stray at q
pub record ToStray (s : List ℕ) (p q : ℕ) : Type 0 where
  pub on : p ≤ q
  pub there : q + 2 ≤ length s
  pub is : to_come s 0 p ≡ behind (between s p q) 1 (to_come s 0 (q + 2))

-- or where reading does, at q, with d containers open
pub record ToEnd (s : List ℕ) (p q d : ℕ) : Type 0 where
  pub on : p ≤ q
  pub there : q ≤ length s
  pub shallow : 2 * d ≤ q - p
  pub is : to_come s 0 p ≡ record { kept = between s p q; strays = 0; deep = d; end = q }

abbrev pub Stretches : List ℕ → ℕ → Ending → Type 0
Stretches s p (Stray q) = ToStray s p q
Stretches s p (End q d) = ToEnd s p q d

-- a pass over the save s turns the output d into d': it counts all that is rescued and writes it where there is room, and tells the report
pub record Surveyed (s d d' : List ℕ) (r : Rescued) : Type 0 where
  pub need : r.written ≡ length (rescued s)
  pub tells : report_of r.report ≡ report s
  pub bytes : length (rescued s) ≤ length d → d' ≡ leaves (written (rescued s)) d

-- of a room it is told whether the rescued save fits, and if not, how long it is
pub record Needs (s : List ℕ) (room r : ℕ) : Type 0 where
  pub fits : r ≤ room → length (rescued s) ≤ room
  pub lacks : room < r → r ≡ length (rescued s)
