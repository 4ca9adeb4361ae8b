-- No public promise goes through this file. A search, an entry at a time.
use Rattle.std.specs.Prelude.{ℕ, Bool, true, ◌&&◌, eqb, ltb, Result, Ok, Err, Option, Some, None}
use Rattle.std.specs.Option.{option_or}
use Rattle.form.specs.Numbers.{pick}
use Rattle.form.specs.Contents.{holds_at}
use Rattle.contents.specs.declared.Entry.{Entry}
use Rattle.contents.specs.declared.searching.Seen.{Seen}
use Rattle.contents.specs.declared.searching.BadIndex.{BadIndex}
use Rattle.contents.specs.Answers.{entry_of}

-- before the first entry
abbrev pub begun : ℕ → Seen
begun p = record { position = p; edge = None; ordered = true; found = None }

-- the entry is in order, after one that ends at an edge or as the first
unfoldable pub follows_on : Option ℕ → Entry → Bool
follows_on None e = ltb e.start e.end
follows_on (Some edge) e = ltb e.start e.end && eqb e.start edge

-- the entry after i others, if it holds the position
abbrev pub held_by : ℕ → Entry → ℕ → Option ℕ
held_by i e p = pick (holds_at p (entry_of e)) (Some i) None

-- the search after one more entry, which comes after i others
abbrev pub past_of : Seen → ℕ → Entry → Seen
past_of s i e = record {
  position = s.position;
  edge = Some e.end;
  ordered = s.ordered && follows_on s.edge e;
  found = option_or s.found (held_by i e s.position);
}

-- what is said of a whole list
abbrev pub answer_of : Seen → Result (Option ℕ) BadIndex
answer_of s = pick s.ordered (Ok s.found) (Err (record {}))
