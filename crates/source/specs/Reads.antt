-- The stand-in for Read: what reads give, by a schedule.
use Rattle.std.specs.Prelude.{ℕ, ◌+◌, ◌-◌, min, Bool, true, false, List, [], ◌∷◌, eqb}
use Rattle.form.specs.Numbers.{pick}
use Rattle.source.specs.declared.reads.Reads.{Reads}

-- the entry of a read that fails
abbrev pub FAILS : ℕ
FAILS = 0xffff_ffff

-- so many bytes came, by so many entries of the schedule; the last read may have failed
abbrev pub came : ℕ → ℕ → Bool → Reads
came got used failed = record { got = got; used = used; failed = failed }

-- one read into so much room, with so many bytes left, by what is left of the schedule
unfoldable pub one : ℕ → ℕ → List ℕ → Reads
one room left [] = came (min room left) 0 false
one room left (e ∷ es) = pick (eqb e FAILS) (came 0 1 true) (came (min e (min room left)) 1 false)

-- a read that gave nothing is the last, and one that failed gave nothing; otherwise there are more
abbrev pub onward : Reads → Reads → Reads
onward r more = pick (eqb r.got 0) r (came (r.got + more.got) (r.used + more.used) more.failed)

-- reads until there is no room, a read gives nothing or a read fails; past the schedule's end a read gives all that there is, or fills the room
unfoldable pub fill : ℕ → ℕ → List ℕ → Reads
fill room left [] = one room left []
fill room left (e ∷ es) =
    pick (eqb room 0) (came 0 0 false)
    (onward (one room left (e ∷ es)) (fill (room - (one room left (e ∷ es)).got) (left - (one room left (e ∷ es)).got) es))
