-- Conservation: over any sequence of calls from a new source, bytes consumed, then window, then supply left are the supply. Assumes nothing.
use mathlib.Core.Path.{◌≡◌, refl, sym, ap, ◌∙◌}
use mathlib.Core.List.{List, [], ◌∷◌, ◌++◌, append_assoc}
use Prim.Native.Nat.{ℕ, ◌-◌, ◌≤◌}
use native.Mathlib.Omega.{arith}
use lib.ListN.{length, take, drop, length-append, take-append-drop}
use lib.Seq.{length-take-le}
use Rattle.form.specs.Numbers.{MAX}
use Rattle.source.specs.declared.ParserSource.{ParserSource}
use Rattle.source.specs.Window.{new_stream, new_slice, Drawn, drawn, halted}
use Rattle.source.specs.Runs.{Ask, ensure-bytes, advance, take_next, try-take, peek, refill, window-len, read-bstr, read-lexeme-id, peek-lexeme-id, read-rgb, ahead, World, passed, leaving, asked, run, fresh, Conserved}
use Rattle.source.proofs.Kept.{Sound, Kept, Keeps, ensured-keeps, refilled-keeps, advanced-keeps, window-len-keeps, taken-keeps, tried-keeps, peeked-keeps, number-keeps, peeked-id-keeps, string-keeps, colour-keeps}

module _ (supply schedule : List ℕ) where
  -- between any two calls
  record Between (w : World) : Type 0 where
    good : Sound supply schedule w.state w.buffer
    kept : Conserved supply w

  on : (w : World) (t : ParserSource) (b : List ℕ) → Between w → Kept supply schedule w.state w.buffer t b → Between (passed supply w t b)
  on w t b c k =
      let X = ahead supply w.state w.buffer in
      let n = t.position - w.state.position in
      let l : length (take n X) ≡ n = length-take-le n X (omega (arith, k.on, k.total)) in
      record {
        good = k.good;
        kept = record {
          joined =
              append_assoc w.consumed (take n X) (ahead supply t b)
              ∙ ap (λ (r : List ℕ). w.consumed ++ (take n X ++ r)) (sym k.same)
              ∙ ap (λ (r : List ℕ). w.consumed ++ r) (take-append-drop n X) ∙ c.kept.joined;
          counted = omega (arith, k.on, c.kept.counted, l, length-append w.consumed (take n X));
        };
      }

  step : {A : Type 0} (w : World) (x : Drawn A) → Between w → Keeps supply schedule w.state w.buffer x → Between (leaving supply w x)
  unfolding leaving
  step w (drawn a t b) c k = on w t b c k
  step w (halted r t b) c k = on w t b c k

  call : (q : Ask) (w : World) → Between w → Between (asked supply schedule q w)
  unfolding asked
  call (ensure-bytes n) w c = step w _ c (ensured-keeps supply schedule n w.state w.buffer c.good)
  call (advance n) w c = step w _ c (advanced-keeps supply schedule n w.state w.buffer c.good)
  call (take_next n) w c = step w _ c (taken-keeps supply schedule n w.state w.buffer c.good)
  call (try-take n) w c = step w _ c (tried-keeps supply schedule n w.state w.buffer c.good)
  call (peek n) w c = step w _ c (peeked-keeps supply schedule n w.state w.buffer c.good)
  call refill w c = step w _ c (refilled-keeps supply schedule w.state w.buffer c.good)
  call window-len w c = step w _ c (window-len-keeps supply schedule w.state w.buffer c.good)
  call read-bstr w c = step w _ c (string-keeps supply schedule w.state w.buffer c.good)
  call read-lexeme-id w c = step w _ c (number-keeps supply schedule 2 w.state w.buffer c.good)
  call peek-lexeme-id w c = step w _ c (peeked-id-keeps supply schedule w.state w.buffer c.good)
  call read-rgb w c = step w _ c (colour-keeps supply schedule w.state w.buffer c.good)

  calls : (qs : List Ask) (w : World) → Between w → Between (run supply schedule qs w)
  unfolding run
  calls [] w c = c
  calls (q ∷ qs) w c = calls qs (asked supply schedule q w) (call q w c)

  -- from a new stream
  pub conserved : (buffer : List ℕ) (qs : List Ask) → length supply ≤ MAX → Conserved supply (run supply schedule qs (fresh new_stream buffer))
  conserved buffer qs h =
      (calls qs (fresh new_stream buffer) (record {
        good = record { ordered = omega arith; within = omega arith; supplied = omega arith; scheduled = omega arith; sum = omega arith };
        kept = record { joined = refl; counted = refl };
      })).kept

  -- from a new slice, which is the supply
  pub conserved-slice : (buffer : List ℕ) (qs : List Ask) → length supply ≤ MAX → Conserved supply (run supply schedule qs (fresh (new_slice (length supply)) buffer))
  conserved-slice buffer qs h =
      (calls qs (fresh (new_slice (length supply)) buffer) (record {
        good = record { ordered = omega arith; within = omega arith; supplied = omega arith; scheduled = omega arith; sum = omega arith };
        kept = record { joined = whole; counted = refl };
      })).kept
    where
      whole : take (length supply - 0) supply ++ drop (length supply) supply ≡ supply
      whole = let z : length supply - 0 ≡ length supply = omega arith in ap (λ (n : ℕ). take n supply ++ drop (length supply) supply) z ∙ take-append-drop (length supply) supply
