-- What an answer says of the output. Assumes nothing.
use Prim.Native.Nat.{ℕ, ◌≤◌}
use mathlib.Core.Path.{◌≡◌, refl, sym, ap, ◌∙◌}
use mathlib.Core.Option.{Option, none, some}
use mathlib.Core.List.{List}
use lib.ListN.{length}
use Rattle.std.specs.Prelude.{Ok, Err}
use Rattle.form.specs.Numbers.{MAX}
use Rattle.form.specs.Refusals as R
use Rattle.form.specs.Writing.{Output, written, unwritten, wrote, declined, outcome, leaves, Follows, fitted, unless}
use Rattle.laws.proofs.Never.{never}
use Rattle.writer.specs.declared.WriteError.{WriteError}
use Rattle.writer.specs.Writes.{write_refusal, Fitted}
use Rattle.writer.specs.declared.layout.Layout.{Layout}
use Rattle.writer.specs.Layouts.{spelled_by, misplaced_by, reason_by, write_by}
use Rattle.form.specs.Put.{Put}
use Rattle.writer.proofs.Fitting.{fitted-written}
use Rattle.laws.proofs.Puts.{put_front}

-- a refusal leaves the output unchanged
pub refused-leaves : (o : Output) (e : WriteError) (d : List ℕ) → declined (write_refusal e) ≡ outcome o → leaves o d ≡ d
unfolding outcome leaves
refused-leaves (unwritten why) e d q = refl
refused-leaves (written bs) e d q = never (cc)

-- what is written is the spelling, and it fits
pub written-fits : (room : ℕ) (s : List ℕ) (p : Layout) {n : ℕ} → wrote n ≡ outcome (write_by room s p)
    → (write_by room s p ≡ written (spelled_by s p)) × (length (spelled_by s p) ≤ room)
unfolding write_by unless outcome
written-fits room s p {n} e = placed (misplaced_by s p) e
  where
    bs : List ℕ
    bs = spelled_by s p

    judged : (o : Option R.Refusal) → wrote n ≡ outcome (unless o (fitted room bs)) → (unless o (fitted room bs) ≡ written bs) × (length bs ≤ room)
    judged none e = let f = fitted-written room bs e in (f.2, f.1)
    judged (some why) e = never (cc)

    placed : (o : Option R.Refusal) → wrote n ≡ outcome (unless o (unless (reason_by p) (fitted room bs)))
        → (unless o (unless (reason_by p) (fitted room bs)) ≡ written bs) × (length bs ≤ room)
    placed none e = judged (reason_by p) e
    placed (some why) e = never (cc)

-- ---- bytes that are judged by the room alone

module _ (d bs : List ℕ) {m : ℕ} (l : length bs ≡ m) where
  pub not-stored : (e : WriteError) → Fitted m (length d) (Err e) → Follows (fitted (length d) bs) (declined (write_refusal e)) d d
  not-stored e f = record { answer = f bs l; output = sym (refused-leaves (fitted (length d) bs) e d (f bs l)) }

  module _ {n : ℕ} (f : Fitted m (length d) (Ok n)) where
    abbrev is : (n ≡ length bs) × (length bs ≤ length d) × (fitted (length d) bs ≡ written bs)
    is = fitted-written (length d) bs (f bs l)

    pub room : length bs ≤ length d
    room = is.1

    pub stored : {d' : List ℕ} {p : ℕ} → length d ≤ MAX → Put d 0 bs d' p → Follows (fitted (length d) bs) (wrote n) d d'
    unfolding leaves
    stored m p = record { answer = f bs l; output = put_front m room p ∙ ap (λ o. leaves o d) (sym is.2) }
