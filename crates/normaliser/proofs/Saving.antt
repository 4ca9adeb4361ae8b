-- A pass over a save that is rescued: what it has kept, counted and written, and what is to come. Assumes nothing.
use Prim.Native.Nat.{ℕ, ◌+◌, ◌-◌, ◌*◌, ◌≤◌, ◌<◌}
use native.Mathlib.Nat.{zero-add, add-zero}
use native.Mathlib.Omega.{arith}
use mathlib.Core.Path.{◌≡◌, refl, sym, ap, ◌∙◌}
use mathlib.Core.Option.{none, some}
use mathlib.Core.List.{List, [], ◌++◌}
use lib.ListN.{length, length-append}
use borrow.Author.Tests.{le-leb, lt-leb}
use Rattle.form.specs.Numbers.{MAX}
use Rattle.form.specs.Saves.{walk, tokens, LIMIT}
use Rattle.form.specs.Keys.{at_top, is_stray, count}
use Rattle.form.specs.Refusals.{NoRoom, TooLong}
use Rattle.form.specs.Writing.{written, unwritten, wrote, declined, outcome, leaves, Follows, fitted}
use Rattle.form.specs.Rescue.{open_after, read_to, kept_of, closes, rescued, report, rescue, if_written, told}
use Rattle.laws.proofs.Walking.{from_start}
use Rattle.laws.proofs.Puts.{put_front}
use Rattle.normaliser.specs.declared.rescuing.Ending.{Ending}
use Rattle.normaliser.specs.declared.rescuing.Ending.TheVariants.{Stray, End}
use Rattle.normaliser.specs.declared.rescuing.Rescued.{Rescued}
use Rattle.normaliser.specs.Answers.{report_of}
use Rattle.normaliser.specs.Stretches.{between, Appends}
use Rattle.normaliser.specs.Rescues.{ToCome, to_come, behind, ToStray, ToEnd, Stretches, Surveyed, Needs}
use Rattle.normaliser.proofs.Joining.{between-length}
use Rattle.normaliser.proofs.Passing.{appends-none, appends-then}
use Rattle.normaliser.proofs.Choosing.{by-output}
use Rattle.normaliser.proofs.Reached.{behind-none, behind-behind}

-- it has come to place i, with the bytes done kept, which are in the output if they fit there; the next stretch is known
pub record Saving (s d₀ d : List ℕ) (i need k : ℕ) (e : Ending) : Type 0 where
  pub done : List ℕ
  pub is : to_come s 0 0 ≡ behind done k (to_come s 0 i)
  pub appends : Appends d₀ 0 done d need
  pub few : length done + 2 * k ≤ i
  pub there : i ≤ length s
  pub next : Stretches s i e

pub saving-start : (s d : List ℕ) (e : Ending) → length d ≤ MAX → Stretches s 0 e → Saving s d d 0 0 0 e
saving-start s d e m h = record {
  done = [];
  is = sym (behind-none (to_come s 0 0));
  appends = appends-none d 0 m;
  few = omega arith;
  there = omega arith;
  next = h;
}

module _ {s d₀ d : List ℕ} {i need k : ℕ} {e : Ending} (g : Saving s d₀ d i need k e) where
  -- so few bytes that they can be counted
  pub counted : {q : ℕ} → i ≤ q → q ≤ length s → length s ≤ LIMIT → (need + (q - i) ≤ q) × (k ≤ q) × (q ≤ LIMIT)
  counted l h m = (omega (arith, g.appends.count, g.few), omega (arith, g.few), omega arith)

  -- ---- up to a stray

  pub stray-ahead : {q : ℕ} → e ≡ Stray q → ToStray s i q
  stray-ahead {q} h = let x : Stretches s i (Stray q) = rw h at g.next in x

  pub past-stray : {q r : ℕ} {d' : List ℕ} {e' : Ending} → e ≡ Stray q → Appends d need (between s i q) d' r → Stretches s (q + 2) e' → Saving s d₀ d' (q + 2) r (k + 1) e'
  past-stray {q} h a n =
      let t = stray-ahead h in
      record {
        done = g.done ++ between s i q;
        is = g.is ∙ ap (behind g.done k) t.is ∙ behind-behind g.done (between s i q) k 1 (to_come s 0 (q + 2));
        appends = appends-then g.appends a;
        few = omega (arith, g.few, t.on, length-append g.done (between s i q), between-length s i q (omega (arith, t.there)));
        there = t.there;
        next = n;
      }

  -- ---- to the end

  pub end-ahead : {q n : ℕ} → e ≡ End q n → ToEnd s i q n
  end-ahead {q} {n} h = let x : Stretches s i (End q n) = rw h at g.next in x

  all-kept : {q n : ℕ} → ToEnd s i q n → to_come s 0 0 ≡ record { kept = g.done ++ between s i q; strays = k; deep = n; end = q }
  all-kept {q} {n} t = g.is ∙ ap (behind g.done k) t.is ∙ ap (λ (j : ℕ). record { kept = g.done ++ between s i q; strays = j; deep = n; end = q }) (add-zero k)

  pub saved : {q n r r' : ℕ} {d₁ d₂ : List ℕ} → length d₀ ≤ MAX → e ≡ End q n → Appends d need (between s i q) d₁ r → Appends d₁ r (closes n) d₂ r'
      → Surveyed s d₀ d₂ (record { written = r'; report = record { cut = length s - q; strays = k; closes = n } })
  unfolding rescued report tokens leaves
  saved {q} {n} m h a b =
      let t = all-kept (end-ahead h) in
      let w = from_start s in
      let kept : kept_of s 0 (walk s) ≡ g.done ++ between s i q = rw w at (ap (λ (x : ToCome). x.kept) t) in
      let open' : open_after 0 (tokens s) ≡ n = rw w at (ap (λ (x : ToCome). x.deep) t) in
      let strays : count is_stray at_top (walk s) ≡ k = rw w at (ap (λ (x : ToCome). x.strays) t) in
      let end : read_to 0 (walk s) ≡ q = rw w at (ap (λ (x : ToCome). x.end) t) in
      let all : rescued s ≡ (g.done ++ between s i q) ++ closes n = rw (kept, open') in
      let p = appends-then (appends-then g.appends a) b in
      record {
        need = p.count ∙ zero-add _ ∙ ap length (sym all);
        tells = rw (strays, end, open');
        bytes = λ l. put_front m l (rw (← all) at (p.puts (omega (arith, p.count, ap length all))));
      }

-- ---- what the room says of the output

pub rescue-long : (s d : List ℕ) → LIMIT < length s → Follows (rescue (length d) s) (declined (TooLong (length s))) d d × (none ≡ told (length d) s)
unfolding rescue told if_written outcome leaves
rescue-long s d h = let e : rescue (length d) s ≡ unwritten (TooLong (length s)) = rw (lt-leb (length s) LIMIT h) in (by-output e refl, rw e)

-- by what a pass has counted
pub measured : {s : List ℕ} (room : ℕ) {n : ℕ} → n ≡ length (rescued s) → Needs s room n
measured room e = record { fits = λ h. omega arith; lacks = λ h. e }

module _ (s d : List ℕ) (l : length s ≤ LIMIT) {n : ℕ} (m : Needs s (length d) n) where
  pub rescue-lacks : length d < n → Follows (rescue (length d) s) (declined (NoRoom n)) d d × (none ≡ told (length d) s)
  unfolding rescue told if_written fitted outcome leaves
  rescue-lacks h =
      let q = m.lacks h in
      let e : rescue (length d) s ≡ unwritten (NoRoom n) = rw (le-leb (length s) LIMIT l, lt-leb (length (rescued s)) (length d) (omega arith), q) in
      (by-output e refl, rw e)

  pub rescue-fits : n ≤ length d → {d' : List ℕ} {r : Rescued} → Surveyed s d d' r → Follows (rescue (length d) s) (wrote r.written) d d' × (some (report_of r.report) ≡ told (length d) s)
  unfolding rescue told if_written fitted outcome
  rescue-fits h p =
      let f = m.fits h in
      let e : rescue (length d) s ≡ written (rescued s) = rw (le-leb (length s) LIMIT l, le-leb (length (rescued s)) (length d) f) in
      (rw p.need (by-output e (p.bytes f)), rw (e, p.tells))
