-- Clean saves and their normal forms. Assumes nothing.
use Prim.Native.Nat.{ℕ, ◌*◌, ◌≤◌}
use native.Mathlib.Nat.{le_refl}
use native.Mathlib.Omega.{arith}
use mathlib.Core.Path.{◌≡◌, sym, ap, ◌∙◌}
use mathlib.Core.Logic.{◌↔◌}
use mathlib.Core.Bool.{not}
use mathlib.Core.Option.{none, some}
use mathlib.Core.List.{List, [], ◌∷◌}
use lib.ListN.{length}
use lib.Dec.{T}
use store.Enc.{and_l, and_r}
use Rattle.form.specs.Numbers.{le_bytes, Bytes}
use Rattle.form.specs.Values.{Value, Open, Close, Equal, U32, U64, F32, F64, Lookup, Id, I32, I64, Truth, Quoted, Unquoted, Rgb}
use Rattle.form.specs.Reading.{token}
use Rattle.form.specs.Spelling.{tag, spelled_channel, spelled_alpha, body, spell, writable, wide, InType}
use Rattle.form.specs.Saves.{walk, values, whole, tokens, spell_all, normal, all_narrow, LIMIT, Clean}
use Rattle.laws.proofs.LittleEndian.{append-bytes, bytes-bytes}
use Rattle.laws.proofs.ReadsBack.{reads-back}
use Rattle.laws.proofs.Found.{All, all-weaken}
use Rattle.laws.proofs.SpelledAnew.{Each, back, Fair, kept}
use Rattle.laws.proofs.Sound.{Sound, token-sound}

-- a value that can be spelled
abbrev pub Spellable : Value → Type 0
Spellable v = InType v × T (writable v)

abbrev Narrow : Value → Type 0
Narrow v = T (not (wide v))

-- ---- what is read can be spelled

narrow-each : (vs : List Value) → T (all_narrow vs) → Each Narrow vs
unfolding all_narrow
narrow-each [] t = tt
narrow-each (v ∷ vs) t = (and_l (not (wide v)) (all_narrow vs) t, narrow-each vs (and_r (not (wide v)) (all_narrow vs) t))

fair : (s : List ℕ) → Bytes s → All (Fair spell 5 Narrow Spellable s) (token s)
fair s h =
    all-weaken (Sound s) (Fair spell 5 Narrow Spellable s) (token s) (token-sound s h)
    (λ v n k. record { some = k.some; there = k.there; good = λ t. (k.typed, k.can t); short = k.short })

-- ---- what is spelled is bytes

body_bytes : (v : Value) → InType v → Bytes (body v)
unfolding body le_bytes spelled_channel spelled_alpha
body_bytes Open h = tt
body_bytes Close h = tt
body_bytes Equal h = tt
body_bytes (U32 n) h = bytes-bytes 4 n
body_bytes (U64 n) h = bytes-bytes 8 n
body_bytes (F32 n) h = bytes-bytes 4 n
body_bytes (F64 n) h = bytes-bytes 8 n
body_bytes (Lookup n) h = bytes-bytes 3 n
body_bytes (Id i) h = tt
body_bytes (I32 z) h = bytes-bytes 4 _
body_bytes (I64 z) h = bytes-bytes 8 _
body_bytes (Truth b) h = bytes-bytes 1 _
body_bytes (Quoted t) h = append-bytes (le_bytes 2 (length t)) t (bytes-bytes 2 (length t)) h
body_bytes (Unquoted t) h = append-bytes (le_bytes 2 (length t)) t (bytes-bytes 2 (length t)) h
body_bytes (Rgb r g b none) h = omega arith
body_bytes (Rgb r g b (some a)) h = omega arith

pub spelled-bytes : (vs : List Value) → Each Spellable vs → Bytes (spell_all spell vs)
unfolding spell_all spell
spelled-bytes [] e = tt
spelled-bytes (v ∷ vs) e =
    append-bytes (spell v) (spell_all spell vs) (append-bytes (le_bytes 2 (tag v)) (body v) (bytes-bytes 2 (tag v)) (body_bytes v e.0.0)) (spelled-bytes vs e.1)

-- ---- the four promises

pub clean-kept : {s : List ℕ} → Clean s → Each Spellable (tokens s) × (length (normal s) ≤ 5 * length s)
unfolding tokens walk normal
clean-kept {s} c = kept spell 5 Narrow Spellable fair (length s) 0 s (le_refl _) c.bytes c.ends (narrow-each (values (walk s)) c.narrow)

-- (a) it has at most five times the save's length
pub normal-length : {s : List ℕ} → Clean s → length (normal s) ≤ 5 * length s
normal-length c = (clean-kept c).1

-- (b) it reads to its end, to the same tokens
pub normal-reads : {s : List ℕ} → Clean s → (tokens (normal s) ≡ tokens s) × T (whole (walk (normal s)))
unfolding tokens walk normal
normal-reads {s} c = back spell Spellable (λ v e. reads-back v e.0 e.1) (tokens s) (clean-kept c).0 (length (normal s)) 0 (le_refl _)

-- (c) where it is no longer than the limit it is clean, and its own normal form
pub normal-clean : {s : List ℕ} → Clean s → length (normal s) ≤ LIMIT → Clean (normal s) × (normal (normal s) ≡ normal s)
unfolding normal
normal-clean {s} c h = (
  record { limit = h; bytes = spelled-bytes (tokens s) (clean-kept c).0; ends = (normal-reads c).1; narrow = rw (normal-reads c).0 c.narrow },
  ap (spell_all spell) (normal-reads c).0,
)

-- (d) two clean saves have one normal form exactly when they read to the same tokens
pub normal-same : {s t : List ℕ} → Clean s → Clean t → (normal s ≡ normal t) ↔ (tokens s ≡ tokens t)
unfolding normal
normal-same c d = ((λ e. sym (normal-reads c).0 ∙ ap tokens e ∙ (normal-reads d).0), ap (spell_all spell))
