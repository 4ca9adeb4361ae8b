-- What is answered of a key that is sought, from what the walk finds. Assumes nothing.
use Prim.Native.Nat.{ℕ, ◌≤◌, ◌<◌}
use native.Mathlib.Omega.{arith}
use mathlib.Core.Path.{◌≡◌, refl, ◌∙◌}
use mathlib.Core.Option.{Option, none, some}
use mathlib.Core.List.{List}
use lib.ListN.{length}
use Rattle.std.specs.Prelude.{Ok, Err, Some, None}
use Rattle.form.specs.Values.{Value}
use Rattle.form.specs.Refusals.{Refusal, refusal_at}
use Rattle.form.specs.Saves.{from}
use Rattle.form.specs.Calls.{Cursor, cursor_at, moved_to, position_of, gives, refuses}
use Rattle.form.specs.Finding.{cut_by, firstly, sought, staying, walk_at}
use Rattle.laws.proofs.Inside.{token-inside}
use Rattle.laws.proofs.Seeking.{head_position, sought-first}
use Rattle.laws.proofs.Refusing.{cut_inside}
use Rattle.laws.proofs.Offsets.{in_file, if_any, grown-at, sought-in-file}
use Rattle.payload.specs.Answers.{fault_of}
use Rattle.payload.specs.declared.answers.LexErrorAt.{LexErrorAt}
use Rattle.lexeme.specs.declared.LexemeId.{LexemeId}
use Rattle.keys.specs.declared.Key.{Key}
use Rattle.keys.specs.Seeking.{wants, wanted_from, NextKey}

module _ (i : LexemeId) (s : List ℕ) (c : Cursor) where
  -- by what the walk has of such keys, and what ended it
  found-by : {l : List (ℕ × Value)} {r : Option Refusal} → wanted_from (wants (Some i)) s c.at ≡ l → cut_by (from s c.at) ≡ r
      → staying c (sought i.0 (walk_at s c)) ≡ in_file c.offset (if_any c.offset) (staying (cursor_at c.at) (firstly (head_position l) r))
  unfolding wants
  found-by e f = sought-in-file i.0 s c.offset c.at ∙ rw (sought-first i.0 (from s c.at), e, f)

  pub tell-key : {k : Key} {q : ℕ} {d : Cursor} → NextKey (wants (Some i)) s c.at (Ok (Some k)) → d ≡ moved_to c k.at → q ≡ position_of d d.at → gives (some q) c ≡ staying c (sought i.0 (walk_at s c))
  unfolding staying firstly in_file if_any
  tell-key h m f = rw (found-by h.is.1.keys refl, f, m)

  pub tell-absent : NextKey (wants (Some i)) s c.at (Ok None) → gives none c ≡ staying c (sought i.0 (walk_at s c))
  unfolding staying firstly in_file if_any
  tell-absent h = rw (found-by h.is.0 h.is.1)

  pub tell-refused : {e : LexErrorAt} {d : Cursor} {x : Refusal} → NextKey (wants (Some i)) s c.at (Err e) → d ≡ moved_to c e.at → x ≡ refusal_at (position_of d d.at) (fault_of e.kind)
      → refuses x c ≡ staying c (sought i.0 (walk_at s c))
  unfolding staying firstly in_file
  tell-refused {e} h m q = rw (found-by h.is.0 h.is.1, q, m, grown-at c.offset e.at (fault_of e.kind))

  -- ---- both stand inside the input

  pub key-inside : {k : Key} → NextKey (wants (Some i)) s c.at (Ok (Some k)) → k.at ≤ length s
  key-inside {k} h =
      let l : k.at < length s = token-inside s k.at h.is.0 k.end h.is.1.token in
      omega arith

  pub refused-inside : {e : LexErrorAt} → c.at ≤ length s → NextKey (wants (Some i)) s c.at (Err e) → e.at ≤ length s
  refused-inside {e} l h = cut_inside s c.at e.at (fault_of e.kind) l h.is.1
