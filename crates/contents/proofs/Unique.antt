-- Any two results that a promise allows are equal, and so are the lists and the outputs. Assumes nothing.
use Prim.Native.Nat.{ℕ, ◌/◌}
use mathlib.Core.Path.{◌≡◌, refl, sym, ap, ◌∙◌}
use mathlib.Core.List.{List, [], ◌∷◌, map}
use lib.ListN.{length}
use Rattle.std.specs.Prelude.{Result, Ok, Err, Option, Some, None}
use Rattle.form.specs.Refusals.{refusal_number, refusal_value, refusal_values, refusal_at}
use Rattle.form.specs.Writing.{Outcome, wrote, declined, Follows}
use Rattle.form.specs.Contents as F
use Rattle.form.specs.Contents.{Filling, held, nowhere, unsearched, search, search_numbers, write_file, write_numbers, read_file}
use Rattle.laws.proofs.Unique.{same, by_number, eof_or_number, follows-one}
use Rattle.payload.specs.declared.answers.LexError.{LexError}
use Rattle.payload.specs.declared.answers.LexError.TheVariants.{Eof, InvalidRgb}
use Rattle.contents.specs.declared.Entry.{Entry}
use Rattle.contents.specs.declared.filling.FillError.{FillError}
use Rattle.contents.specs.declared.filling.FillError.TheVariants as L
use Rattle.contents.specs.declared.searching.BadIndex.{BadIndex}
use Rattle.contents.specs.declared.file.WriteError.{WriteError}
use Rattle.contents.specs.declared.file.WriteError.TheVariants as W
use Rattle.contents.specs.declared.file.ReadError.{ReadError}
use Rattle.contents.specs.declared.file.ReadError.TheVariants as O
use Rattle.contents.specs.Answers.{entry_of, filled_outcome, searched_answer, written_outcome, opened_outcome, Fills, FillsEntries}

-- promises of what a call that fills a list of numbers answers, and of the list that it leaves
fills_one : {A : Type 0} (answer : A → Outcome) (back : Outcome → A) → ((r : A) → back (answer r) ≡ r) → (x : Filling) (d : List ℕ)
    → {r r' : A} {d' d'' : List ℕ} → Fills x (answer r) d d' → Fills x (answer r') d d'' → (r ≡ r') × (d' ≡ d'')
fills_one answer back h x d {r} {r'} f g = (same answer back h r r' f.answer g.answer, f.list ∙ sym g.list)

abbrev refused_at : LexError → ℕ → Result ℕ FillError
refused_at e p = Err (L.Refused (record { at = p; kind = e }))

abbrev filled_back : Outcome → Result ℕ FillError
filled_back (wrote n) = Ok n
filled_back (declined r) =
    eof_or_number (λ p m. refused_at (Eof m) p) ((2, refused_at InvalidRgb) ∷ (10, λ n. Err (L.ListFull n)) ∷ []) (λ n. Err (L.TooLong n)) r

filled-back : (r : Result ℕ FillError) → filled_back (filled_outcome r) ≡ r
unfolding refusal_number refusal_value refusal_values refusal_at
filled-back (Ok n) = refl
filled-back (Err (L.Refused e)) = go e.at e.kind
  where
    go : (p : ℕ) (k : LexError) → filled_back (filled_outcome (refused_at k p)) ≡ refused_at k p
    go p (Eof m) = refl
    go p InvalidRgb = refl
filled-back (Err (L.ListFull n)) = refl
filled-back (Err (L.TooLong n)) = refl

pub fill_one : (s d : List ℕ) {r r' : Result ℕ FillError} {d' d'' : List ℕ}
    → Fills (F.fill (length d / 2) s) (filled_outcome r) d d' → Fills (F.fill (length d / 2) s) (filled_outcome r') d d'' → (r ≡ r') × (d' ≡ d'')
fill_one s d = fills_one filled_outcome filled_back filled-back (F.fill (length d / 2) s) d

abbrev searched_back : F.Search → Result (Option ℕ) BadIndex
searched_back (held i) = Ok (Some i)
searched_back nowhere = Ok None
searched_back (unsearched r) = Err (record {})

searched-back : (r : Result (Option ℕ) BadIndex) → searched_back (searched_answer r) ≡ r
searched-back (Ok (Some i)) = refl
searched-back (Ok None) = refl
searched-back (Err e) = refl

pub search-one : (ns : List ℕ) (p : ℕ) (r r' : Result (Option ℕ) BadIndex)
    → searched_answer r ≡ search_numbers ns p → searched_answer r' ≡ search_numbers ns p → r ≡ r'
search-one ns p = same searched_answer searched_back searched-back

-- BadIndex has no number
abbrev written_back : Outcome → Result ℕ WriteError
written_back (wrote n) = Ok n
written_back (declined r) = by_number ((4, λ n. Err (W.NoRoom n)) ∷ (8, λ n. Err (W.TooLong n)) ∷ []) (λ _. Err W.BadIndex) r

written_back_lem : (r : Result ℕ WriteError) → written_back (written_outcome r) ≡ r
unfolding refusal_number refusal_value refusal_values
written_back_lem (Ok n) = refl
written_back_lem (Err W.BadIndex) = refl
written_back_lem (Err (W.TooLong n)) = refl
written_back_lem (Err (W.NoRoom n)) = refl

pub write-one : (ns d : List ℕ) {r r' : Result ℕ WriteError} {d' d'' : List ℕ}
    → Follows (write_numbers (length d) ns) (written_outcome r) d d' → Follows (write_numbers (length d) ns) (written_outcome r') d d'' → (r ≡ r') × (d' ≡ d'')
write-one ns d = follows-one written_outcome written_back written_back_lem (write_numbers (length d) ns) d

abbrev opened_back : Outcome → Result ℕ ReadError
opened_back (wrote n) = Ok n
opened_back (declined r) = by_number ((10, λ n. Err (O.ListFull n)) ∷ []) (λ _. Err O.BadIndex) r

opened-back : (r : Result ℕ ReadError) → opened_back (opened_outcome r) ≡ r
unfolding refusal_number refusal_value refusal_values
opened-back (Ok n) = refl
opened-back (Err O.BadIndex) = refl
opened-back (Err (O.ListFull n)) = refl

pub read_one : (file d : List ℕ) {r r' : Result ℕ ReadError} {d' d'' : List ℕ}
    → Fills (read_file (length d / 2) file) (opened_outcome r) d d' → Fills (read_file (length d / 2) file) (opened_outcome r') d d'' → (r ≡ r') × (d' ≡ d'')
read_one file d = fills_one opened_outcome opened_back opened-back (read_file (length d / 2) file) d

-- ---- the same of lists of records

abbrev entry_back : F.Entry → Entry
entry_back x = record { start = x.start; end = x.end }

records-back : (l : List Entry) → map entry_back (map entry_of l) ≡ l
records-back [] = refl
records-back (e ∷ l) = ap (λ r. e ∷ r) (records-back l)

entries-one : {A : Type 0} (answer : A → Outcome) (back : Outcome → A) → ((r : A) → back (answer r) ≡ r) → (x : Filling) (d : List Entry)
    → {r r' : A} {d' d'' : List Entry} → FillsEntries x (answer r) d d' → FillsEntries x (answer r') d d'' → (r ≡ r') × (d' ≡ d'')
entries-one answer back h x d {r} {r'} {d'} {d''} f g =
    (same answer back h r r' f.answer g.answer, same (map entry_of) (map entry_back) records-back d' d'' f.list g.list)

pub fill-entries-one : (s : List ℕ) (d : List Entry) {r r' : Result ℕ FillError} {d' d'' : List Entry}
    → FillsEntries (F.fill (length d) s) (filled_outcome r) d d' → FillsEntries (F.fill (length d) s) (filled_outcome r') d d'' → (r ≡ r') × (d' ≡ d'')
fill-entries-one s d = entries-one filled_outcome filled_back filled-back (F.fill (length d) s) d

pub read-entries-one : (file : List ℕ) (d : List Entry) {r r' : Result ℕ ReadError} {d' d'' : List Entry}
    → FillsEntries (read_file (length d) file) (opened_outcome r) d d' → FillsEntries (read_file (length d) file) (opened_outcome r') d d'' → (r ≡ r') × (d' ≡ d'')
read-entries-one file d = entries-one opened_outcome opened_back opened-back (read_file (length d) file) d

pub search-entries-one : (l : List F.Entry) (p : ℕ) (r r' : Result (Option ℕ) BadIndex) → searched_answer r ≡ search l p → searched_answer r' ≡ search l p → r ≡ r'
search-entries-one l p = same searched_answer searched_back searched-back

pub write-entries-one : (l : List F.Entry) (d : List ℕ) {r r' : Result ℕ WriteError} {d' d'' : List ℕ}
    → Follows (write_file (length d) l) (written_outcome r) d d' → Follows (write_file (length d) l) (written_outcome r') d d'' → (r ≡ r') × (d' ≡ d'')
write-entries-one l d = follows-one written_outcome written_back written_back_lem (write_file (length d) l) d
