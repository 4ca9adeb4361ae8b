-- What the loop has read, and what is still to be written. Assumes nothing.
use Prim.Native.Nat.{ℕ, ◌-◌, ◌≤◌}
use mathlib.Core.Path.{◌≡◌, ap, ◌∙◌}
use mathlib.Core.List.{List, ◌++◌}
use lib.ListN.{length}
use Rattle.form.specs.Refusals.{Refusal}
use Rattle.form.specs.Readers.{found}
use Rattle.form.specs.Saves.{cut, walk, from}
use Rattle.form.specs.Listing.{token_line, end_line, error_line, lines_of, listing}
use Rattle.form.specs.Keys.{Counts}
use Rattle.laws.proofs.Walking.{from_start, from_end}
use Rattle.token.specs.Tokens.{value_of, token_at}
use Rattle.token.specs.declared.Token.{Token}
use Rattle.token.proofs.Walks.{Read, token-read, token-is}
use Rattle.listing.specs.declared.tally.Tally.{Tally}
use Rattle.listing.specs.Tallies.{none_yet, TalliesTo, counted}
use Rattle.listing.specs.Words.{line_of}
use Rattle.listing.proofs.Counting.{total, total-step, total-none, total-done}
use Rattle.listing.proofs.Lines.{line-is}

-- the text that is still to be written at a place, with the tally up to it
pub rest : List ℕ → ℕ → Tally → List ℕ
rest s p c = lines_of (end_line (length s) (total c (from s p))) (from s p)

pub rest_all : (s : List ℕ) → listing s ≡ rest s 0 none_yet
unfolding rest listing
rest_all s = rw (from_start s, total-none (walk s))

pub rest_end : (s : List ℕ) (p : ℕ) (c : Tally) → length s ≤ p → rest s p c ≡ end_line (length s) (counted c)
unfolding rest lines_of
rest_end s p c h = rw (from_end s p h) (ap (end_line (length s)) (total-done c))

-- where a token was read it is its line and then the rest
pub rest-token : (s : List ℕ) (p : ℕ) {t : Token} {n : ℕ} (c : Tally) {c' : Tally} → token_at s p ≡ found t n → TalliesTo c t c'
    → rest s p c ≡ line_of s p t ++ rest s n c'
unfolding rest lines_of
rest-token s p {t} {n} c {c'} e a =
    let v = value_of s t in
    let r : Read s p v n = token-read s p e in
    let l : line_of s p t ≡ token_line p v = ap (λ (x : Token). line_of s p x) (token-is s p e) ∙ line-is s p n v r.ends r.there in
    rw (r.walks, l, a s) (ap (λ (x : Counts). token_line p v ++ lines_of (end_line (length s) x) (from s n)) (total-step c p (n - p) v (from s n)))

-- and where it was refused the line of that
pub rest-refused : (s : List ℕ) (p : ℕ) (c : Tally) {r : Refusal} → from s p ≡ cut r → rest s p c ≡ error_line r
unfolding rest lines_of
rest-refused s p c e = rw e
