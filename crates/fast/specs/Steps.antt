-- What the answers of the fast step stand for.
use Rattle.std.specs.Prelude.{ℕ, ◌+◌, Bool, List, ◌++◌, length, take, drop, leb, Option, Some, None}
use Rattle.form.specs.Numbers.{pick, le, le_bytes}
use Rattle.form.specs.Fast as F
use Rattle.lexeme.specs.Kinds.{kind_number}
use Rattle.lexeme.specs.declared.TokenKind.{TokenKind}
use Rattle.lexeme.specs.declared.TokenKind.TheVariants.{F64, Id}
use Rattle.payload.specs.Compact.{signed_by}
use Rattle.fast.specs.declared.FastToken.{FastToken}

abbrev pub step_of : Option (TokenKind × ℕ) → F.Step
step_of (Some x) = F.fast (kind_number x.0) x.1
step_of None = F.slow

abbrev pub stepped : FastToken → F.Stepped
stepped r = record { step = step_of r.step; held = r.held }

-- ---- what the code's functions answer

abbrev pub slowly : List ℕ → FastToken
slowly held = record { step = None; held = held }

abbrev pub alone_of : TokenKind → List ℕ → FastToken
alone_of k held = record { step = Some (k, 2); held = held }

abbrev pub named_of : List ℕ → List ℕ → FastToken
named_of s held = alone_of Id (take 2 s ++ drop 2 held)

abbrev pub copied : TokenKind → ℕ → List ℕ → List ℕ → FastToken
copied k w s held = record { step = Some (k, 2 + w); held = take w (drop 2 s) ++ drop w held }

abbrev pub compactly : ℕ → Bool → List ℕ → FastToken
compactly w negative s = record { step = Some (F64, 2 + w); held = le_bytes 8 (signed_by negative (le (take w (drop 2 s)))) }

abbrev pub texted_by : TokenKind → ℕ → List ℕ → List ℕ → FastToken
texted_by k n s held =
    pick (leb (4 + n) (length s)) (record { step = Some (k, 4 + n); held = take 2 (drop 2 s) ++ drop 2 held }) (slowly held)

abbrev pub texted : TokenKind → List ℕ → List ℕ → FastToken
texted k s held = texted_by k (le (take 2 (drop 2 s))) s held
