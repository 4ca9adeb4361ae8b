-- A kind is told by its number. Assumes nothing.
use Prim.Native.Nat.{ℕ}
use mathlib.Core.Path.{◌≡◌, refl}
use mathlib.Core.List.{List, [], ◌∷◌}
use lib.ListN.{get_or}
use Rattle.laws.proofs.Unique.{same}
use Rattle.lexeme.specs.Kinds.{kind_number}
use Rattle.lexeme.specs.declared.TokenKind.{TokenKind}
use Rattle.lexeme.specs.declared.TokenKind.TheVariants.{Open, Close, Equal, U32, U64, I32, Bool, Quoted, Unquoted, F32, F64, Rgb, I64, Lookup, Id}

abbrev kinds : List TokenKind
kinds = Open ∷ Close ∷ Equal ∷ U32 ∷ U64 ∷ I32 ∷ Bool ∷ Quoted ∷ Unquoted ∷ F32 ∷ F64 ∷ Rgb ∷ I64 ∷ Lookup ∷ Id ∷ []

pub kind_of_number : ℕ → TokenKind
kind_of_number n = get_or kinds n Id

pub kind-back : (k : TokenKind) → kind_of_number (kind_number k) ≡ k
unfolding kind_of_number
kind-back Open = refl
kind-back Close = refl
kind-back Equal = refl
kind-back U32 = refl
kind-back U64 = refl
kind-back I32 = refl
kind-back Bool = refl
kind-back Quoted = refl
kind-back Unquoted = refl
kind-back F32 = refl
kind-back F64 = refl
kind-back Rgb = refl
kind-back I64 = refl
kind-back Lookup = refl
kind-back Id = refl

pub kind-one : {n : ℕ} (k k' : TokenKind) → kind_number k ≡ n → kind_number k' ≡ n → k ≡ k'
kind-one = same kind_number kind_of_number kind-back
