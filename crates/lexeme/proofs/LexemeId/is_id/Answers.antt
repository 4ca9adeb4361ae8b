-- `lexeme::LexemeId::is_id` meets its contract. Assumes nothing.
use mathlib.Core.Path.{◌≡◌, refl, ap, ◌∙◌}
use denote.Enum.Bare.{sameb}
use Rattle.lexeme.proofs.PlainKinds.{is_id, id-plain}
use Rattle.lexeme.specs.Kinds.{kind_number}
use Rattle.lexeme.specs.contracts.TokenKind as Kind
use Rattle.lexeme.specs.declared.TokenKind.{TokenKind}
use Rattle.lexeme.specs.declared.TokenKind.TheVariants.{Open, Close, Equal, U32, U64, I32, Bool as BoolKind, Quoted, Unquoted, F32, F64, Rgb, I64, Lookup, Id}
use Rattle.lexeme.proofs.LexemeId.is_id.Goals as goal

-- a kind is Id where its number says so
told : (k : TokenKind) → sameb Kind.the_type k Id ≡ is_id (kind_number k)
told Open = refl
told Close = refl
told Equal = refl
told U32 = refl
told U64 = refl
told I32 = refl
told BoolKind = refl
told Quoted = refl
told Unquoted = refl
told F32 = refl
told F64 = refl
told Rgb = refl
told I64 = refl
told Lookup = refl
told Id = refl

pub returns : goal.returns
returns c = c.eq.ensures ∙ told c.into_kind.result ∙ ap is_id c.into_kind.ensures ∙ id-plain _
