-- Identifiers, numbers, strings, signs and constants (ISO 7185, 6.1 and 6.3).
use Rattle.mp_ast.specs.declared.tokens.TokenKind.TheVariants.{Id, Number, Text}
use Rattle.mp_ast.specs.declared.symbols.Symbol.TheVariants.{Plus, Minus}
use Rattle.mp_ast.specs.declared.leaves.Identifier.{Identifier}
use Rattle.mp_ast.specs.declared.leaves.Number.{Number as NumberLeaf}
use Rattle.mp_ast.specs.declared.leaves.CharacterString.{CharacterString}
use Rattle.mp_ast.specs.declared.leaves.SignKind.TheVariants as sign_kind
use Rattle.mp_ast.specs.declared.leaves.Sign.{Sign}
use Rattle.mp_ast.specs.declared.leaves.Constant.{Constant}
use Rattle.mp_ast.specs.declared.leaves.Constant.TheVariants as c
use Rattle.mp_ast.specs.Rules.{Rule, ◌>>=◌, ◌<$>◌, ◌<|>◌, gives, optional, token, symbol}

-- id
abbrev pub identifier : Rule Identifier
identifier = λ i x j. token (Id x.name) i x.at j

-- number
abbrev pub number : Rule NumberLeaf
number = λ i x j. token (Number x.value) i x.at j

-- string
abbrev pub character_string : Rule CharacterString
character_string = λ i x j. token (Text x.characters) i x.at j

abbrev pub plus : Rule Sign
plus = do
  at ← symbol Plus
  gives (record { at = at; kind = sign_kind.Plus })

abbrev pub minus : Rule Sign
minus = do
  at ← symbol Minus
  gives (record { at = at; kind = sign_kind.Minus })

-- sign = "+" | "-"
abbrev pub sign : Rule Sign
sign = plus <|> minus

-- constant = [sign] (number | id) | string
abbrev pub signed_constant : Rule Constant
signed_constant = do
  s ← optional sign
  c.Number s <$> number <|> c.Name s <$> identifier

abbrev pub constant : Rule Constant
constant = signed_constant <|> c.Text <$> character_string
