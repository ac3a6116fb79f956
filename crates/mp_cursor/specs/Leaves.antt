-- Parsers of names, signs and constants, which no statement outside names: `laws` says by the grammar what they read.
use Rattle.std.specs.Prelude.{Option, List, [], ◌∷◌}
use Rattle.mp_ast.specs.declared.symbols.Symbol.TheVariants as s
use Rattle.mp_ast.specs.declared.leaves.Identifier.{Identifier}
use Rattle.mp_ast.specs.declared.leaves.SignKind.TheVariants as sign_kind
use Rattle.mp_ast.specs.declared.leaves.Sign.{Sign}
use Rattle.mp_ast.specs.declared.leaves.Constant.{Constant}
use Rattle.mp_ast.specs.declared.leaves.Constant.TheVariants as c
use Rattle.mp_cursor.specs.declared.next.Next.TheVariants as next
use Rattle.mp_cursor.specs.Nexts.{Nexts, is, among}
use Rattle.mp_cursor.specs.Parsers.{Parser, ◌>>=◌, ◌<$>◌, pure, branch, optional, expect, identifier, number, character_string, separated}

-- names with commas between them
abbrev pub identifiers : Parser (List Identifier)
identifiers = separated (next.Symbol s.Comma) identifier

abbrev pub plus : Parser Sign
plus = do
  at ← expect (next.Symbol s.Plus)
  pure (record { at = at; kind = sign_kind.Plus })

abbrev pub minus : Parser Sign
minus = do
  at ← expect (next.Symbol s.Minus)
  pure (record { at = at; kind = sign_kind.Minus })

unfoldable pub sign : Parser Sign
sign = branch (is (next.Symbol s.Plus)) plus minus

abbrev pub signs : Nexts
signs = among (next.Symbol s.Plus ∷ next.Symbol s.Minus ∷ [])

unfoldable pub optional_sign : Parser (Option Sign)
optional_sign = optional signs sign

abbrev pub signed : Option Sign → Parser Constant
signed s = branch (is next.Number) (c.Number s <$> number) (c.Name s <$> identifier)

unfoldable pub signed_constant : Parser Constant
signed_constant = optional_sign >>= signed

unfoldable pub constant : Parser Constant
constant = branch (is next.Text) (c.Text <$> character_string) signed_constant

-- constants with commas between them
abbrev pub constants : Parser (List Constant)
constants = separated (next.Symbol s.Comma) constant
