-- Variables and expressions (ISO 7185, 6.5 and 6.7).
use Rattle.std.specs.Prelude.{ℕ, zero, suc, List, [], ◌∷◌, Option, Some, None}
use Rattle.mp_ast.specs.declared.tokens.TokenKind.TheVariants.{Word, Symbol}
use Rattle.mp_ast.specs.declared.words.WordSymbol.TheVariants as w
use Rattle.mp_ast.specs.declared.symbols.Symbol.TheVariants as s
use Rattle.mp_ast.specs.declared.leaves.Sign.{Sign}
use Rattle.mp_ast.specs.declared.expressions.Operator.{Operator}
use Rattle.mp_ast.specs.declared.expressions.Operator.TheVariants as op
use Rattle.mp_ast.specs.declared.expressions.Selector.{Selector}
use Rattle.mp_ast.specs.declared.expressions.Selector.TheVariants as selector
use Rattle.mp_ast.specs.declared.expressions.Access.{Access}
use Rattle.mp_ast.specs.declared.expressions.Actual.{Actual}
use Rattle.mp_ast.specs.declared.expressions.Width.{Width}
use Rattle.mp_ast.specs.declared.expressions.Member.{Member}
use Rattle.mp_ast.specs.declared.expressions.Operation.{Operation}
use Rattle.mp_ast.specs.declared.expressions.Expr.{Expr}
use Rattle.mp_ast.specs.declared.expressions.Expr.TheVariants as e
use Rattle.mp_ast.specs.Rules.{Rule, ◌>>=◌, ◌>>◌, ◌<$>◌, ◌<|>◌, gives, none, optional, many, many_lists, separated, word}
use Rattle.mp_ast.specs.Rules.{symbol, opener}
use Rattle.mp_ast.specs.LeafGrammar.{identifier, number, character_string, sign}

-- ---- operators

abbrev pub written : Operator → ℕ → Rule (ℕ × Operator)
written o at = gives (at, o)

-- "=" | "<>" | "<" | "<=" | ">" | ">=" | "in"
abbrev pub relational_operator : Rule (ℕ × Operator)
relational_operator =
    symbol s.Equal >>= written op.Equal
    <|> symbol s.NotEqual >>= written op.NotEqual
    <|> symbol s.Less >>= written op.Less
    <|> symbol s.LessEqual >>= written op.LessOrEqual
    <|> symbol s.Greater >>= written op.Greater
    <|> symbol s.GreaterEqual >>= written op.GreaterOrEqual
    <|> word w.In >>= written op.In

-- "+" | "-" | "or"
abbrev pub adding_operator : Rule (ℕ × Operator)
adding_operator = symbol s.Plus >>= written op.Add <|> symbol s.Minus >>= written op.Subtract <|> word w.Or >>= written op.Or

-- "*" | "div" | "mod" | "and"
abbrev pub multiplying_operator : Rule (ℕ × Operator)
multiplying_operator =
    symbol s.Star >>= written op.Multiply <|> word w.Div >>= written op.Div <|> word w.Mod >>= written op.Mod <|> word w.And >>= written op.And

abbrev pub operation : Rule (ℕ × Operator) → Rule Expr → Rule (Operation Expr)
operation operator operand = do
  o ← operator
  x ← operand
  gives (record { at = o.0; operator = o.1; operand = x })

-- ---- what has no operator makes no node

abbrev pub product : Expr → List (Operation Expr) → Expr
product first [] = first
product first (x ∷ more) = e.Product first (x ∷ more)

abbrev pub sum : Option Sign → Expr → List (Operation Expr) → Expr
sum None first [] = first
sum (Some s) first more = e.Sum (Some s) first more
sum None first (x ∷ more) = e.Sum None first (x ∷ more)

abbrev pub relation : Expr → Option (Operation Expr) → Expr
relation left None = left
relation left (Some o) = e.Relation left o

-- ---- what stands behind one more opener
pub record Deeper : Type 1 where
  pub expression : Rule Expr
  pub factor : Rule Expr

-- In these productions `room` more openers may stand open, and `behind` is what stands behind one more.
module _ (room : ℕ) (behind : Deeper) where
  -- "[" expr {"," expr} "]"
  abbrev pub further_index : Rule (Selector Expr)
  further_index = do
    at ← symbol s.Comma
    selector.Index at <$> behind.expression

  abbrev pub index_list : Rule (List (Selector Expr))
  index_list = do
    at ← opener room (Symbol s.LeftBracket)
    first ← behind.expression
    more ← many further_index
    symbol s.RightBracket
    gives (selector.Index at first ∷ more)

  -- "." id
  abbrev pub field_selection : Rule (List (Selector Expr))
  field_selection = do
    at ← symbol s.Dot
    name ← identifier
    gives (selector.Field at name ∷ [])

  -- "^"
  abbrev pub pointer_selection : Rule (List (Selector Expr))
  pointer_selection = do
    at ← symbol s.Caret
    gives (selector.Follow at ∷ [])

  -- access = id {"[" expr {"," expr} "]" | "." id | "^"}
  abbrev pub access_with : Rule (Access Expr)
  access_with = do
    name ← identifier
    selectors ← many_lists (index_list <|> field_selection <|> pointer_selection)
    gives (record { name = name; selectors = selectors })

  -- actual = expr [":" expr]
  abbrev pub width : Rule (Width Expr)
  width = do
    at ← symbol s.Colon
    value ← behind.expression
    gives (record { at = at; value = value })

  abbrev pub actual : Rule (Actual Expr)
  actual = do
    value ← behind.expression
    width ← optional width
    gives (record { value = value; width = width })

  -- actuals = "(" actual {"," actual} ")"
  abbrev pub actuals_with : Rule (List (Actual Expr))
  actuals_with = do
    opener room (Symbol s.LeftParen)
    found ← separated (symbol s.Comma) actual
    symbol s.RightParen
    gives found

  -- member = expr [".." expr]
  abbrev pub member : Rule (Member Expr)
  member = do
    first ← behind.expression
    last ← optional (symbol s.DotDot >> behind.expression)
    gives (record { first = first; last = last })

  -- "[" [member {"," member}] "]"
  abbrev pub set_constructor : Rule Expr
  set_constructor = do
    at ← opener room (Symbol s.LeftBracket)
    members ← separated (symbol s.Comma) member <|> gives []
    symbol s.RightBracket
    gives (e.Set at members)

  -- id actuals
  abbrev pub function_call : Rule Expr
  function_call = do
    name ← identifier
    e.Call name <$> actuals_with

  -- "(" expr ")"
  abbrev pub parenthesized : Rule Expr
  parenthesized = do
    at ← opener room (Symbol s.LeftParen)
    x ← behind.expression
    symbol s.RightParen
    gives (e.Inside at x)

  -- "not" factor
  abbrev pub negation : Rule Expr
  negation = do
    at ← opener room (Word w.Not)
    e.Not at <$> behind.factor

  -- factor = number | string | "nil" | access | id actuals | "(" expr ")" | "not" factor | "[" [member {"," member}] "]"
  abbrev pub factor_with : Rule Expr
  factor_with =
      e.Number <$> number
      <|> e.Text <$> character_string
      <|> e.Nil <$> word w.Nil
      <|> e.Access <$> access_with
      <|> function_call
      <|> parenthesized
      <|> negation
      <|> set_constructor

  -- term = factor {("*" | "div" | "mod" | "and") factor}
  abbrev pub term : Rule Expr
  term = do
    first ← factor_with
    more ← many (operation multiplying_operator factor_with)
    gives (product first more)

  -- sum = [sign] term {("+" | "-" | "or") term}
  abbrev pub simple_expression : Rule Expr
  simple_expression = do
    sign ← optional sign
    first ← term
    more ← many (operation adding_operator term)
    gives (sum sign first more)

  -- expr = sum [("=" | "<>" | "<" | "<=" | ">" | ">=" | "in") sum]
  abbrev pub expression_with : Rule Expr
  expression_with = do
    left ← simple_expression
    right ← optional (operation relational_operator simple_expression)
    gives (relation left right)

unfoldable pub behind : ℕ → Deeper
behind zero = record { expression = none; factor = none }
behind (suc room) = record { expression = expression_with room (behind room); factor = factor_with room (behind room) }

-- ---- the rules, where so many more openers may stand open

abbrev pub expression : ℕ → Rule Expr
expression room = expression_with room (behind room)

abbrev pub access : ℕ → Rule (Access Expr)
access room = access_with room (behind room)

abbrev pub actuals : ℕ → Rule (List (Actual Expr))
actuals room = actuals_with room (behind room)
