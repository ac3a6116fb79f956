-- Parsers of variables and expressions, which no statement outside names: `laws` says by the grammar what they read.
use Rattle.std.specs.Prelude.{ℕ, zero, suc, List, [], ◌∷◌, Option}
use Rattle.mp_ast.specs.declared.words.WordSymbol.TheVariants as w
use Rattle.mp_ast.specs.declared.symbols.Symbol.TheVariants as s
use Rattle.mp_ast.specs.declared.leaves.Identifier.{Identifier}
use Rattle.mp_ast.specs.declared.expressions.Operator.{Operator}
use Rattle.mp_ast.specs.declared.expressions.Selector.{Selector}
use Rattle.mp_ast.specs.declared.expressions.Selector.TheVariants as selector
use Rattle.mp_ast.specs.declared.expressions.Access.{Access}
use Rattle.mp_ast.specs.declared.expressions.Actual.{Actual}
use Rattle.mp_ast.specs.declared.expressions.Width.{Width}
use Rattle.mp_ast.specs.declared.expressions.Member.{Member}
use Rattle.mp_ast.specs.declared.expressions.Operation.{Operation}
use Rattle.mp_ast.specs.declared.expressions.Expr.{Expr}
use Rattle.mp_ast.specs.declared.expressions.Expr.TheVariants as e
use Rattle.mp_ast.specs.ExpressionGrammar.{product, sum, relation}
use Rattle.mp_cursor.specs.declared.next.Next.TheVariants as next
use Rattle.mp_cursor.specs.declared.next.Next.TheVariants.{Word, Symbol}
use Rattle.mp_cursor.specs.Nexts.{Nexts, is, among}
use Rattle.mp_cursor.specs.Parsers.{Parser, ◌>>=◌, ◌>>◌, ◌<$>◌, pure, refuse, branch, expect, opening, identifier, number, character_string, repeated, and_one, and_all, optional}
use Rattle.mp_cursor.specs.Leaves.{optional_sign}
use Rattle.mp_parse_expr.specs.Operators.{relational, relational_operator, adding, adding_operator, multiplying, multiplying_operator}

-- what stands behind one more opener
pub record Deeper : Type 0 where
  pub expression : Parser Expr
  pub factor : Parser Expr

-- the tokens that a selector begins with
abbrev pub selecting : Nexts
selecting = among (Symbol s.LeftBracket ∷ Symbol s.Dot ∷ Symbol s.Caret ∷ [])

abbrev pub operation : Parser (ℕ × Operator) → Parser Expr → Parser (Operation Expr)
operation operator operand = do
  o ← operator
  x ← operand
  pure (record { at = o.0; operator = o.1; operand = x })

unfoldable pub field_selection : Parser (List (Selector Expr))
field_selection = do
  at ← expect (Symbol s.Dot)
  name ← identifier
  pure (selector.Field at name ∷ [])

unfoldable pub pointer_selection : Parser (List (Selector Expr))
pointer_selection = do
  at ← expect (Symbol s.Caret)
  pure (selector.Follow at ∷ [])

module _ (room : ℕ) (behind : Deeper) where
  -- ---- selectors

  unfoldable pub further_index : List (Selector Expr) → Parser (List (Selector Expr))
  further_index = and_one (expect (Symbol s.Comma) >>= (λ at. selector.Index at <$> behind.expression))

  abbrev pub further_indices : List (Selector Expr) → Parser (List (Selector Expr))
  further_indices = repeated (is (Symbol s.Comma)) further_index

  unfoldable pub index_list : Parser (List (Selector Expr))
  index_list = do
    at ← opening room (Symbol s.LeftBracket)
    first ← behind.expression
    all ← further_indices (selector.Index at first ∷ [])
    expect (Symbol s.RightBracket)
    pure all

  abbrev pub selection : Parser (List (Selector Expr))
  selection = branch (is (Symbol s.LeftBracket)) index_list (branch (is (Symbol s.Dot)) field_selection pointer_selection)

  unfoldable pub further_selection : List (Selector Expr) → Parser (List (Selector Expr))
  further_selection = and_all selection

  abbrev pub selections : Parser (List (Selector Expr))
  selections = repeated selecting further_selection []

  -- a variable, behind its name
  unfoldable pub access_behind_with : Identifier → Parser (Access Expr)
  access_behind_with name = do
    selectors ← selections
    pure (record { name = name; selectors = selectors })

  -- ---- actual parameters

  unfoldable pub width : Parser (Width Expr)
  width = do
    at ← expect (Symbol s.Colon)
    value ← behind.expression
    pure (record { at = at; value = value })

  abbrev pub optional_width : Parser (Option (Width Expr))
  optional_width = optional (is (Symbol s.Colon)) width

  unfoldable pub actual : Parser (Actual Expr)
  actual = do
    value ← behind.expression
    width ← optional_width
    pure (record { value = value; width = width })

  unfoldable pub further_actual : List (Actual Expr) → Parser (List (Actual Expr))
  further_actual = and_one (expect (Symbol s.Comma) >> actual)

  abbrev pub further_actuals : List (Actual Expr) → Parser (List (Actual Expr))
  further_actuals = repeated (is (Symbol s.Comma)) further_actual

  unfoldable pub actuals_with : Parser (List (Actual Expr))
  actuals_with = do
    opening room (Symbol s.LeftParen)
    first ← actual
    found ← further_actuals (first ∷ [])
    expect (Symbol s.RightParen)
    pure found

  -- ---- factors

  unfoldable pub last_member : Parser (Option Expr)
  last_member = optional (is (Symbol s.DotDot)) (expect (Symbol s.DotDot) >> behind.expression)

  unfoldable pub member : Parser (Member Expr)
  member = do
    first ← behind.expression
    last ← last_member
    pure (record { first = first; last = last })

  unfoldable pub further_member : List (Member Expr) → Parser (List (Member Expr))
  further_member = and_one (expect (Symbol s.Comma) >> member)

  abbrev pub further_members : List (Member Expr) → Parser (List (Member Expr))
  further_members = repeated (is (Symbol s.Comma)) further_member

  unfoldable pub some_members : Parser (List (Member Expr))
  some_members = do
    first ← member
    further_members (first ∷ [])

  abbrev pub members : Parser (List (Member Expr))
  members = branch (is (Symbol s.RightBracket)) (pure []) some_members

  unfoldable pub set_constructor : Parser Expr
  set_constructor = do
    at ← opening room (Symbol s.LeftBracket)
    found ← members
    expect (Symbol s.RightBracket)
    pure (e.Set at found)

  unfoldable pub parenthesized : Parser Expr
  parenthesized = do
    at ← opening room (Symbol s.LeftParen)
    x ← behind.expression
    expect (Symbol s.RightParen)
    pure (e.Inside at x)

  unfoldable pub negation : Parser Expr
  negation = do
    at ← opening room (Word w.Not)
    x ← behind.factor
    pure (e.Not at x)

  -- a call, or a variable or constant
  unfoldable pub named : Parser Expr
  named = do
    name ← identifier
    branch (is (Symbol s.LeftParen)) (e.Call name <$> actuals_with) (e.Access <$> access_behind_with name)

  unfoldable pub factor_with : Parser Expr
  factor_with =
      branch (is next.Number) (e.Number <$> number)
      (branch (is next.Text) (e.Text <$> character_string)
      (branch (is (Word w.Nil)) (e.Nil <$> expect (Word w.Nil))
      (branch (is next.Identifier) named
      (branch (is (Symbol s.LeftParen)) parenthesized (branch (is (Word w.Not)) negation set_constructor)))))

  -- ---- expressions

  unfoldable pub further_factor : List (Operation Expr) → Parser (List (Operation Expr))
  further_factor = and_one (operation multiplying_operator factor_with)

  abbrev pub further_factors : Parser (List (Operation Expr))
  further_factors = repeated multiplying further_factor []

  unfoldable pub term : Parser Expr
  term = do
    first ← factor_with
    more ← further_factors
    pure (product first more)

  unfoldable pub further_term : List (Operation Expr) → Parser (List (Operation Expr))
  further_term = and_one (operation adding_operator term)

  abbrev pub further_terms : Parser (List (Operation Expr))
  further_terms = repeated adding further_term []

  unfoldable pub simple_expression : Parser Expr
  simple_expression = do
    sign ← optional_sign
    first ← term
    more ← further_terms
    pure (sum sign first more)

  unfoldable pub related : Parser (Operation Expr)
  related = operation relational_operator simple_expression

  unfoldable pub expression_with : Parser Expr
  expression_with = do
    left ← simple_expression
    right ← optional relational related
    pure (relation left right)

unfoldable pub behind : ℕ → Deeper
behind zero = record { expression = refuse; factor = refuse }
behind (suc room) = record { expression = expression_with room (behind room); factor = factor_with room (behind room) }

-- ---- the parsers, where so many more openers may stand open

abbrev pub expression : ℕ → Parser Expr
expression room = expression_with room (behind room)

abbrev pub factor : ℕ → Parser Expr
factor room = factor_with room (behind room)

abbrev pub access_behind : ℕ → Identifier → Parser (Access Expr)
access_behind room name = access_behind_with room (behind room) name

unfoldable pub access : ℕ → Parser (Access Expr)
access room = identifier >>= access_behind room

abbrev pub actuals : ℕ → Parser (List (Actual Expr))
actuals room = actuals_with room (behind room)
