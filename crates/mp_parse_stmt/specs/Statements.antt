-- Parsers of statements, which no statement outside names: `laws` says by the grammar what they read.
use Rattle.std.specs.Prelude.{ℕ, zero, suc, List, [], ◌∷◌, Option}
use Rattle.mp_ast.specs.declared.words.WordSymbol.TheVariants as w
use Rattle.mp_ast.specs.declared.symbols.Symbol.TheVariants as s
use Rattle.mp_ast.specs.declared.leaves.Identifier.{Identifier}
use Rattle.mp_ast.specs.declared.expressions.Access.{Access}
use Rattle.mp_ast.specs.declared.expressions.Actual.{Actual}
use Rattle.mp_ast.specs.declared.expressions.Expr.{Expr}
use Rattle.mp_ast.specs.declared.statements.Direction.{Direction}
use Rattle.mp_ast.specs.declared.statements.Direction.TheVariants.{To, Downto}
use Rattle.mp_ast.specs.declared.statements.ForHead.{ForHead}
use Rattle.mp_ast.specs.declared.statements.Arm.{Arm}
use Rattle.mp_ast.specs.declared.statements.Statement.{Statement}
use Rattle.mp_ast.specs.declared.statements.Statement.TheVariants as t
use Rattle.mp_cursor.specs.declared.next.Next.TheVariants as next
use Rattle.mp_cursor.specs.declared.next.Next.TheVariants.{Word, Symbol}
use Rattle.mp_cursor.specs.Nexts.{Nexts, is, among}
use Rattle.mp_cursor.specs.Parsers.{Parser, ◌>>=◌, ◌>>◌, ◌<$>◌, pure, refuse, branch, here, expect, opening, identifier, number, repeated, repeated_series, and_one, separated, optional}
use Rattle.mp_cursor.specs.Leaves.{constants}
use Rattle.mp_cursor.specs.LeafTokens.{constant_begins}
use Rattle.mp_parse_expr.specs.Expressions.{expression, access, access_behind, actuals}

-- what stands behind one more opener
pub record Deeper : Type 0 where
  pub expression : Parser Expr
  pub access : Parser (Access Expr)
  pub statement : Parser Statement

-- ---- simple statements, where `room` more openers may stand open

-- the tokens that tell, behind a name, that it begins an assignment
abbrev pub assigning : Nexts
assigning = among (Symbol s.LeftBracket ∷ Symbol s.Dot ∷ Symbol s.Caret ∷ Symbol s.Assign ∷ [])

unfoldable pub assignment_behind : ℕ → Identifier → Parser Statement
assignment_behind room name = do
  variable ← access_behind room name
  at ← expect (Symbol s.Assign)
  value ← expression room
  pure (t.Assign variable at value)

abbrev pub optional_actuals : ℕ → Parser (List (Actual Expr))
optional_actuals room = branch (is (Symbol s.LeftParen)) (actuals room) (pure [])

abbrev pub call_behind : ℕ → Identifier → Parser Statement
call_behind room name = t.Call name <$> optional_actuals room

-- an assignment or a call
unfoldable pub named : ℕ → Parser Statement
named room = do
  name ← identifier
  branch assigning (assignment_behind room name) (call_behind room name)

unfoldable pub goto_statement : Parser Statement
goto_statement = do
  at ← expect (Word w.Goto)
  label ← number
  pure (t.Goto at label)

-- ---- heads

unfoldable pub direction : Parser Direction
direction = branch (is (Word w.To)) (expect (Word w.To) >> pure To) (expect (Word w.Downto) >> pure Downto)

unfoldable pub for_head : Parser Expr → Parser ForHead
for_head expression = do
  variable ← identifier
  assign ← expect (Symbol s.Assign)
  first ← expression
  way ← direction
  last ← expression
  pure (record { variable = variable; assign = assign; first = first; direction = way; last = last })

-- accesses with commas between them
abbrev pub records : Parser (Access Expr) → Parser (List (Access Expr))
records access = separated (Symbol s.Comma) access

-- ---- what has statements in it

-- statements with semicolons between them
unfoldable pub further_statement : Parser Statement → List Statement → Parser (List Statement)
further_statement statement = and_one (expect (Symbol s.Semicolon) >> statement)

abbrev pub further_statements : Parser Statement → List Statement → Parser (List Statement)
further_statements statement = repeated (is (Symbol s.Semicolon)) (further_statement statement)

unfoldable pub sequence : Parser Statement → Parser (List Statement)
sequence statement = do
  first ← statement
  further_statements statement (first ∷ [])

-- an `else` goes to the nearest `if` that has none
unfoldable pub else_part : Parser Statement → Parser (Option Statement)
else_part statement = optional (is (Word w.Else)) (expect (Word w.Else) >> statement)

unfoldable pub arm : Parser Statement → Parser (Arm Statement)
arm statement = do
  found ← constants
  expect (Symbol s.Colon)
  body ← statement
  pure (record { constants = found; body = body })

-- arms with semicolons between them, and perhaps one more semicolon
unfoldable pub further_arm : Parser Statement → List (Arm Statement) → Parser (List (Arm Statement))
further_arm statement = and_one (arm statement)

abbrev pub further_arms : Parser Statement → List (Arm Statement) → Parser (List (Arm Statement))
further_arms statement = repeated_series (Symbol s.Semicolon) constant_begins (further_arm statement)

unfoldable pub arms : Parser Statement → Parser (List (Arm Statement))
arms statement = do
  first ← arm statement
  further_arms statement (first ∷ [])

-- ---- statements, where `room` more openers may stand open, and `behind` is what stands behind one more

module _ (room : ℕ) (behind : Deeper) where
  unfoldable pub compound_statement : Parser Statement
  compound_statement = do
    at ← opening room (Word w.Begin)
    statements ← sequence behind.statement
    expect (Word w.End)
    pure (t.Compound at statements)

  unfoldable pub if_statement : Parser Statement
  if_statement = do
    at ← opening room (Word w.If)
    condition ← behind.expression
    expect (Word w.Then)
    first ← behind.statement
    second ← else_part behind.statement
    pure (t.If at condition first second)

  unfoldable pub case_statement : Parser Statement
  case_statement = do
    at ← opening room (Word w.Case)
    index ← behind.expression
    expect (Word w.Of)
    found ← arms behind.statement
    expect (Word w.End)
    pure (t.Case at index found)

  unfoldable pub while_statement : Parser Statement
  while_statement = do
    at ← opening room (Word w.While)
    condition ← behind.expression
    expect (Word w.Do)
    body ← behind.statement
    pure (t.While at condition body)

  unfoldable pub repeat_statement : Parser Statement
  repeat_statement = do
    at ← opening room (Word w.Repeat)
    statements ← sequence behind.statement
    expect (Word w.Until)
    condition ← behind.expression
    pure (t.Repeat at statements condition)

  unfoldable pub for_statement : Parser Statement
  for_statement = do
    at ← opening room (Word w.For)
    head ← for_head behind.expression
    expect (Word w.Do)
    body ← behind.statement
    pure (t.For at head body)

  unfoldable pub with_statement : Parser Statement
  with_statement = do
    at ← opening room (Word w.With)
    found ← records behind.access
    expect (Word w.Do)
    body ← behind.statement
    pure (t.With at found body)

  -- any other token begins no statement, so that the statement is empty
  unfoldable pub unlabelled : Parser Statement
  unlabelled =
      branch (is next.Identifier) (named room)
      (branch (is (Word w.Goto)) goto_statement
      (branch (is (Word w.Begin)) compound_statement
      (branch (is (Word w.If)) if_statement
      (branch (is (Word w.Case)) case_statement
      (branch (is (Word w.While)) while_statement
      (branch (is (Word w.Repeat)) repeat_statement
      (branch (is (Word w.For)) for_statement
      (branch (is (Word w.With)) with_statement (t.Empty <$> here)))))))))

  unfoldable pub labelled : Parser Statement
  labelled = do
    label ← number
    expect (Symbol s.Colon)
    t.Labelled label <$> unlabelled

  unfoldable pub statement_with : Parser Statement
  statement_with = branch (is next.Number) labelled unlabelled

unfoldable pub behind : ℕ → Deeper
behind zero = record { expression = refuse; access = refuse; statement = refuse }
behind (suc room) = record { expression = expression room; access = access room; statement = statement_with room (behind room) }

-- ---- the parsers, where so many more openers may stand open

abbrev pub statement : ℕ → Parser Statement
statement room = statement_with room (behind room)

-- ---- what may follow

-- the tokens that may follow a statement
abbrev pub after_statement : Nexts
after_statement = among (Symbol s.Semicolon ∷ Word w.End ∷ Word w.Else ∷ Word w.Until ∷ next.End ∷ [])

-- the tokens that may follow statements with semicolons between them
abbrev pub after_sequence : Nexts
after_sequence = among (Word w.End ∷ Word w.Until ∷ [])
