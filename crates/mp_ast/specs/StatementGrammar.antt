-- Statements (ISO 7185, 6.8).
use Rattle.std.specs.Prelude.{ℕ, zero, suc, List, [], Option, Some, None}
use Rattle.mp_ast.specs.declared.tokens.TokenKind.TheVariants.{Word}
use Rattle.mp_ast.specs.declared.words.WordSymbol.TheVariants as w
use Rattle.mp_ast.specs.declared.symbols.Symbol.TheVariants as s
use Rattle.mp_ast.specs.declared.expressions.Access.{Access}
use Rattle.mp_ast.specs.declared.expressions.Expr.{Expr}
use Rattle.mp_ast.specs.declared.statements.Direction.{Direction}
use Rattle.mp_ast.specs.declared.statements.Direction.TheVariants as direction
use Rattle.mp_ast.specs.declared.statements.ForHead.{ForHead}
use Rattle.mp_ast.specs.declared.statements.Arm.{Arm}
use Rattle.mp_ast.specs.declared.statements.Statement.{Statement}
use Rattle.mp_ast.specs.declared.statements.Statement.TheVariants as t
use Rattle.mp_ast.specs.Rules.{Rule, ◌>>=◌, ◌>>◌, ◌<$>◌, ◌<|>◌, gives, none, optional, separated, word, symbol, here}
use Rattle.mp_ast.specs.Rules.{not_before, opener}
use Rattle.mp_ast.specs.LeafGrammar.{identifier, number, constant}
use Rattle.mp_ast.specs.ExpressionGrammar.{expression, access, actuals}

-- what stands behind one more opener
pub record Deeper : Type 1 where
  pub expression : Rule Expr
  pub access : Rule (Access Expr)
  pub statement : Rule Statement

-- ---- what a statement is made of

-- sequence = statement {";" statement}
abbrev pub sequence : Rule Statement → Rule (List Statement)
sequence statement = separated (symbol s.Semicolon) statement

-- arm = constant {"," constant} ":" statement
abbrev pub arm : Rule Statement → Rule (Arm Statement)
arm statement = do
  constants ← separated (symbol s.Comma) constant
  symbol s.Colon
  body ← statement
  gives (record { constants = constants; body = body })

-- an `else` belongs to the nearest `if` that can take it: an `if` without one is not followed by one
abbrev pub else_part : Rule Statement → Rule (Option Statement)
else_part statement = Some <$> (word w.Else >> statement) <|> not_before (Word w.Else) >> gives None

abbrev pub upward : Rule Direction
upward = word w.To >> gives direction.To

abbrev pub downward : Rule Direction
downward = word w.Downto >> gives direction.Downto

-- id ":=" expr ("to" | "downto") expr
abbrev pub for_head : Rule Expr → Rule ForHead
for_head expression = do
  variable ← identifier
  assign ← symbol s.Assign
  first ← expression
  direction ← upward <|> downward
  last ← expression
  gives (record { variable = variable; assign = assign; first = first; direction = direction; last = last })

-- In these productions `room` more openers may stand open, and `behind` is what stands behind one more.
module _ (room : ℕ) (behind : Deeper) where
  -- nothing: it stands at the token that follows
  abbrev pub empty_statement : Rule Statement
  empty_statement = t.Empty <$> here

  -- access ":=" expr
  abbrev pub assignment : Rule Statement
  assignment = do
    variable ← access room
    at ← symbol s.Assign
    value ← expression room
    gives (t.Assign variable at value)

  -- id [actuals]
  abbrev pub procedure_call : Rule Statement
  procedure_call = do
    name ← identifier
    given ← actuals room <|> gives []
    gives (t.Call name given)

  -- "goto" number
  abbrev pub goto_statement : Rule Statement
  goto_statement = do
    at ← word w.Goto
    label ← number
    gives (t.Goto at label)

  -- compound = "begin" sequence "end"
  abbrev pub compound_statement : Rule Statement
  compound_statement = do
    at ← opener room (Word w.Begin)
    statements ← sequence behind.statement
    word w.End
    gives (t.Compound at statements)

  -- "if" expr "then" statement ["else" statement]
  abbrev pub if_statement : Rule Statement
  if_statement = do
    at ← opener room (Word w.If)
    condition ← behind.expression
    word w.Then
    first ← behind.statement
    second ← else_part behind.statement
    gives (t.If at condition first second)

  -- "case" expr "of" arm {";" arm} [";"] "end"
  abbrev pub case_statement : Rule Statement
  case_statement = do
    at ← opener room (Word w.Case)
    index ← behind.expression
    word w.Of
    arms ← separated (symbol s.Semicolon) (arm behind.statement)
    optional (symbol s.Semicolon)
    word w.End
    gives (t.Case at index arms)

  -- "while" expr "do" statement
  abbrev pub while_statement : Rule Statement
  while_statement = do
    at ← opener room (Word w.While)
    condition ← behind.expression
    word w.Do
    body ← behind.statement
    gives (t.While at condition body)

  -- "repeat" sequence "until" expr
  abbrev pub repeat_statement : Rule Statement
  repeat_statement = do
    at ← opener room (Word w.Repeat)
    statements ← sequence behind.statement
    word w.Until
    condition ← behind.expression
    gives (t.Repeat at statements condition)

  -- "for" id ":=" expr ("to" | "downto") expr "do" statement
  abbrev pub for_statement : Rule Statement
  for_statement = do
    at ← opener room (Word w.For)
    head ← for_head behind.expression
    word w.Do
    body ← behind.statement
    gives (t.For at head body)

  -- "with" access {"," access} "do" statement
  abbrev pub with_statement : Rule Statement
  with_statement = do
    at ← opener room (Word w.With)
    records ← separated (symbol s.Comma) behind.access
    word w.Do
    body ← behind.statement
    gives (t.With at records body)

  abbrev pub unlabelled : Rule Statement
  unlabelled =
      empty_statement
      <|> assignment
      <|> procedure_call
      <|> goto_statement
      <|> compound_statement
      <|> if_statement
      <|> case_statement
      <|> while_statement
      <|> repeat_statement
      <|> for_statement
      <|> with_statement

  -- number ":"
  abbrev pub labelled : Rule Statement
  labelled = do
    label ← number
    symbol s.Colon
    t.Labelled label <$> unlabelled

  abbrev pub statement_with : Rule Statement
  statement_with = unlabelled <|> labelled

unfoldable pub behind : ℕ → Deeper
behind zero = record { expression = none; access = none; statement = none }
behind (suc room) = record { expression = expression room; access = access room; statement = statement_with room (behind room) }

-- a statement, where so many more openers may stand open
abbrev pub statement : ℕ → Rule Statement
statement room = statement_with room (behind room)
