-- Statements as plain data (ISO 7185, 6.8): the syntax trees without the memory that they stand in.
use Rattle.std.specs.Prelude.{ℕ, List, [], ◌∷◌, Option, Some, None, map}
use Rattle.mp_ast.specs.declared.leaves.Identifier.{Identifier}
use Rattle.mp_ast.specs.declared.leaves.Number.{Number}
use Rattle.mp_ast.specs.declared.leaves.Constant.{Constant}
use Rattle.mp_ast.specs.declared.statements.Direction.{Direction}
use Rattle.mp_ast.specs.declared.statements.ForHead.{ForHead}
use Rattle.mp_ast.specs.declared.statements.Arm.{Arm as DeclaredArm}
use Rattle.mp_ast.specs.declared.statements.Statement.{Statement, fold-Statement}
use Rattle.mp_ast.specs.declared.statements.Statement.TheOpen.{Statement-F}
use Rattle.mp_ast.specs.PlainExpressions.{PlainExpr, PlainAccess, PlainActuals, plain_expr, plain_access, plain_actuals}

-- the head of a `for` statement; `assign` is the ordinal of `:=`
pub record PlainForHead : Type 0 where
  pub variable : Identifier
  pub assign : ℕ
  pub first : PlainExpr
  pub direction : Direction
  pub last : PlainExpr

-- The variants and ordinals are those of `Statement`, but that an `if` with `else` is a variant of its own.
mutual
  pub data PlainStatement : Type 0 where
    Labelled : (label : Number) → PlainStatement → PlainStatement
    Empty : (at : ℕ) → PlainStatement
    Assign : PlainAccess → (at : ℕ) → (value : PlainExpr) → PlainStatement
    Call : (name : Identifier) → PlainActuals → PlainStatement
    Goto : (at : ℕ) → (label : Number) → PlainStatement
    Compound : (at : ℕ) → PlainStatements → PlainStatement
    If : (at : ℕ) → (condition : PlainExpr) → PlainStatement → PlainStatement
    IfElse : (at : ℕ) → (condition : PlainExpr) → (first second : PlainStatement) → PlainStatement
    Case : (at : ℕ) → (index : PlainExpr) → PlainArms → PlainStatement
    While : (at : ℕ) → (condition : PlainExpr) → (body : PlainStatement) → PlainStatement
    Repeat : (at : ℕ) → PlainStatements → (condition : PlainExpr) → PlainStatement
    For : (at : ℕ) → PlainForHead → (body : PlainStatement) → PlainStatement
    With : (at : ℕ) → (records : List PlainAccess) → (body : PlainStatement) → PlainStatement

  -- statements one after another
  pub data PlainStatements : Type 0 where
    NoStatements : PlainStatements
    Sequence : PlainStatement → (more : PlainStatements) → PlainStatements

  -- case-list-elements: constants, and the statement for them
  pub data PlainArms : Type 0 where
    NoArms : PlainArms
    Arm : (constants : List Constant) → (body : PlainStatement) → (more : PlainArms) → PlainArms

-- ---- from the trees to plain data

-- Lists of parts, where `plain` says what the statements in them become.
module _ {S : Type 0} (plain : S → PlainStatement) where
  abbrev pub statements_of : List S → PlainStatements
  statements_of [] = NoStatements
  statements_of (s ∷ more) = Sequence (plain s) (statements_of more)

  abbrev pub arms_of : List (DeclaredArm S) → PlainArms
  arms_of [] = NoArms
  arms_of (a ∷ more) = Arm a.constants (plain a.body) (arms_of more)

abbrev pub plain_head : ForHead → PlainForHead
plain_head h =
    record { variable = h.variable; assign = h.assign; first = plain_expr h.first; direction = h.direction; last = plain_expr h.last }

abbrev pub either_if : ℕ → PlainExpr → PlainStatement → Option PlainStatement → PlainStatement
either_if at condition first None = If at condition first
either_if at condition first (Some second) = IfElse at condition first second

abbrev pub itself : PlainStatement → PlainStatement
itself s = s

-- one node, whose parts are plain
abbrev pub layer_statement : Statement-F PlainStatement → PlainStatement
layer_statement (Statement-F.Labelled label s) = Labelled label s
layer_statement (Statement-F.Empty at) = Empty at
layer_statement (Statement-F.Assign variable at value) = Assign (plain_access variable) at (plain_expr value)
layer_statement (Statement-F.Call name given) = Call name (plain_actuals given)
layer_statement (Statement-F.Goto at label) = Goto at label
layer_statement (Statement-F.Compound at statements) = Compound at (statements_of itself statements)
layer_statement (Statement-F.If at condition first second) = either_if at (plain_expr condition) first second
layer_statement (Statement-F.Case at index arms) = Case at (plain_expr index) (arms_of itself arms)
layer_statement (Statement-F.While at condition body) = While at (plain_expr condition) body
layer_statement (Statement-F.Repeat at statements condition) = Repeat at (statements_of itself statements) (plain_expr condition)
layer_statement (Statement-F.For at head body) = For at (plain_head head) body
layer_statement (Statement-F.With at records body) = With at (map plain_access records) body

unfoldable pub plain_statement : Statement → PlainStatement
plain_statement t = fold-Statement PlainStatement layer_statement t

abbrev pub plain_statements : List Statement → PlainStatements
plain_statements statements = statements_of plain_statement statements
