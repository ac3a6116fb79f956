-- Expressions as plain data (ISO 7185, 6.5 and 6.7): the syntax trees without the memory that they stand in. Definitions
-- that recurse over expressions recurse over these. Each list of parts is a type of its own.
use Rattle.std.specs.Prelude.{ℕ, List, [], ◌∷◌, Option, Some, None}
use Rattle.mp_ast.specs.declared.leaves.Identifier.{Identifier}
use Rattle.mp_ast.specs.declared.leaves.Number.{Number as NumberLeaf}
use Rattle.mp_ast.specs.declared.leaves.CharacterString.{CharacterString}
use Rattle.mp_ast.specs.declared.leaves.Sign.{Sign}
use Rattle.mp_ast.specs.declared.expressions.Operator.{Operator}
use Rattle.mp_ast.specs.declared.expressions.Selector.{Selector}
use Rattle.mp_ast.specs.declared.expressions.Selector.TheVariants as selector
use Rattle.mp_ast.specs.declared.expressions.Access.{Access as DeclaredAccess}
use Rattle.mp_ast.specs.declared.expressions.Width.{Width}
use Rattle.mp_ast.specs.declared.expressions.Actual.{Actual as DeclaredActual}
use Rattle.mp_ast.specs.declared.expressions.Member.{Member as DeclaredMember}
use Rattle.mp_ast.specs.declared.expressions.Operation.{Operation as DeclaredOperation}
use Rattle.mp_ast.specs.declared.expressions.Expr.{Expr, fold-Expr}
use Rattle.mp_ast.specs.declared.expressions.Expr.TheOpen.{Expr-F}

-- The variants and ordinals are those of `Expr`.
mutual
  pub data PlainExpr : Type 0 where
    Number : NumberLeaf → PlainExpr
    Text : CharacterString → PlainExpr
    Nil : (at : ℕ) → PlainExpr
    Access : (name : Identifier) → PlainSelectors → PlainExpr
    Call : (name : Identifier) → PlainActuals → PlainExpr
    Inside : (at : ℕ) → PlainExpr → PlainExpr
    Not : (at : ℕ) → PlainExpr → PlainExpr
    Set : (at : ℕ) → PlainMembers → PlainExpr
    Product : (first : PlainExpr) → PlainOperations → PlainExpr
    Sum : Option Sign → (first : PlainExpr) → PlainOperations → PlainExpr
    Relation : (left : PlainExpr) → (at : ℕ) → Operator → (right : PlainExpr) → PlainExpr

  -- the steps from a variable to a part of it
  pub data PlainSelectors : Type 0 where
    NoSelectors : PlainSelectors
    Index : (at : ℕ) → PlainExpr → (more : PlainSelectors) → PlainSelectors
    Field : (at : ℕ) → Identifier → (more : PlainSelectors) → PlainSelectors
    Follow : (at : ℕ) → (more : PlainSelectors) → PlainSelectors

  -- actual parameters, of which a `write` parameter may have a width behind the `:` at that ordinal
  pub data PlainActuals : Type 0 where
    NoActuals : PlainActuals
    Actual : PlainExpr → (more : PlainActuals) → PlainActuals
    ActualWithWidth : PlainExpr → (at : ℕ) → (width : PlainExpr) → (more : PlainActuals) → PlainActuals

  -- the members of a set constructor: one value, or all from the first to the last
  pub data PlainMembers : Type 0 where
    NoMembers : PlainMembers
    Member : PlainExpr → (more : PlainMembers) → PlainMembers
    MemberRange : (first last : PlainExpr) → (more : PlainMembers) → PlainMembers

  -- operators, each with what it takes behind it
  pub data PlainOperations : Type 0 where
    NoOperations : PlainOperations
    Operation : (at : ℕ) → Operator → PlainExpr → (more : PlainOperations) → PlainOperations

-- a variable or a name, and the steps from it to a part
pub record PlainAccess : Type 0 where
  pub name : Identifier
  pub selectors : PlainSelectors

-- ---- from the trees to plain data

-- Lists of parts, where `plain` says what the expressions in them become.
module _ {X : Type 0} (plain : X → PlainExpr) where
  abbrev pub with_selector : Selector X → PlainSelectors → PlainSelectors
  with_selector (selector.Index at index) more = Index at (plain index) more
  with_selector (selector.Field at name) more = Field at name more
  with_selector (selector.Follow at) more = Follow at more

  abbrev pub selectors_of : List (Selector X) → PlainSelectors
  selectors_of [] = NoSelectors
  selectors_of (s ∷ more) = with_selector s (selectors_of more)

  abbrev pub with_actual : X → Option (Width X) → PlainActuals → PlainActuals
  with_actual value None more = Actual (plain value) more
  with_actual value (Some width) more = ActualWithWidth (plain value) width.at (plain width.value) more

  abbrev pub actuals_of : List (DeclaredActual X) → PlainActuals
  actuals_of [] = NoActuals
  actuals_of (a ∷ more) = with_actual a.value a.width (actuals_of more)

  abbrev pub with_member : X → Option X → PlainMembers → PlainMembers
  with_member first None more = Member (plain first) more
  with_member first (Some last) more = MemberRange (plain first) (plain last) more

  abbrev pub members_of : List (DeclaredMember X) → PlainMembers
  members_of [] = NoMembers
  members_of (m ∷ more) = with_member m.first m.last (members_of more)

  abbrev pub operations_of : List (DeclaredOperation X) → PlainOperations
  operations_of [] = NoOperations
  operations_of (o ∷ more) = Operation o.at o.operator (plain o.operand) (operations_of more)

abbrev pub itself : PlainExpr → PlainExpr
itself x = x

-- one node, whose parts are plain
abbrev pub layer_expr : Expr-F PlainExpr → PlainExpr
layer_expr (Expr-F.Number n) = Number n
layer_expr (Expr-F.Text s) = Text s
layer_expr (Expr-F.Nil at) = Nil at
layer_expr (Expr-F.Access a) = Access a.name (selectors_of itself a.selectors)
layer_expr (Expr-F.Call name given) = Call name (actuals_of itself given)
layer_expr (Expr-F.Inside at x) = Inside at x
layer_expr (Expr-F.Not at x) = Not at x
layer_expr (Expr-F.Set at members) = Set at (members_of itself members)
layer_expr (Expr-F.Product first more) = Product first (operations_of itself more)
layer_expr (Expr-F.Sum sign first more) = Sum sign first (operations_of itself more)
layer_expr (Expr-F.Relation left o) = Relation left o.at o.operator o.operand

unfoldable pub plain_expr : Expr → PlainExpr
plain_expr t = fold-Expr PlainExpr layer_expr t

abbrev pub plain_access : DeclaredAccess Expr → PlainAccess
plain_access a = record { name = a.name; selectors = selectors_of plain_expr a.selectors }

abbrev pub plain_actuals : List (DeclaredActual Expr) → PlainActuals
plain_actuals given = actuals_of plain_expr given
