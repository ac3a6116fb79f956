-- What trees tell of single tokens. A leaf is a token that a tree tells of, by its ordinal; the leaves of a tree stand in
-- order of text. Tokens that no leaf tells of are words and symbols that only hold a construct together, as `then`.
use Rattle.std.specs.Prelude.{◌≡◌, ◌⊎◌, ℕ, Bool, true, false, List, [], ◌∷◌, ◌++◌, Option, Some, None, map, codes}
use Rattle.mp_ast.specs.declared.tokens.TokenKind.{TokenKind}
use Rattle.mp_ast.specs.declared.tokens.TokenKind.TheVariants as kind
use Rattle.mp_ast.specs.declared.words.WordSymbol.TheVariants as w
use Rattle.mp_ast.specs.declared.symbols.Symbol.TheVariants as s
use Rattle.mp_ast.specs.declared.leaves.Identifier.{Identifier}
use Rattle.mp_ast.specs.declared.leaves.Number.{Number as NumberLeaf}
use Rattle.mp_ast.specs.declared.leaves.CharacterString.{CharacterString}
use Rattle.mp_ast.specs.declared.leaves.SignKind.{SignKind}
use Rattle.mp_ast.specs.declared.leaves.SignKind.TheVariants as sign
use Rattle.mp_ast.specs.declared.leaves.Sign.{Sign}
use Rattle.mp_ast.specs.declared.leaves.Constant.{Constant}
use Rattle.mp_ast.specs.declared.leaves.Constant.TheVariants as constant
use Rattle.mp_ast.specs.declared.expressions.Operator.{Operator}
use Rattle.mp_ast.specs.declared.expressions.Operator.TheVariants as op
use Rattle.mp_ast.specs.PlainExpressions.{PlainExpr, PlainSelectors, PlainActuals, PlainMembers, PlainOperations, PlainAccess}

pub data Leaf : Type 0 where
  -- an identifier
  Name : Identifier → Leaf
  -- the directive `forward`, which is no identifier of the program
  Forward : (at : ℕ) → Leaf
  -- a token of this kind: a number, a string, a word or a symbol
  Mark : (at : ℕ) → TokenKind → Leaf
  -- the index of a variable: `[`, or `,` before a further one
  Bracket : (at : ℕ) → Leaf
  -- an empty statement, which has no token: it stands at the one that follows
  Before : (at : ℕ) → Leaf

abbrev pub ordinal_of : Leaf → ℕ
ordinal_of (Name x) = x.at
ordinal_of (Forward at) = at
ordinal_of (Mark at k) = at
ordinal_of (Bracket at) = at
ordinal_of (Before at) = at

-- a leaf is a token of its own
abbrev pub has_token : Leaf → Bool
has_token (Name x) = true
has_token (Forward at) = true
has_token (Mark at k) = true
has_token (Bracket at) = true
has_token (Before at) = false

-- a leaf is an identifier token: an identifier, or `forward`
abbrev pub is_identifier_token : Leaf → Bool
is_identifier_token (Name x) = true
is_identifier_token (Forward at) = true
is_identifier_token (Mark at k) = false
is_identifier_token (Bracket at) = false
is_identifier_token (Before at) = false

-- a token of this kind is what a leaf tells of
abbrev pub Fits : Leaf → TokenKind → Type 0
Fits (Name x) k = k ≡ kind.Id x.name
Fits (Forward at) k = k ≡ kind.Id (codes "forward")
Fits (Mark at told) k = k ≡ told
Fits (Bracket at) k = (k ≡ kind.Symbol s.LeftBracket) ⊎ (k ≡ kind.Symbol s.Comma)
Fits (Before at) k = Unit {0}

-- ---- constants (ISO 7185, 6.3)

abbrev pub number_leaf : NumberLeaf → Leaf
number_leaf n = Mark n.at (kind.Number n.value)

abbrev pub string_leaf : CharacterString → Leaf
string_leaf x = Mark x.at (kind.Text x.characters)

abbrev pub sign_kind : SignKind → TokenKind
sign_kind sign.Plus = kind.Symbol s.Plus
sign_kind sign.Minus = kind.Symbol s.Minus

abbrev pub leaves_of_sign : Option Sign → List Leaf
leaves_of_sign None = []
leaves_of_sign (Some x) = Mark x.at (sign_kind x.kind) ∷ []

abbrev pub leaves_of_constant : Constant → List Leaf
leaves_of_constant (constant.Number x n) = leaves_of_sign x ++ number_leaf n ∷ []
leaves_of_constant (constant.Name x name) = leaves_of_sign x ++ Name name ∷ []
leaves_of_constant (constant.Text x) = string_leaf x ∷ []

abbrev pub leaves_of_constants : List Constant → List Leaf
leaves_of_constants [] = []
leaves_of_constants (c ∷ more) = leaves_of_constant c ++ leaves_of_constants more

abbrev pub leaves_of_names : List Identifier → List Leaf
leaves_of_names names = map Name names

-- ---- expressions (ISO 7185, 6.5 and 6.7)

abbrev pub operator_kind : Operator → TokenKind
operator_kind op.Equal = kind.Symbol s.Equal
operator_kind op.NotEqual = kind.Symbol s.NotEqual
operator_kind op.Less = kind.Symbol s.Less
operator_kind op.LessOrEqual = kind.Symbol s.LessEqual
operator_kind op.Greater = kind.Symbol s.Greater
operator_kind op.GreaterOrEqual = kind.Symbol s.GreaterEqual
operator_kind op.In = kind.Word w.In
operator_kind op.Add = kind.Symbol s.Plus
operator_kind op.Subtract = kind.Symbol s.Minus
operator_kind op.Or = kind.Word w.Or
operator_kind op.Multiply = kind.Symbol s.Star
operator_kind op.Div = kind.Word w.Div
operator_kind op.Mod = kind.Word w.Mod
operator_kind op.And = kind.Word w.And

abbrev mutual
  pub leaves_of_expression : PlainExpr → List Leaf
  leaves_of_expression (PlainExpr.Number n) = number_leaf n ∷ []
  leaves_of_expression (PlainExpr.Text x) = string_leaf x ∷ []
  leaves_of_expression (PlainExpr.Nil at) = Mark at (kind.Word w.Nil) ∷ []
  leaves_of_expression (PlainExpr.Access name selectors) = Name name ∷ leaves_of_selectors selectors
  leaves_of_expression (PlainExpr.Call name given) = Name name ∷ leaves_of_actuals given
  leaves_of_expression (PlainExpr.Inside at x) = Mark at (kind.Symbol s.LeftParen) ∷ leaves_of_expression x
  leaves_of_expression (PlainExpr.Not at x) = Mark at (kind.Word w.Not) ∷ leaves_of_expression x
  leaves_of_expression (PlainExpr.Set at members) = Mark at (kind.Symbol s.LeftBracket) ∷ leaves_of_members members
  leaves_of_expression (PlainExpr.Product first more) = leaves_of_expression first ++ leaves_of_operations more
  leaves_of_expression (PlainExpr.Sum x first more) = leaves_of_sign x ++ (leaves_of_expression first ++ leaves_of_operations more)
  leaves_of_expression (PlainExpr.Relation left at o right) = leaves_of_expression left ++ Mark at (operator_kind o) ∷ leaves_of_expression right

  pub leaves_of_selectors : PlainSelectors → List Leaf
  leaves_of_selectors PlainSelectors.NoSelectors = []
  leaves_of_selectors (PlainSelectors.Index at x more) = Bracket at ∷ leaves_of_expression x ++ leaves_of_selectors more
  leaves_of_selectors (PlainSelectors.Field at name more) = Mark at (kind.Symbol s.Dot) ∷ Name name ∷ leaves_of_selectors more
  leaves_of_selectors (PlainSelectors.Follow at more) = Mark at (kind.Symbol s.Caret) ∷ leaves_of_selectors more

  pub leaves_of_actuals : PlainActuals → List Leaf
  leaves_of_actuals PlainActuals.NoActuals = []
  leaves_of_actuals (PlainActuals.Actual x more) = leaves_of_expression x ++ leaves_of_actuals more
  leaves_of_actuals (PlainActuals.ActualWithWidth x at width more) =
      leaves_of_expression x ++ (Mark at (kind.Symbol s.Colon) ∷ leaves_of_expression width ++ leaves_of_actuals more)

  pub leaves_of_members : PlainMembers → List Leaf
  leaves_of_members PlainMembers.NoMembers = []
  leaves_of_members (PlainMembers.Member x more) = leaves_of_expression x ++ leaves_of_members more
  leaves_of_members (PlainMembers.MemberRange first last more) = leaves_of_expression first ++ (leaves_of_expression last ++ leaves_of_members more)

  pub leaves_of_operations : PlainOperations → List Leaf
  leaves_of_operations PlainOperations.NoOperations = []
  leaves_of_operations (PlainOperations.Operation at o x more) = Mark at (operator_kind o) ∷ leaves_of_expression x ++ leaves_of_operations more

abbrev pub leaves_of_access : PlainAccess → List Leaf
leaves_of_access a = Name a.name ∷ leaves_of_selectors a.selectors
