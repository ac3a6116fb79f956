-- The rules of expressions give well-formed ones.
use Rattle.std.proofs.Common.{◌≡◌, ℕ, zero, suc, List, [], ◌∷◌, Option, Some, None, sym, subst}
use Rattle.std.specs.List.{AllByRecursion}
use Rattle.mp_ast.specs.declared.leaves.Sign.{Sign}
use Rattle.mp_ast.specs.declared.expressions.Operator.{Operator}
use Rattle.mp_ast.specs.declared.expressions.Selector.{Selector}
use Rattle.mp_ast.specs.declared.expressions.Selector.TheVariants as selector
use Rattle.mp_ast.specs.declared.expressions.Actual.{Actual}
use Rattle.mp_ast.specs.declared.expressions.Width.{Width}
use Rattle.mp_ast.specs.declared.expressions.Member.{Member}
use Rattle.mp_ast.specs.declared.expressions.Operation.{Operation}
use Rattle.mp_ast.specs.declared.expressions.Expr.{Expr}
use Rattle.mp_ast.specs.Rules.{Rule}
use Rattle.mp_ast.specs.ExpressionGrammar.{Deeper, behind, operation, relational_operator, adding_operator, multiplying_operator, product, sum, relation}
use Rattle.mp_ast.specs.ExpressionGrammar.{access_with, actuals_with, factor_with, term, simple_expression, expression_with, expression, access}
use Rattle.mp_ast.specs.ExpressionGrammar.{actuals}
use Rattle.mp_ast.specs.PlainExpressions as plain
use Rattle.mp_ast.specs.PlainExpressions.{PlainExpr, PlainSelectors, PlainActuals, PlainMembers, selectors_of, with_selector, with_actual, with_member}
use Rattle.mp_ast.specs.PlainExpressions.{members_of, operations_of, plain_expr, plain_access, plain_actuals}
use Rattle.mp_ast.specs.WellFormed.{IsSome, IsRelational, IsAdding, IsMultiplying, IsFactor, IsTerm, IsSimple, HasActual, IsExpression, AreSelectors}
use Rattle.mp_ast.specs.WellFormed.{AreActuals, AreMembers, AreOperations, IsAccess}
use Rattle.mp_ast.proofs.PlainExpressionLemmas.{plain_expr-Number, plain_expr-Text, plain_expr-Nil, plain_expr-Access, plain_expr-Call, plain_expr-Inside}
use Rattle.mp_ast.proofs.PlainExpressionLemmas.{plain_expr-Not, plain_expr-Set, plain_expr-Product, plain_expr-Sum, plain_expr-Relation}
use Rattle.mp_ast.proofs.Yielding.{Yields, Optional, Row, any, nothing, never, next, past, made, either, maybe, repeated, repeated_lists, row, all_of}

-- ---- what operands are

abbrev pub Whole : Expr → Type 0
Whole x = IsExpression (plain_expr x)

abbrev Factor : Expr → Type 0
Factor x = IsFactor (plain_expr x) × IsExpression (plain_expr x)

abbrev Term : Expr → Type 0
Term x = IsTerm (plain_expr x) × IsExpression (plain_expr x)

abbrev Simple : Expr → Type 0
Simple x = IsSimple (plain_expr x) × IsExpression (plain_expr x)

factor_term : (p : PlainExpr) → IsFactor p → IsTerm p
factor_term (plain.Number n) v = tt
factor_term (plain.Text s) v = tt
factor_term (plain.Nil at) v = tt
factor_term (plain.Access name steps) v = tt
factor_term (plain.Call name given) v = tt
factor_term (plain.Inside at x) v = tt
factor_term (plain.Not at x) v = tt
factor_term (plain.Set at inside) v = tt
factor_term (plain.Product first more) v = tt
factor_term (plain.Sum sign first more) v = v
factor_term (plain.Relation left at o right) v = v

term_simple : (p : PlainExpr) → IsTerm p → IsSimple p
term_simple (plain.Number n) v = tt
term_simple (plain.Text s) v = tt
term_simple (plain.Nil at) v = tt
term_simple (plain.Access name steps) v = tt
term_simple (plain.Call name given) v = tt
term_simple (plain.Inside at x) v = tt
term_simple (plain.Not at x) v = tt
term_simple (plain.Set at inside) v = tt
term_simple (plain.Product first more) v = tt
term_simple (plain.Sum sign first more) v = tt
term_simple (plain.Relation left at o right) v = v

factor_as : (x : Expr) (p : PlainExpr) → plain_expr x ≡ p → IsFactor p → IsExpression p → Factor x
factor_as x p e v w = (subst IsFactor (sym e) v, subst IsExpression (sym e) w)

-- ---- lists of parts

abbrev GoodOperation : (Operator → Type 0) → (PlainExpr → Type 0) → Operation Expr → Type 0
GoodOperation IsOperator IsOperand o = IsOperator o.operator × IsOperand (plain_expr o.operand) × IsExpression (plain_expr o.operand)

operations_are :
    (P : Operator → Type 0) (Q : PlainExpr → Type 0) (l : List (Operation Expr)) →
    AllByRecursion (GoodOperation P Q) l → AreOperations P Q (operations_of plain_expr l)
operations_are P Q [] v = tt
operations_are P Q (o ∷ l) v = (v.0.0, v.0.1, v.0.2, operations_are P Q l v.1)

abbrev GoodSelector : Selector Expr → Type 0
GoodSelector (selector.Index at x) = IsExpression (plain_expr x)
GoodSelector (selector.Field at name) = Unit {0}
GoodSelector (selector.Follow at) = Unit {0}

one_selector : (s : Selector Expr) (more : PlainSelectors) → GoodSelector s → AreSelectors more → AreSelectors (with_selector plain_expr s more)
one_selector (selector.Index at x) more v w = (v, w)
one_selector (selector.Field at name) more v w = w
one_selector (selector.Follow at) more v w = w

selectors_are : (l : List (Selector Expr)) → AllByRecursion GoodSelector l → AreSelectors (selectors_of plain_expr l)
selectors_are [] v = tt
selectors_are (s ∷ l) v = one_selector s (selectors_of plain_expr l) v.0 (selectors_are l v.1)

abbrev GoodWidth : Width Expr → Type 0
GoodWidth w = IsExpression (plain_expr w.value)

abbrev GoodActual : Actual Expr → Type 0
GoodActual a = IsExpression (plain_expr a.value) × Optional GoodWidth a.width

one_actual :
    (x : Expr) (width : Option (Width Expr)) (more : PlainActuals) → IsExpression (plain_expr x) → Optional GoodWidth width → AreActuals more →
    AreActuals (with_actual plain_expr x width more)
one_actual x None more v u w = (v, w)
one_actual x (Some width) more v u w = (v, u, w)

some_actual : (x : Expr) (width : Option (Width Expr)) (more : PlainActuals) → HasActual (with_actual plain_expr x width more)
some_actual x None more = tt
some_actual x (Some width) more = tt

pub actuals_are : (l : List (Actual Expr)) → AllByRecursion GoodActual l → AreActuals (plain_actuals l)
actuals_are [] v = tt
actuals_are (a ∷ l) v = one_actual a.value a.width (plain_actuals l) v.0.0 v.0.1 (actuals_are l v.1)

has_actual : (l : List (Actual Expr)) → IsSome l → HasActual (plain_actuals l)
has_actual [] v = elim v [ ]
has_actual (a ∷ l) v = some_actual a.value a.width (plain_actuals l)

abbrev GoodMember : Member Expr → Type 0
GoodMember m = IsExpression (plain_expr m.first) × Optional Whole m.last

one_member :
    (x : Expr) (last : Option Expr) (more : PlainMembers) → IsExpression (plain_expr x) → Optional Whole last → AreMembers more →
    AreMembers (with_member plain_expr x last more)
one_member x None more v u w = (v, w)
one_member x (Some last) more v u w = (v, u, w)

members_are : (l : List (Member Expr)) → AllByRecursion GoodMember l → AreMembers (members_of plain_expr l)
members_are [] v = tt
members_are (m ∷ l) v = one_member m.first m.last (members_of plain_expr l) v.0.0 v.0.1 (members_are l v.1)

-- ---- what has operators

product_is : (first : Expr) (more : List (Operation Expr)) → Factor first → AllByRecursion (GoodOperation IsMultiplying IsFactor) more → Term (product first more)
product_is first [] v w = (factor_term (plain_expr first) v.0, v.1)
product_is first (o ∷ more) v w =
    let e = sym (plain_expr-Product first (o ∷ more)) in
    (subst IsTerm e tt, subst IsExpression e (v.0, v.1, tt, operations_are IsMultiplying IsFactor (o ∷ more) w))

sum_is :
    (sign : Option Sign) (first : Expr) (more : List (Operation Expr)) → Term first → AllByRecursion (GoodOperation IsAdding IsTerm) more →
    Simple (sum sign first more)
sum_is None first [] v w = (term_simple (plain_expr first) v.0, v.1)
sum_is (Some s) first more v w =
    let e = sym (plain_expr-Sum (Some s) first more) in
    (subst IsSimple e tt, subst IsExpression e (v.0, v.1, tt, operations_are IsAdding IsTerm more w))
sum_is None first (o ∷ more) v w =
    let e = sym (plain_expr-Sum None first (o ∷ more)) in
    (subst IsSimple e tt, subst IsExpression e (v.0, v.1, tt, operations_are IsAdding IsTerm (o ∷ more) w))

relation_is : (left : Expr) (right : Option (Operation Expr)) → Simple left → Optional (GoodOperation IsRelational IsSimple) right → Whole (relation left right)
relation_is left None v w = v.1
relation_is left (Some o) v w = subst IsExpression (sym (plain_expr-Relation left o)) (v.0, v.1, w.0, w.1, w.2)

-- ---- the rules

relational : Yields (λ o. IsRelational o.1) relational_operator
relational =
    either (past (λ at. nothing tt)) (either (past (λ at. nothing tt)) (either (past (λ at. nothing tt)) (either (past (λ at. nothing tt))
    (either (past (λ at. nothing tt)) (either (past (λ at. nothing tt)) (past (λ at. nothing tt)))))))

adding : Yields (λ o. IsAdding o.1) adding_operator
adding = either (past (λ at. nothing tt)) (either (past (λ at. nothing tt)) (past (λ at. nothing tt)))

multiplying : Yields (λ o. IsMultiplying o.1) multiplying_operator
multiplying = either (past (λ at. nothing tt)) (either (past (λ at. nothing tt)) (either (past (λ at. nothing tt)) (past (λ at. nothing tt))))

operation_yields :
    (P : Operator → Type 0) (Q : PlainExpr → Type 0) {r : Rule (ℕ × Operator)} {s : Rule Expr} →
    Yields (λ o. P o.1) r → Yields (λ x. Q (plain_expr x) × IsExpression (plain_expr x)) s → Yields (GoodOperation P Q) (operation r s)
operation_yields P Q a b = next a (λ o v. next b (λ x w. nothing (v, w.0, w.1)))

record DeeperYields (b : Deeper) : Type 0 where
  pub expression : Yields Whole b.expression
  pub factor : Yields Factor b.factor

module _ (room : ℕ) (b : Deeper) (c : DeeperYields b) where
  access_yields_with : Yields (λ a. IsAccess (plain_access a)) (access_with room b)
  access_yields_with =
      past (λ name. next
      (repeated_lists {P = GoodSelector}
      (either
      (past (λ at. next c.expression (λ first v. next (repeated {P = GoodSelector} (past (λ comma. made c.expression (λ x w. w)))) (λ more w. past (λ end. nothing (v, w))))))
      (either
      (past (λ at. past (λ field. nothing (tt, tt))))
      (past (λ at. nothing (tt, tt))))))
      (λ selectors v. nothing (selectors_are selectors v)))

  actuals_yields_with : Yields (Row GoodActual) (actuals_with room b)
  actuals_yields_with =
      past (λ at. next
      (row {P = GoodActual} (next c.expression (λ value v. next (maybe {P = GoodWidth} (past (λ colon. next c.expression (λ width w. nothing w)))) (λ width w. nothing (v, w)))))
      (λ found v. past (λ end. nothing v)))

  factor_yields_with : Yields Factor (factor_with room b)
  factor_yields_with =
      either (made any (λ n u. factor_as _ _ (plain_expr-Number n) tt tt))
      (either (made any (λ s u. factor_as _ _ (plain_expr-Text s) tt tt))
      (either (made any (λ at u. factor_as _ _ (plain_expr-Nil at) tt tt))
      (either (made access_yields_with (λ a v. factor_as _ _ (plain_expr-Access a) tt v))
      (either (past (λ name. made actuals_yields_with (λ given v. factor_as _ _ (plain_expr-Call name given) tt (has_actual given v.0, actuals_are given v.1))))
      (either (past (λ at. next c.expression (λ x v. past (λ end. nothing (factor_as _ _ (plain_expr-Inside at x) tt v)))))
      (either (past (λ at. made c.factor (λ x v. factor_as _ _ (plain_expr-Not at x) tt v)))
      (past (λ at. next
      (either
      (all_of (row {P = GoodMember} (next c.expression (λ first v. next (maybe {P = Whole} (past (λ dots. c.expression))) (λ last w. nothing (v, w))))))
      (nothing tt))
      (λ members v. past (λ end. nothing (factor_as _ _ (plain_expr-Set at members) tt (members_are members v))))))))))))

  term_yields : Yields Term (term room b)
  term_yields =
      next factor_yields_with (λ first v. next (repeated (operation_yields IsMultiplying IsFactor multiplying factor_yields_with)) (λ more w. nothing (product_is first more v w)))

  simple_yields : Yields Simple (simple_expression room b)
  simple_yields =
      past (λ sign. next term_yields (λ first v. next (repeated (operation_yields IsAdding IsTerm adding term_yields)) (λ more w. nothing (sum_is sign first more v w))))

  expression_yields_with : Yields Whole (expression_with room b)
  expression_yields_with =
      next simple_yields (λ left v. next (maybe (operation_yields IsRelational IsSimple relational simple_yields)) (λ right w. nothing (relation_is left right v w)))

behind_yields : (room : ℕ) → DeeperYields (behind room)
unfolding behind
behind_yields zero = record { expression = never; factor = never }
behind_yields (suc room) =
    let c = behind_yields room in record { expression = expression_yields_with room (behind room) c; factor = factor_yields_with room (behind room) c }

pub expression_yields : (room : ℕ) → Yields Whole (expression room)
expression_yields room = expression_yields_with room (behind room) (behind_yields room)

pub access_yields : (room : ℕ) → Yields (λ a. IsAccess (plain_access a)) (access room)
access_yields room = access_yields_with room (behind room) (behind_yields room)

pub actuals_yields : (room : ℕ) → Yields (Row GoodActual) (actuals room)
actuals_yields room = actuals_yields_with room (behind room) (behind_yields room)
