-- What the rules of expressions read is told by the leaves of the expressions that they make.
use Rattle.std.proofs.Common.{◌≡◌, ℕ, zero, suc, List, [], ◌∷◌, ◌++◌, Option, Some, None, refl, sym, ap, ◌∙◌, append_assoc}
use Rattle.std.proofs.lemmas.List.{append-nil}
use Rattle.mp_ast.specs.declared.tokens.TokenKind.TheVariants as kind
use Rattle.mp_ast.specs.declared.symbols.Symbol.TheVariants as s
use Rattle.mp_ast.specs.declared.leaves.Sign.{Sign}
use Rattle.mp_ast.specs.declared.expressions.Operator.{Operator}
use Rattle.mp_ast.specs.declared.expressions.Selector.{Selector}
use Rattle.mp_ast.specs.declared.expressions.Selector.TheVariants as selector
use Rattle.mp_ast.specs.declared.expressions.Access.{Access}
use Rattle.mp_ast.specs.declared.expressions.Actual.{Actual}
use Rattle.mp_ast.specs.declared.expressions.Width.{Width}
use Rattle.mp_ast.specs.declared.expressions.Member.{Member}
use Rattle.mp_ast.specs.declared.expressions.Operation.{Operation}
use Rattle.mp_ast.specs.declared.expressions.Expr.{Expr}
use Rattle.mp_ast.specs.Rules.{Rule}
use Rattle.mp_ast.specs.ExpressionGrammar.{Deeper, behind, relational_operator, adding_operator, multiplying_operator, operation, product, sum, relation}
use Rattle.mp_ast.specs.ExpressionGrammar.{further_index, access_with, actual, actuals_with, member, factor_with, term, simple_expression, expression_with}
use Rattle.mp_ast.specs.ExpressionGrammar.{expression, access, actuals}
use Rattle.mp_ast.specs.PlainExpressions.{selectors_of, with_actual, with_member, members_of, operations_of, plain_expr, plain_access, plain_actuals}
use Rattle.mp_ast.specs.Leaves.{Leaf, Mark, Bracket, Name, operator_kind, leaves_of_sign, leaves_of_expression, leaves_of_selectors, leaves_of_actuals}
use Rattle.mp_ast.specs.Leaves.{leaves_of_members, leaves_of_operations, leaves_of_access}
use Rattle.mp_ast.proofs.PlainExpressionLemmas.{plain_expr-Number, plain_expr-Text, plain_expr-Nil, plain_expr-Access, plain_expr-Call, plain_expr-Inside}
use Rattle.mp_ast.proofs.PlainExpressionLemmas.{plain_expr-Not, plain_expr-Set, plain_expr-Product, plain_expr-Sum, plain_expr-Relation}
use Rattle.mp_ast.proofs.LeavesTold.{Tells, done, never, next, last, ends, closed, either, maybe_leaves, maybe, repeated, repeated_lists, row, silent}
use Rattle.mp_ast.proofs.LeavesTold.{left_bracket_tells, comma_tells, mark, opens, identifier_tells, number_tells, string_tells, sign_tells}

-- ---- the leaves of trees, by their plain forms

abbrev pub expression_leaves : Expr → List Leaf
expression_leaves x = leaves_of_expression (plain_expr x)

abbrev pub access_leaves : Access Expr → List Leaf
access_leaves a = leaves_of_access (plain_access a)

abbrev pub actuals_leaves : List (Actual Expr) → List Leaf
actuals_leaves given = leaves_of_actuals (plain_actuals given)

-- ---- operators

abbrev operator_leaves : ℕ × Operator → List Leaf
operator_leaves o = Mark o.0 (operator_kind o.1) ∷ []

relational : Tells relational_operator operator_leaves
relational =
    either (next (mark refl) (λ at. done refl)) (either (next (mark refl) (λ at. done refl)) (either (next (mark refl) (λ at. done refl))
    (either (next (mark refl) (λ at. done refl))
    (either (next (mark refl) (λ at. done refl)) (either (next (mark refl) (λ at. done refl)) (next (mark refl) (λ at. done refl)))))))

adding : Tells adding_operator operator_leaves
adding = either (next (mark refl) (λ at. done refl)) (either (next (mark refl) (λ at. done refl)) (next (mark refl) (λ at. done refl)))

multiplying : Tells multiplying_operator operator_leaves
multiplying =
    either (next (mark refl) (λ at. done refl)) (either (next (mark refl) (λ at. done refl)) (either (next (mark refl) (λ at. done refl)) (next (mark refl) (λ at. done refl))))

abbrev operation_leaves : Operation Expr → List Leaf
operation_leaves o = Mark o.at (operator_kind o.operator) ∷ expression_leaves o.operand

operation_tells : {o : Rule (ℕ × Operator)} {r : Rule Expr} → Tells o operator_leaves → Tells r expression_leaves → Tells (operation o r) operation_leaves
operation_tells c d = next c (λ o. ends d (λ x. refl))

abbrev operations_leaves : List (Operation Expr) → List Leaf
operations_leaves more = leaves_of_operations (operations_of plain_expr more)

product_leaves : (first : Expr) (more : List (Operation Expr)) → expression_leaves first ++ operations_leaves more ≡ expression_leaves (product first more)
product_leaves first [] = append-nil (expression_leaves first)
product_leaves first (x ∷ more) = ap leaves_of_expression (sym (plain_expr-Product first (x ∷ more)))

sum_leaves :
    (x : Option Sign) (first : Expr) (more : List (Operation Expr)) →
    leaves_of_sign x ++ (expression_leaves first ++ operations_leaves more) ≡ expression_leaves (sum x first more)
sum_leaves None first [] = append-nil (expression_leaves first)
sum_leaves None first (x ∷ more) = ap leaves_of_expression (sym (plain_expr-Sum None first (x ∷ more)))
sum_leaves (Some x) first more = ap leaves_of_expression (sym (plain_expr-Sum (Some x) first more))

relation_leaves : (left : Expr) (right : Option (Operation Expr)) → expression_leaves left ++ maybe_leaves operation_leaves right ≡ expression_leaves (relation left right)
relation_leaves left None = append-nil (expression_leaves left)
relation_leaves left (Some o) = ap leaves_of_expression (sym (plain_expr-Relation left o))

-- ---- selectors

abbrev selector_leaves : Selector Expr → List Leaf
selector_leaves (selector.Index at x) = Bracket at ∷ expression_leaves x
selector_leaves (selector.Field at name) = Mark at (kind.Symbol s.Dot) ∷ Name name ∷ []
selector_leaves (selector.Follow at) = Mark at (kind.Symbol s.Caret) ∷ []

abbrev selectors_leaves : List (Selector Expr) → List Leaf
selectors_leaves xs = leaves_of_selectors (selectors_of plain_expr xs)

one_selector : (x : Selector Expr) (xs : List (Selector Expr)) → selector_leaves x ++ selectors_leaves xs ≡ selectors_leaves (x ∷ xs)
one_selector (selector.Index at x) xs = refl
one_selector (selector.Field at name) xs = refl
one_selector (selector.Follow at) xs = refl

selectors_append : (xs ys : List (Selector Expr)) → selectors_leaves xs ++ selectors_leaves ys ≡ selectors_leaves (xs ++ ys)
selectors_append [] ys = refl
selectors_append (x ∷ xs) ys =
    ap (λ l. l ++ selectors_leaves ys) (sym (one_selector x xs)) ∙
    append_assoc (selector_leaves x) (selectors_leaves xs) (selectors_leaves ys) ∙
    ap (λ l. selector_leaves x ++ l) (selectors_append xs ys) ∙ one_selector x (xs ++ ys)

-- ---- actual parameters and members

abbrev width_leaves : Width Expr → List Leaf
width_leaves w = Mark w.at (kind.Symbol s.Colon) ∷ expression_leaves w.value

abbrev actual_leaves : Expr → Option (Width Expr) → List Leaf
actual_leaves x width = expression_leaves x ++ maybe_leaves width_leaves width

one_actual :
    (x : Expr) (width : Option (Width Expr)) (more : List (Actual Expr)) →
    actual_leaves x width ++ actuals_leaves more ≡ leaves_of_actuals (with_actual plain_expr x width (plain_actuals more))
one_actual x None more = append_assoc (expression_leaves x) [] (actuals_leaves more)
one_actual x (Some w) more = append_assoc (expression_leaves x) (width_leaves w) (actuals_leaves more)

abbrev members_leaves : List (Member Expr) → List Leaf
members_leaves ms = leaves_of_members (members_of plain_expr ms)

abbrev member_leaves : Expr → Option Expr → List Leaf
member_leaves x y = expression_leaves x ++ maybe_leaves expression_leaves y

one_member :
    (x : Expr) (y : Option Expr) (more : List (Member Expr)) →
    member_leaves x y ++ members_leaves more ≡ leaves_of_members (with_member plain_expr x y (members_of plain_expr more))
one_member x None more = append_assoc (expression_leaves x) [] (members_leaves more)
one_member x (Some y) more = append_assoc (expression_leaves x) (expression_leaves y) (members_leaves more)

-- ---- productions

record DeeperTells (b : Deeper) : Type 0 where
  pub expression : Tells b.expression expression_leaves
  pub factor : Tells b.factor expression_leaves

module _ (room : ℕ) (b : Deeper) (c : DeeperTells b) where
  further_tells : Tells (further_index room b) selector_leaves
  further_tells = next comma_tells (λ at. ends c.expression (λ x. refl))

  access_tells_with : Tells (access_with room b) access_leaves
  access_tells_with =
      next identifier_tells (λ name. ends
      (repeated_lists selectors_leaves refl selectors_append
      (either
      (next (opens room left_bracket_tells) (λ at. next c.expression (λ first.
      closed (repeated selectors_leaves refl one_selector further_tells) (silent refl) (λ more. refl))))
      (either
      (next (mark refl) (λ at. ends identifier_tells (λ field. refl)))
      (next (mark refl) (λ at. done refl)))))
      (λ selectors. refl))

  actual_tells : Tells (actual room b) (λ a. actual_leaves a.value a.width)
  actual_tells =
      let width : Tells _ width_leaves = next (mark refl) (λ colon. ends c.expression (λ w. refl)) in
      next c.expression (λ value. ends (maybe width) (λ width. refl))

  actuals_tell_with : Tells (actuals_with room b) actuals_leaves
  actuals_tell_with =
      next (opens room (silent refl)) (λ at.
      closed (row actuals_leaves refl (λ a more. one_actual a.value a.width more) (silent refl) actual_tells) (silent refl) (λ found. refl))

  member_tells : Tells (member room b) (λ m. member_leaves m.first m.last)
  member_tells =
      next c.expression (λ first. ends (maybe {g = expression_leaves} (next (silent refl) (λ dots. last c.expression (λ x. refl)))) (λ y. refl))

  factor_tells_with : Tells (factor_with room b) expression_leaves
  factor_tells_with =
      either (ends number_tells (λ n. ap leaves_of_expression (sym (plain_expr-Number n))))
      (either (ends string_tells (λ x. ap leaves_of_expression (sym (plain_expr-Text x))))
      (either (ends (mark refl) (λ at. ap leaves_of_expression (sym (plain_expr-Nil at))))
      (either (ends access_tells_with (λ a. ap leaves_of_expression (sym (plain_expr-Access a))))
      (either (next identifier_tells (λ name. ends actuals_tell_with (λ given. ap leaves_of_expression (sym (plain_expr-Call name given)))))
      (either (next (opens room (mark refl)) (λ at. closed c.expression (silent refl) (λ x. ap leaves_of_expression (sym (plain_expr-Inside at x)))))
      (either (next (opens room (mark refl)) (λ at. ends c.factor (λ x. ap leaves_of_expression (sym (plain_expr-Not at x)))))
      (next (opens room (mark refl)) (λ at. closed
      (either (row members_leaves refl (λ m more. one_member m.first m.last more) (silent refl) member_tells) (done refl))
      (silent refl) (λ members. ap leaves_of_expression (sym (plain_expr-Set at members)))))))))))

  term_tells : Tells (term room b) expression_leaves
  term_tells =
      next factor_tells_with (λ first.
      ends (repeated operations_leaves refl (λ x xs. refl) (operation_tells multiplying factor_tells_with)) (λ more. product_leaves first more))

  simple_tells : Tells (simple_expression room b) expression_leaves
  simple_tells =
      next sign_tells (λ x. next term_tells (λ first.
      ends (repeated operations_leaves refl (λ x xs. refl) (operation_tells adding term_tells)) (λ more. sum_leaves x first more)))

  expression_tells_with : Tells (expression_with room b) expression_leaves
  expression_tells_with =
      next simple_tells (λ left. ends (maybe (operation_tells relational simple_tells)) (λ right. relation_leaves left right))

behind_tells : (room : ℕ) → DeeperTells (behind room)
unfolding behind
behind_tells zero = record { expression = never; factor = never }
behind_tells (suc room) =
    let c = behind_tells room in record { expression = expression_tells_with room (behind room) c; factor = factor_tells_with room (behind room) c }

pub expression_tells : (room : ℕ) → Tells (expression room) expression_leaves
expression_tells room = expression_tells_with room (behind room) (behind_tells room)

pub access_tells : (room : ℕ) → Tells (access room) access_leaves
access_tells room = access_tells_with room (behind room) (behind_tells room)

pub actuals_tell : (room : ℕ) → Tells (actuals room) actuals_leaves
actuals_tell room = actuals_tell_with room (behind room) (behind_tells room)
