-- Nothing of an expression is lost in its plain form: it can be made again from that. By induction over the expression;
-- where parts stand in a list, each of them is made again.
use Rattle.std.proofs.Common.{◌≡◌, ℕ, List, [], ◌∷◌, map, Option, None, Some, refl, sym, ap, ◌∙◌, subst}
use Rattle.mp_ast.specs.declared.leaves.Identifier.{Identifier}
use Rattle.mp_ast.specs.declared.expressions.Operator.{Operator}
use Rattle.mp_ast.specs.declared.expressions.Access.{Access}
use Rattle.mp_ast.specs.declared.expressions.Width.{Width}
use Rattle.mp_ast.specs.declared.expressions.Actual.{Actual}
use Rattle.mp_ast.specs.declared.expressions.Member.{Member}
use Rattle.mp_ast.specs.declared.expressions.Operation.{Operation}
use Rattle.mp_ast.specs.declared.expressions.Selector.{Selector}
use Rattle.mp_ast.specs.declared.expressions.Selector.TheVariants as selector
use Rattle.mp_ast.specs.declared.expressions.Expr.{Expr, roll-Expr, map-Expr, ind-Expr}
use Rattle.mp_ast.specs.declared.expressions.Expr.TheOpen.{Expr-F}
use Rattle.mp_ast.specs.declared.expressions.Expr.TheVariants as tree
use Rattle.mp_ast.specs.PlainExpressions as plain
use Rattle.mp_ast.specs.PlainExpressions.{PlainExpr, PlainSelectors, PlainActuals, PlainMembers, PlainOperations, PlainAccess, with_selector, with_actual}
use Rattle.mp_ast.specs.PlainExpressions.{with_member, selectors_of, actuals_of, members_of, operations_of, plain_expr, plain_access, plain_actuals}
use Rattle.mp_ast.proofs.PlainExpressionLemmas.{plain_expr-Number, plain_expr-Text, plain_expr-Nil, plain_expr-Access, plain_expr-Call, plain_expr-Inside}
use Rattle.mp_ast.proofs.PlainExpressionLemmas.{plain_expr-Not, plain_expr-Set, plain_expr-Product, plain_expr-Sum, plain_expr-Relation}

-- ---- from plain data to the trees

abbrev pub access : Identifier → List (Selector Expr) → Access Expr
access name selectors = record { name = name; selectors = selectors }

abbrev actual : Expr → Actual Expr
actual x = record { value = x; width = None }

abbrev wide_actual : Expr → ℕ → Expr → Actual Expr
wide_actual x at w = record { value = x; width = Some (record { at = at; value = w }) }

abbrev member : Expr → Member Expr
member x = record { first = x; last = None }

abbrev member_range : Expr → Expr → Member Expr
member_range x y = record { first = x; last = Some y }

abbrev operation : ℕ → Operator → Expr → Operation Expr
operation at operator x = record { at = at; operator = operator; operand = x }

abbrev mutual
  pub expr_of : PlainExpr → Expr
  expr_of (plain.Number n) = tree.Number n
  expr_of (plain.Text s) = tree.Text s
  expr_of (plain.Nil at) = tree.Nil at
  expr_of (plain.Access name selectors) = tree.Access (access name (selector_list selectors))
  expr_of (plain.Call name given) = tree.Call name (actual_list given)
  expr_of (plain.Inside at x) = tree.Inside at (expr_of x)
  expr_of (plain.Not at x) = tree.Not at (expr_of x)
  expr_of (plain.Set at members) = tree.Set at (member_list members)
  expr_of (plain.Product first more) = tree.Product (expr_of first) (operation_list more)
  expr_of (plain.Sum sign first more) = tree.Sum sign (expr_of first) (operation_list more)
  expr_of (plain.Relation left at operator right) = tree.Relation (expr_of left) (operation at operator (expr_of right))

  pub selector_list : PlainSelectors → List (Selector Expr)
  selector_list plain.NoSelectors = []
  selector_list (plain.Index at x more) = selector.Index at (expr_of x) ∷ selector_list more
  selector_list (plain.Field at name more) = selector.Field at name ∷ selector_list more
  selector_list (plain.Follow at more) = selector.Follow at ∷ selector_list more

  pub actual_list : PlainActuals → List (Actual Expr)
  actual_list plain.NoActuals = []
  actual_list (plain.Actual x more) = actual (expr_of x) ∷ actual_list more
  actual_list (plain.ActualWithWidth x at w more) = wide_actual (expr_of x) at (expr_of w) ∷ actual_list more

  pub member_list : PlainMembers → List (Member Expr)
  member_list plain.NoMembers = []
  member_list (plain.Member x more) = member (expr_of x) ∷ member_list more
  member_list (plain.MemberRange x y more) = member_range (expr_of x) (expr_of y) ∷ member_list more

  pub operation_list : PlainOperations → List (Operation Expr)
  operation_list plain.NoOperations = []
  operation_list (plain.Operation at operator x more) = operation at operator (expr_of x) ∷ operation_list more

-- an expression is made again from its plain form
abbrev pub IsTold : Expr → Type 0
IsTold x = expr_of (plain_expr x) ≡ x

-- ---- lists of parts, each of which is made again

module _ {X : Type 0} (value : X → Expr) (told : (x : X) → IsTold (value x)) where
  pub selectors-told :
      (h : Selector X → Selector Expr) →
      ((at : ℕ) (x : X) → h (selector.Index at x) ≡ selector.Index at (value x)) →
      ((at : ℕ) (name : Identifier) → h (selector.Field at name) ≡ selector.Field at name) →
      ((at : ℕ) → h (selector.Follow at) ≡ selector.Follow at) →
      (l : List (Selector X)) → selector_list (selectors_of plain_expr (map h l)) ≡ map h l
  selectors-told h i n o [] = refl
  selectors-told h i n o (selector.Index at x ∷ l) =
      let more = selectors_of plain_expr (map h l) in
      subst (λ s. selector_list (with_selector plain_expr s more) ≡ s ∷ map h l) (sym (i at x))
      (ap (λ y. selector.Index at y ∷ selector_list more) (told x) ∙ ap (λ r. selector.Index at (value x) ∷ r) (selectors-told h i n o l))
  selectors-told h i n o (selector.Field at name ∷ l) =
      subst (λ s. selector_list (with_selector plain_expr s (selectors_of plain_expr (map h l))) ≡ s ∷ map h l) (sym (n at name))
      (ap (λ r. selector.Field at name ∷ r) (selectors-told h i n o l))
  selectors-told h i n o (selector.Follow at ∷ l) =
      subst (λ s. selector_list (with_selector plain_expr s (selectors_of plain_expr (map h l))) ≡ s ∷ map h l) (sym (o at))
      (ap (λ r. selector.Follow at ∷ r) (selectors-told h i n o l))

  actual-told :
      (h : Actual X → Actual Expr) →
      ((x : X) → h (record { value = x; width = None }) ≡ actual (value x)) →
      ((x : X) (w : Width X) → h (record { value = x; width = Some w }) ≡ wide_actual (value x) w.at (value w.value)) →
      (x : X) (w : Option (Width X)) (more : PlainActuals) (rest : List (Actual Expr)) → actual_list more ≡ rest →
      let a = h (record { value = x; width = w }) in actual_list (with_actual plain_expr a.value a.width more) ≡ a ∷ rest
  actual-told h one wide x None more rest e =
      subst (λ a. actual_list (with_actual plain_expr a.value a.width more) ≡ a ∷ rest) (sym (one x))
      (ap (λ y. actual y ∷ actual_list more) (told x) ∙ ap (λ r. actual (value x) ∷ r) e)
  actual-told h one wide x (Some w) more rest e =
      subst (λ a. actual_list (with_actual plain_expr a.value a.width more) ≡ a ∷ rest) (sym (wide x w))
      (ap (λ y. wide_actual y w.at (expr_of (plain_expr (value w.value))) ∷ actual_list more) (told x) ∙
      ap (λ y. wide_actual (value x) w.at y ∷ actual_list more) (told w.value) ∙
      ap (λ r. wide_actual (value x) w.at (value w.value) ∷ r) e)

  pub actuals-told :
      (h : Actual X → Actual Expr) →
      ((x : X) → h (record { value = x; width = None }) ≡ actual (value x)) →
      ((x : X) (w : Width X) → h (record { value = x; width = Some w }) ≡ wide_actual (value x) w.at (value w.value)) →
      (l : List (Actual X)) → actual_list (actuals_of plain_expr (map h l)) ≡ map h l
  actuals-told h one wide [] = refl
  actuals-told h one wide (a ∷ l) = actual-told h one wide a.value a.width (actuals_of plain_expr (map h l)) (map h l) (actuals-told h one wide l)

  member-told :
      (h : Member X → Member Expr) →
      ((x : X) → h (record { first = x; last = None }) ≡ member (value x)) →
      ((x y : X) → h (record { first = x; last = Some y }) ≡ member_range (value x) (value y)) →
      (x : X) (last : Option X) (more : PlainMembers) (rest : List (Member Expr)) → member_list more ≡ rest →
      let m = h (record { first = x; last = last }) in member_list (with_member plain_expr m.first m.last more) ≡ m ∷ rest
  member-told h one two x None more rest e =
      subst (λ m. member_list (with_member plain_expr m.first m.last more) ≡ m ∷ rest) (sym (one x))
      (ap (λ y. member y ∷ member_list more) (told x) ∙ ap (λ r. member (value x) ∷ r) e)
  member-told h one two x (Some y) more rest e =
      subst (λ m. member_list (with_member plain_expr m.first m.last more) ≡ m ∷ rest) (sym (two x y))
      (ap (λ z. member_range z (expr_of (plain_expr (value y))) ∷ member_list more) (told x) ∙
      ap (λ z. member_range (value x) z ∷ member_list more) (told y) ∙
      ap (λ r. member_range (value x) (value y) ∷ r) e)

  members-told :
      (h : Member X → Member Expr) →
      ((x : X) → h (record { first = x; last = None }) ≡ member (value x)) →
      ((x y : X) → h (record { first = x; last = Some y }) ≡ member_range (value x) (value y)) →
      (l : List (Member X)) → member_list (members_of plain_expr (map h l)) ≡ map h l
  members-told h one two [] = refl
  members-told h one two (m ∷ l) = member-told h one two m.first m.last (members_of plain_expr (map h l)) (map h l) (members-told h one two l)

  operations-told :
      (h : Operation X → Operation Expr) →
      ((o : Operation X) → h o ≡ operation o.at o.operator (value o.operand)) →
      (l : List (Operation X)) → operation_list (operations_of plain_expr (map h l)) ≡ map h l
  operations-told h each [] = refl
  operations-told h each (o ∷ l) =
      subst (λ p. operation p.at p.operator (expr_of (plain_expr p.operand)) ∷ operation_list (operations_of plain_expr (map h l)) ≡ p ∷ map h l) (sym (each o))
      (ap (λ y. operation o.at o.operator y ∷ operation_list (operations_of plain_expr (map h l))) (told o.operand) ∙
      ap (λ r. operation o.at o.operator (value o.operand) ∷ r) (operations-told h each l))

-- ---- expressions, by induction

-- an expression that is told
abbrev Told : Type 0
Told = (x : Expr) × IsTold x

abbrev untold : Told → Expr
untold x = x.0

abbrev told : (x : Told) → IsTold (untold x)
told x = x.1

-- what is a variant that is told
at_variant : (x t : Expr) (p : PlainExpr) → x ≡ t → plain_expr t ≡ p → expr_of p ≡ t → IsTold x
at_variant x t p r e b = ap (λ x. expr_of (plain_expr x)) r ∙ ap expr_of e ∙ b ∙ sym r

node_told : (y : Expr-F Told) → IsTold (roll-Expr (map-Expr Told Expr untold y))
node_told (Expr-F.Number n) = at_variant _ _ _ (tree.rolls-Number n) (plain_expr-Number n) refl
node_told (Expr-F.Text s) = at_variant _ _ _ (tree.rolls-Text s) (plain_expr-Text s) refl
node_told (Expr-F.Nil at) = at_variant _ _ _ (tree.rolls-Nil at) (plain_expr-Nil at) refl
node_told (Expr-F.Access a) =
    at_variant _ _ _ (tree.rolls-Access _) (plain_expr-Access _)
    (ap (λ l. tree.Access (access a.name l)) (selectors-told untold told _ (λ _ _. refl) (λ _ _. refl) (λ _. refl) a.selectors))
node_told (Expr-F.Call name given) =
    at_variant _ _ _ (tree.rolls-Call name _) (plain_expr-Call name _) (ap (tree.Call name) (actuals-told untold told _ (λ _. refl) (λ _ _. refl) given))
node_told (Expr-F.Inside at x) = at_variant _ _ _ (tree.rolls-Inside at x.0) (plain_expr-Inside at x.0) (ap (tree.Inside at) x.1)
node_told (Expr-F.Not at x) = at_variant _ _ _ (tree.rolls-Not at x.0) (plain_expr-Not at x.0) (ap (tree.Not at) x.1)
node_told (Expr-F.Set at members) =
    at_variant _ _ _ (tree.rolls-Set at _) (plain_expr-Set at _) (ap (tree.Set at) (members-told untold told _ (λ _. refl) (λ _ _. refl) members))
node_told (Expr-F.Product first more) =
    at_variant _ _ _ (tree.rolls-Product first.0 _) (plain_expr-Product first.0 _)
    (ap (λ x. tree.Product x _) first.1 ∙ ap (tree.Product first.0) (operations-told untold told _ (λ _. refl) more))
node_told (Expr-F.Sum sign first more) =
    at_variant _ _ _ (tree.rolls-Sum sign first.0 _) (plain_expr-Sum sign first.0 _)
    (ap (λ x. tree.Sum sign x _) first.1 ∙ ap (tree.Sum sign first.0) (operations-told untold told _ (λ _. refl) more))
node_told (Expr-F.Relation left o) =
    at_variant _ _ _ (tree.rolls-Relation left.0 (operation o.at o.operator o.operand.0)) (plain_expr-Relation left.0 (operation o.at o.operator o.operand.0))
    (ap (λ x. tree.Relation x (operation o.at o.operator (expr_of (plain_expr o.operand.0)))) left.1 ∙
    ap (λ x. tree.Relation left.0 (operation o.at o.operator x)) o.operand.1)

pub expr_told : (x : Expr) → IsTold x
expr_told = ind-Expr IsTold (λ x y is. subst (λ z. IsTold (roll-Expr z)) is (node_told y))

pub plain_expr-injective : (s t : Expr) → plain_expr s ≡ plain_expr t → s ≡ t
plain_expr-injective s t e = sym (expr_told s) ∙ ap expr_of e ∙ expr_told t
