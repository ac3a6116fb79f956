-- The plain form of an expression is the plain forms of its parts, put together. Each variant's equation follows from
-- that of the fold; where the parts stand in a list, a fold's `map` over it and the plain form of each are one pass.
use Rattle.std.proofs.Common.{◌≡◌, ℕ, List, [], ◌∷◌, map, Option, None, Some, refl, sym, ap, ◌∙◌}
use Rattle.mp_ast.specs.declared.leaves.Identifier.{Identifier}
use Rattle.mp_ast.specs.declared.leaves.Number.{Number as NumberLeaf}
use Rattle.mp_ast.specs.declared.leaves.CharacterString.{CharacterString}
use Rattle.mp_ast.specs.declared.leaves.Sign.{Sign}
use Rattle.mp_ast.specs.declared.expressions.Access.{Access}
use Rattle.mp_ast.specs.declared.expressions.Width.{Width}
use Rattle.mp_ast.specs.declared.expressions.Actual.{Actual}
use Rattle.mp_ast.specs.declared.expressions.Member.{Member}
use Rattle.mp_ast.specs.declared.expressions.Operation.{Operation}
use Rattle.mp_ast.specs.declared.expressions.Selector.{Selector}
use Rattle.mp_ast.specs.declared.expressions.Selector.TheVariants as selector
use Rattle.mp_ast.specs.declared.expressions.Expr.{Expr, fold-roll-Expr}
use Rattle.mp_ast.specs.declared.expressions.Expr.TheOpen.{Expr-F}
use Rattle.mp_ast.specs.declared.expressions.Expr.TheVariants as tree
use Rattle.mp_ast.specs.PlainExpressions as plain
use Rattle.mp_ast.specs.PlainExpressions.{PlainExpr, PlainSelectors, PlainActuals, PlainMembers, PlainOperations, with_selector, with_actual, with_member}
use Rattle.mp_ast.specs.PlainExpressions.{selectors_of, actuals_of, members_of, operations_of, itself, layer_expr, plain_expr, plain_actuals}

-- ---- lists of parts, each of which a function changes in the expressions in it

module _ {A B : Type 0} (f : A → B) (g : B → PlainExpr) where
  selectors_of-map :
      (h : Selector A → Selector B) →
      ((at : ℕ) (x : A) → h (selector.Index at x) ≡ selector.Index at (f x)) →
      ((at : ℕ) (name : Identifier) → h (selector.Field at name) ≡ selector.Field at name) →
      ((at : ℕ) → h (selector.Follow at) ≡ selector.Follow at) →
      (l : List (Selector A)) → selectors_of g (map h l) ≡ selectors_of (λ x. g (f x)) l
  selectors_of-map h i n o [] = refl
  selectors_of-map h i n o (selector.Index at x ∷ l) =
      ap (λ s. with_selector g s (selectors_of g (map h l))) (i at x) ∙ ap (plain.Index at (g (f x))) (selectors_of-map h i n o l)
  selectors_of-map h i n o (selector.Field at name ∷ l) =
      ap (λ s. with_selector g s (selectors_of g (map h l))) (n at name) ∙ ap (plain.Field at name) (selectors_of-map h i n o l)
  selectors_of-map h i n o (selector.Follow at ∷ l) =
      ap (λ s. with_selector g s (selectors_of g (map h l))) (o at) ∙ ap (plain.Follow at) (selectors_of-map h i n o l)

  actual-map :
      (h : Actual A → Actual B) →
      ((x : A) → h (record { value = x; width = None }) ≡ record { value = f x; width = None }) →
      ((x : A) (w : Width A) → h (record { value = x; width = Some w }) ≡ record { value = f x; width = Some (record { at = w.at; value = f w.value }) }) →
      (x : A) (w : Option (Width A)) (more : PlainActuals) →
      let a = h (record { value = x; width = w }) in with_actual g a.value a.width more ≡ with_actual (λ x. g (f x)) x w more
  actual-map h one wide x None more = ap (λ a. with_actual g a.value a.width more) (one x)
  actual-map h one wide x (Some w) more = ap (λ a. with_actual g a.value a.width more) (wide x w)

  actuals_of-map :
      (h : Actual A → Actual B) →
      ((x : A) → h (record { value = x; width = None }) ≡ record { value = f x; width = None }) →
      ((x : A) (w : Width A) → h (record { value = x; width = Some w }) ≡ record { value = f x; width = Some (record { at = w.at; value = f w.value }) }) →
      (l : List (Actual A)) → actuals_of g (map h l) ≡ actuals_of (λ x. g (f x)) l
  actuals_of-map h one wide [] = refl
  actuals_of-map h one wide (a ∷ l) =
      actual-map h one wide a.value a.width (actuals_of g (map h l)) ∙ ap (with_actual (λ x. g (f x)) a.value a.width) (actuals_of-map h one wide l)

  member-map :
      (h : Member A → Member B) →
      ((x : A) → h (record { first = x; last = None }) ≡ record { first = f x; last = None }) →
      ((x y : A) → h (record { first = x; last = Some y }) ≡ record { first = f x; last = Some (f y) }) →
      (x : A) (last : Option A) (more : PlainMembers) →
      let m = h (record { first = x; last = last }) in with_member g m.first m.last more ≡ with_member (λ x. g (f x)) x last more
  member-map h one two x None more = ap (λ m. with_member g m.first m.last more) (one x)
  member-map h one two x (Some y) more = ap (λ m. with_member g m.first m.last more) (two x y)

  members_of-map :
      (h : Member A → Member B) →
      ((x : A) → h (record { first = x; last = None }) ≡ record { first = f x; last = None }) →
      ((x y : A) → h (record { first = x; last = Some y }) ≡ record { first = f x; last = Some (f y) }) →
      (l : List (Member A)) → members_of g (map h l) ≡ members_of (λ x. g (f x)) l
  members_of-map h one two [] = refl
  members_of-map h one two (m ∷ l) =
      member-map h one two m.first m.last (members_of g (map h l)) ∙ ap (with_member (λ x. g (f x)) m.first m.last) (members_of-map h one two l)

  operations_of-map :
      (h : Operation A → Operation B) →
      ((o : Operation A) → h o ≡ record { at = o.at; operator = o.operator; operand = f o.operand }) →
      (l : List (Operation A)) → operations_of g (map h l) ≡ operations_of (λ x. g (f x)) l
  operations_of-map h each [] = refl
  operations_of-map h each (o ∷ l) =
      ap (λ o. plain.Operation o.at o.operator (g o.operand) (operations_of g (map h l))) (each o) ∙
      ap (plain.Operation o.at o.operator (g (f o.operand))) (operations_of-map h each l)

-- ---- the equations

pub plain_expr-Number : (n : NumberLeaf) → plain_expr (tree.Number n) ≡ plain.Number n
unfolding plain_expr
plain_expr-Number n =
    ap plain_expr (sym (tree.rolls-Number n)) ∙ fold-roll-Expr PlainExpr layer_expr (Expr-F.Number n)

pub plain_expr-Text : (s : CharacterString) → plain_expr (tree.Text s) ≡ plain.Text s
unfolding plain_expr
plain_expr-Text s =
    ap plain_expr (sym (tree.rolls-Text s)) ∙ fold-roll-Expr PlainExpr layer_expr (Expr-F.Text s)

pub plain_expr-Nil : (at : ℕ) → plain_expr (tree.Nil at) ≡ plain.Nil at
unfolding plain_expr
plain_expr-Nil at =
    ap plain_expr (sym (tree.rolls-Nil at)) ∙ fold-roll-Expr PlainExpr layer_expr (Expr-F.Nil at)

pub plain_expr-Access : (a : Access Expr) → plain_expr (tree.Access a) ≡ plain.Access a.name (selectors_of plain_expr a.selectors)
unfolding plain_expr
plain_expr-Access a =
    ap plain_expr (sym (tree.rolls-Access a)) ∙ fold-roll-Expr PlainExpr layer_expr (Expr-F.Access a) ∙
    ap (plain.Access a.name) (selectors_of-map plain_expr itself _ (λ _ _. refl) (λ _ _. refl) (λ _. refl) a.selectors)

pub plain_expr-Call : (name : Identifier) (given : List (Actual Expr)) → plain_expr (tree.Call name given) ≡ plain.Call name (plain_actuals given)
unfolding plain_expr
plain_expr-Call name given =
    ap plain_expr (sym (tree.rolls-Call name given)) ∙ fold-roll-Expr PlainExpr layer_expr (Expr-F.Call name given) ∙
    ap (plain.Call name) (actuals_of-map plain_expr itself _ (λ _. refl) (λ _ _. refl) given)

pub plain_expr-Inside : (at : ℕ) (x : Expr) → plain_expr (tree.Inside at x) ≡ plain.Inside at (plain_expr x)
unfolding plain_expr
plain_expr-Inside at x =
    ap plain_expr (sym (tree.rolls-Inside at x)) ∙ fold-roll-Expr PlainExpr layer_expr (Expr-F.Inside at x)

pub plain_expr-Not : (at : ℕ) (x : Expr) → plain_expr (tree.Not at x) ≡ plain.Not at (plain_expr x)
unfolding plain_expr
plain_expr-Not at x =
    ap plain_expr (sym (tree.rolls-Not at x)) ∙ fold-roll-Expr PlainExpr layer_expr (Expr-F.Not at x)

pub plain_expr-Set : (at : ℕ) (members : List (Member Expr)) → plain_expr (tree.Set at members) ≡ plain.Set at (members_of plain_expr members)
unfolding plain_expr
plain_expr-Set at members =
    ap plain_expr (sym (tree.rolls-Set at members)) ∙ fold-roll-Expr PlainExpr layer_expr (Expr-F.Set at members) ∙
    ap (plain.Set at) (members_of-map plain_expr itself _ (λ _. refl) (λ _ _. refl) members)

pub plain_expr-Product : (first : Expr) (more : List (Operation Expr)) → plain_expr (tree.Product first more) ≡ plain.Product (plain_expr first) (operations_of plain_expr more)
unfolding plain_expr
plain_expr-Product first more =
    ap plain_expr (sym (tree.rolls-Product first more)) ∙ fold-roll-Expr PlainExpr layer_expr (Expr-F.Product first more) ∙
    ap (plain.Product (plain_expr first)) (operations_of-map plain_expr itself _ (λ _. refl) more)

pub plain_expr-Sum : (sign : Option Sign) (first : Expr) (more : List (Operation Expr)) → plain_expr (tree.Sum sign first more) ≡
    plain.Sum sign (plain_expr first) (operations_of plain_expr more)
unfolding plain_expr
plain_expr-Sum sign first more =
    ap plain_expr (sym (tree.rolls-Sum sign first more)) ∙ fold-roll-Expr PlainExpr layer_expr (Expr-F.Sum sign first more) ∙
    ap (plain.Sum sign (plain_expr first)) (operations_of-map plain_expr itself _ (λ _. refl) more)

pub plain_expr-Relation : (left : Expr) (o : Operation Expr) → plain_expr (tree.Relation left o) ≡ plain.Relation (plain_expr left) o.at o.operator (plain_expr o.operand)
unfolding plain_expr
plain_expr-Relation left o =
    ap plain_expr (sym (tree.rolls-Relation left o)) ∙ fold-roll-Expr PlainExpr layer_expr (Expr-F.Relation left o)
