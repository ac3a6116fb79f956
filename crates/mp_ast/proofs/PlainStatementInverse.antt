-- Nothing of a statement is lost in its plain form: it can be made again from that. By induction over the statement;
-- where parts stand in a list, each of them is made again.
use Rattle.std.proofs.Common.{◌≡◌, List, [], ◌∷◌, map, None, Some, refl, sym, ap, ◌∙◌, subst}
use Rattle.std.proofs.lemmas.List.{map-id}
use Rattle.mp_ast.specs.declared.leaves.Constant.{Constant}
use Rattle.mp_ast.specs.declared.expressions.Access.{Access}
use Rattle.mp_ast.specs.declared.expressions.Actual.{Actual}
use Rattle.mp_ast.specs.declared.expressions.Selector.{Selector}
use Rattle.mp_ast.specs.declared.expressions.Expr.{Expr}
use Rattle.mp_ast.specs.declared.statements.ForHead.{ForHead}
use Rattle.mp_ast.specs.declared.statements.Arm.{Arm}
use Rattle.mp_ast.specs.declared.statements.Statement.{Statement, roll-Statement, map-Statement, ind-Statement}
use Rattle.mp_ast.specs.declared.statements.Statement.TheOpen.{Statement-F}
use Rattle.mp_ast.specs.declared.statements.Statement.TheVariants as tree
use Rattle.mp_ast.specs.PlainExpressions.{PlainAccess, selectors_of, actuals_of, plain_expr, plain_access, plain_actuals}
use Rattle.mp_ast.specs.PlainStatements as plain
use Rattle.mp_ast.specs.PlainStatements.{PlainStatement, PlainStatements, PlainArms, PlainForHead, statements_of, arms_of, plain_head, plain_statement, plain_statements}
use Rattle.mp_ast.proofs.PlainExpressionInverse.{access, expr_of, selector_list, actual_list, selectors-told, actuals-told, expr_told}
use Rattle.mp_ast.proofs.PlainStatementLemmas.{plain_statement-Labelled, plain_statement-Empty, plain_statement-Assign, plain_statement-Call}
use Rattle.mp_ast.proofs.PlainStatementLemmas.{plain_statement-Goto, plain_statement-Compound, plain_statement-If, plain_statement-IfElse, plain_statement-Case}
use Rattle.mp_ast.proofs.PlainStatementLemmas.{plain_statement-While, plain_statement-Repeat, plain_statement-For, plain_statement-With}

-- ---- variables and actual parameters

same_selectors : (l : List (Selector Expr)) → selector_list (selectors_of plain_expr l) ≡ l
same_selectors l =
    subst (λ k. selector_list (selectors_of plain_expr k) ≡ k) (map-id l)
    (selectors-told (λ x. x) expr_told (λ s. s) (λ _ _. refl) (λ _ _. refl) (λ _. refl) l)

same_actuals : (l : List (Actual Expr)) → actual_list (plain_actuals l) ≡ l
same_actuals l =
    subst (λ k. actual_list (actuals_of plain_expr k) ≡ k) (map-id l)
    (actuals-told (λ x. x) expr_told (λ a. a) (λ _. refl) (λ _ _. refl) l)

abbrev access_of : PlainAccess → Access Expr
access_of a = access a.name (selector_list a.selectors)

same_access : (a : Access Expr) → access_of (plain_access a) ≡ a
same_access a = ap (access a.name) (same_selectors a.selectors)

same_accesses : (l : List (Access Expr)) → map access_of (map plain_access l) ≡ l
same_accesses [] = refl
same_accesses (a ∷ l) = ap (λ b. b ∷ map access_of (map plain_access l)) (same_access a) ∙ ap (λ r. a ∷ r) (same_accesses l)

-- ---- from plain data to the trees

abbrev head_of : PlainForHead → ForHead
head_of h =
    record { variable = h.variable; assign = h.assign; first = expr_of h.first; direction = h.direction; last = expr_of h.last }

abbrev head_with : ForHead → Expr → Expr → ForHead
head_with h first last = record { variable = h.variable; assign = h.assign; first = first; direction = h.direction; last = last }

same_head : (h : ForHead) → head_of (plain_head h) ≡ h
same_head h = ap (λ x. head_with h x (expr_of (plain_expr h.last))) (expr_told h.first) ∙ ap (head_with h h.first) (expr_told h.last)

abbrev arm : List Constant → Statement → Arm Statement
arm constants body = record { constants = constants; body = body }

abbrev mutual
  pub statement_of : PlainStatement → Statement
  statement_of (plain.Labelled label s) = tree.Labelled label (statement_of s)
  statement_of (plain.Empty at) = tree.Empty at
  statement_of (plain.Assign variable at value) = tree.Assign (access_of variable) at (expr_of value)
  statement_of (plain.Call name given) = tree.Call name (actual_list given)
  statement_of (plain.Goto at label) = tree.Goto at label
  statement_of (plain.Compound at statements) = tree.Compound at (statement_list statements)
  statement_of (plain.If at condition first) = tree.If at (expr_of condition) (statement_of first) None
  statement_of (plain.IfElse at condition first second) = tree.If at (expr_of condition) (statement_of first) (Some (statement_of second))
  statement_of (plain.Case at index arms) = tree.Case at (expr_of index) (arm_list arms)
  statement_of (plain.While at condition body) = tree.While at (expr_of condition) (statement_of body)
  statement_of (plain.Repeat at statements condition) = tree.Repeat at (statement_list statements) (expr_of condition)
  statement_of (plain.For at head body) = tree.For at (head_of head) (statement_of body)
  statement_of (plain.With at records body) = tree.With at (map access_of records) (statement_of body)

  pub statement_list : PlainStatements → List Statement
  statement_list plain.NoStatements = []
  statement_list (plain.Sequence s more) = statement_of s ∷ statement_list more

  pub arm_list : PlainArms → List (Arm Statement)
  arm_list plain.NoArms = []
  arm_list (plain.Arm constants body more) = arm constants (statement_of body) ∷ arm_list more

-- a statement is made again from its plain form
abbrev pub IsTold : Statement → Type 0
IsTold s = statement_of (plain_statement s) ≡ s

-- ---- lists of parts, each of which is made again

module _ {X : Type 0} (value : X → Statement) (told : (x : X) → IsTold (value x)) where
  pub statements-told : (h : X → Statement) → ((x : X) → h x ≡ value x) → (l : List X) → statement_list (plain_statements (map h l)) ≡ map h l
  statements-told h each [] = refl
  statements-told h each (x ∷ l) =
      subst (λ s. statement_of (plain_statement s) ∷ statement_list (plain_statements (map h l)) ≡ s ∷ map h l) (sym (each x))
      (ap (λ s. s ∷ statement_list (plain_statements (map h l))) (told x) ∙ ap (λ r. value x ∷ r) (statements-told h each l))

  arms-told :
      (h : Arm X → Arm Statement) → ((a : Arm X) → h a ≡ arm a.constants (value a.body)) →
      (l : List (Arm X)) → arm_list (arms_of plain_statement (map h l)) ≡ map h l
  arms-told h each [] = refl
  arms-told h each (a ∷ l) =
      subst (λ b. arm b.constants (statement_of (plain_statement b.body)) ∷ arm_list (arms_of plain_statement (map h l)) ≡ b ∷ map h l) (sym (each a))
      (ap (λ s. arm a.constants s ∷ arm_list (arms_of plain_statement (map h l))) (told a.body) ∙
      ap (λ r. arm a.constants (value a.body) ∷ r) (arms-told h each l))

-- ---- statements, by induction

-- a statement that is told
abbrev Told : Type 0
Told = (s : Statement) × IsTold s

abbrev untold : Told → Statement
untold s = s.0

abbrev told : (s : Told) → IsTold (untold s)
told s = s.1

-- what is a variant that is told
at_variant : (s t : Statement) (p : PlainStatement) → s ≡ t → plain_statement t ≡ p → statement_of p ≡ t → IsTold s
at_variant s t p r e b = ap (λ x. statement_of (plain_statement x)) r ∙ ap statement_of e ∙ b ∙ sym r

node_told : (y : Statement-F Told) → IsTold (roll-Statement (map-Statement Told Statement untold y))
node_told (Statement-F.Labelled label s) =
    at_variant _ _ _ (tree.rolls-Labelled label s.0) (plain_statement-Labelled label s.0) (ap (tree.Labelled label) s.1)
node_told (Statement-F.Empty at) = at_variant _ _ _ (tree.rolls-Empty at) (plain_statement-Empty at) refl
node_told (Statement-F.Assign variable at value) =
    at_variant _ _ _ (tree.rolls-Assign variable at value) (plain_statement-Assign variable at value)
    (ap (λ a. tree.Assign a at (expr_of (plain_expr value))) (same_access variable) ∙ ap (tree.Assign variable at) (expr_told value))
node_told (Statement-F.Call name given) =
    at_variant _ _ _ (tree.rolls-Call name given) (plain_statement-Call name given) (ap (tree.Call name) (same_actuals given))
node_told (Statement-F.Goto at label) = at_variant _ _ _ (tree.rolls-Goto at label) (plain_statement-Goto at label) refl
node_told (Statement-F.Compound at statements) =
    at_variant _ _ _ (tree.rolls-Compound at _) (plain_statement-Compound at _) (ap (tree.Compound at) (statements-told untold told _ (λ _. refl) statements))
node_told (Statement-F.If at condition first None) =
    at_variant _ _ _ (tree.rolls-If at condition first.0 None) (plain_statement-If at condition first.0)
    (ap (λ x. tree.If at x (statement_of (plain_statement first.0)) None) (expr_told condition) ∙ ap (λ s. tree.If at condition s None) first.1)
node_told (Statement-F.If at condition first (Some second)) =
    at_variant _ _ _ (tree.rolls-If at condition first.0 (Some second.0)) (plain_statement-IfElse at condition first.0 second.0)
    (ap (λ x. tree.If at x (statement_of (plain_statement first.0)) (Some (statement_of (plain_statement second.0)))) (expr_told condition) ∙
    ap (λ s. tree.If at condition s (Some (statement_of (plain_statement second.0)))) first.1 ∙
    ap (λ s. tree.If at condition first.0 (Some s)) second.1)
node_told (Statement-F.Case at index arms) =
    at_variant _ _ _ (tree.rolls-Case at index _) (plain_statement-Case at index _)
    (ap (λ x. tree.Case at x _) (expr_told index) ∙ ap (tree.Case at index) (arms-told untold told _ (λ _. refl) arms))
node_told (Statement-F.While at condition body) =
    at_variant _ _ _ (tree.rolls-While at condition body.0) (plain_statement-While at condition body.0)
    (ap (λ x. tree.While at x (statement_of (plain_statement body.0))) (expr_told condition) ∙ ap (tree.While at condition) body.1)
node_told (Statement-F.Repeat at statements condition) =
    at_variant _ _ _ (tree.rolls-Repeat at _ condition) (plain_statement-Repeat at _ condition)
    (ap (λ l. tree.Repeat at l (expr_of (plain_expr condition))) (statements-told untold told _ (λ _. refl) statements) ∙ ap (tree.Repeat at _) (expr_told condition))
node_told (Statement-F.For at head body) =
    at_variant _ _ _ (tree.rolls-For at head body.0) (plain_statement-For at head body.0)
    (ap (λ h. tree.For at h (statement_of (plain_statement body.0))) (same_head head) ∙ ap (tree.For at head) body.1)
node_told (Statement-F.With at records body) =
    at_variant _ _ _ (tree.rolls-With at records body.0) (plain_statement-With at records body.0)
    (ap (λ l. tree.With at l (statement_of (plain_statement body.0))) (same_accesses records) ∙ ap (tree.With at records) body.1)

pub statement_told : (s : Statement) → IsTold s
statement_told = ind-Statement IsTold (λ x y is. subst (λ z. IsTold (roll-Statement z)) is (node_told y))

pub same_statements : (l : List Statement) → statement_list (plain_statements l) ≡ l
same_statements l =
    subst (λ k. statement_list (plain_statements k) ≡ k) (map-id l) (statements-told (λ s. s) statement_told (λ s. s) (λ _. refl) l)

pub plain_statement-injective : (s t : Statement) → plain_statement s ≡ plain_statement t → s ≡ t
plain_statement-injective s t e = sym (statement_told s) ∙ ap statement_of e ∙ statement_told t
