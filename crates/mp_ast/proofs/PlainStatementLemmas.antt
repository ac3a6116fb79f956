-- The plain form of a statement is the plain forms of its parts, put together. Each variant's equation follows from that
-- of the fold; where the parts stand in a list, a fold's `map` over it and the plain form of each are one pass.
use Rattle.std.proofs.Common.{◌≡◌, ℕ, List, [], ◌∷◌, map, None, Some, refl, sym, ap, ◌∙◌}
use Rattle.mp_ast.specs.declared.leaves.Identifier.{Identifier}
use Rattle.mp_ast.specs.declared.leaves.Number.{Number}
use Rattle.mp_ast.specs.declared.expressions.Access.{Access}
use Rattle.mp_ast.specs.declared.expressions.Actual.{Actual}
use Rattle.mp_ast.specs.declared.expressions.Expr.{Expr}
use Rattle.mp_ast.specs.declared.statements.ForHead.{ForHead}
use Rattle.mp_ast.specs.declared.statements.Arm.{Arm}
use Rattle.mp_ast.specs.declared.statements.Statement.{Statement, fold-roll-Statement}
use Rattle.mp_ast.specs.declared.statements.Statement.TheOpen.{Statement-F}
use Rattle.mp_ast.specs.declared.statements.Statement.TheVariants as tree
use Rattle.mp_ast.specs.PlainExpressions.{plain_expr, plain_access, plain_actuals}
use Rattle.mp_ast.specs.PlainStatements as plain
use Rattle.mp_ast.specs.PlainStatements.{PlainStatement, statements_of, arms_of, plain_head, itself, layer_statement, plain_statement, plain_statements}

-- ---- lists of parts, each of which a function changes in the statements in it

module _ {A B : Type 0} (f : A → B) (g : B → PlainStatement) where
  statements_of-map : (h : A → B) → ((s : A) → h s ≡ f s) → (l : List A) → statements_of g (map h l) ≡ statements_of (λ x. g (f x)) l
  statements_of-map h each [] = refl
  statements_of-map h each (s ∷ l) =
      ap (λ t. plain.Sequence (g t) (statements_of g (map h l))) (each s) ∙ ap (plain.Sequence (g (f s))) (statements_of-map h each l)

  arms_of-map :
      (h : Arm A → Arm B) → ((a : Arm A) → h a ≡ record { constants = a.constants; body = f a.body }) →
      (l : List (Arm A)) → arms_of g (map h l) ≡ arms_of (λ x. g (f x)) l
  arms_of-map h each [] = refl
  arms_of-map h each (a ∷ l) =
      ap (λ b. plain.Arm b.constants (g b.body) (arms_of g (map h l))) (each a) ∙ ap (plain.Arm a.constants (g (f a.body))) (arms_of-map h each l)

-- ---- the equations

pub plain_statement-Labelled : (label : Number) (s : Statement) → plain_statement (tree.Labelled label s) ≡ plain.Labelled label (plain_statement s)
unfolding plain_statement
plain_statement-Labelled label s =
    ap plain_statement (sym (tree.rolls-Labelled label s)) ∙ fold-roll-Statement PlainStatement layer_statement (Statement-F.Labelled label s)

pub plain_statement-Empty : (at : ℕ) → plain_statement (tree.Empty at) ≡ plain.Empty at
unfolding plain_statement
plain_statement-Empty at =
    ap plain_statement (sym (tree.rolls-Empty at)) ∙ fold-roll-Statement PlainStatement layer_statement (Statement-F.Empty at)

pub plain_statement-Assign : (variable : Access Expr) (at : ℕ) (value : Expr) → plain_statement (tree.Assign variable at value) ≡
    plain.Assign (plain_access variable) at (plain_expr value)
unfolding plain_statement
plain_statement-Assign variable at value =
    ap plain_statement (sym (tree.rolls-Assign variable at value)) ∙ fold-roll-Statement PlainStatement layer_statement (Statement-F.Assign variable at value)

pub plain_statement-Call : (name : Identifier) (given : List (Actual Expr)) → plain_statement (tree.Call name given) ≡ plain.Call name (plain_actuals given)
unfolding plain_statement
plain_statement-Call name given =
    ap plain_statement (sym (tree.rolls-Call name given)) ∙ fold-roll-Statement PlainStatement layer_statement (Statement-F.Call name given)

pub plain_statement-Goto : (at : ℕ) (label : Number) → plain_statement (tree.Goto at label) ≡ plain.Goto at label
unfolding plain_statement
plain_statement-Goto at label =
    ap plain_statement (sym (tree.rolls-Goto at label)) ∙ fold-roll-Statement PlainStatement layer_statement (Statement-F.Goto at label)

pub plain_statement-Compound : (at : ℕ) (statements : List Statement) → plain_statement (tree.Compound at statements) ≡ plain.Compound at (plain_statements statements)
unfolding plain_statement
plain_statement-Compound at statements =
    ap plain_statement (sym (tree.rolls-Compound at statements)) ∙ fold-roll-Statement PlainStatement layer_statement (Statement-F.Compound at statements) ∙
    ap (plain.Compound at) (statements_of-map plain_statement itself _ (λ _. refl) statements)

pub plain_statement-If : (at : ℕ) (condition : Expr) (first : Statement) → plain_statement (tree.If at condition first None) ≡
    plain.If at (plain_expr condition) (plain_statement first)
unfolding plain_statement
plain_statement-If at condition first =
    ap plain_statement (sym (tree.rolls-If at condition first None)) ∙ fold-roll-Statement PlainStatement layer_statement (Statement-F.If at condition first None)

pub plain_statement-IfElse : (at : ℕ) (condition : Expr) (first second : Statement) → plain_statement (tree.If at condition first (Some second)) ≡
    plain.IfElse at (plain_expr condition) (plain_statement first) (plain_statement second)
unfolding plain_statement
plain_statement-IfElse at condition first second =
    ap plain_statement (sym (tree.rolls-If at condition first (Some second))) ∙
    fold-roll-Statement PlainStatement layer_statement (Statement-F.If at condition first (Some second))

pub plain_statement-Case : (at : ℕ) (index : Expr) (arms : List (Arm Statement)) → plain_statement (tree.Case at index arms) ≡
    plain.Case at (plain_expr index) (arms_of plain_statement arms)
unfolding plain_statement
plain_statement-Case at index arms =
    ap plain_statement (sym (tree.rolls-Case at index arms)) ∙ fold-roll-Statement PlainStatement layer_statement (Statement-F.Case at index arms) ∙
    ap (plain.Case at (plain_expr index)) (arms_of-map plain_statement itself _ (λ _. refl) arms)

pub plain_statement-While : (at : ℕ) (condition : Expr) (body : Statement) → plain_statement (tree.While at condition body) ≡
    plain.While at (plain_expr condition) (plain_statement body)
unfolding plain_statement
plain_statement-While at condition body =
    ap plain_statement (sym (tree.rolls-While at condition body)) ∙ fold-roll-Statement PlainStatement layer_statement (Statement-F.While at condition body)

pub plain_statement-Repeat : (at : ℕ) (statements : List Statement) (condition : Expr) → plain_statement (tree.Repeat at statements condition) ≡
    plain.Repeat at (plain_statements statements) (plain_expr condition)
unfolding plain_statement
plain_statement-Repeat at statements condition =
    ap plain_statement (sym (tree.rolls-Repeat at statements condition)) ∙ fold-roll-Statement PlainStatement layer_statement (Statement-F.Repeat at statements condition) ∙
    ap (λ l. plain.Repeat at l (plain_expr condition)) (statements_of-map plain_statement itself _ (λ _. refl) statements)

pub plain_statement-For : (at : ℕ) (head : ForHead) (body : Statement) → plain_statement (tree.For at head body) ≡ plain.For at (plain_head head) (plain_statement body)
unfolding plain_statement
plain_statement-For at head body =
    ap plain_statement (sym (tree.rolls-For at head body)) ∙ fold-roll-Statement PlainStatement layer_statement (Statement-F.For at head body)

pub plain_statement-With : (at : ℕ) (records : List (Access Expr)) (body : Statement) → plain_statement (tree.With at records body) ≡
    plain.With at (map plain_access records) (plain_statement body)
unfolding plain_statement
plain_statement-With at records body =
    ap plain_statement (sym (tree.rolls-With at records body)) ∙ fold-roll-Statement PlainStatement layer_statement (Statement-F.With at records body)
