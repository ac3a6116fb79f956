-- What the rules of statements read is told by the leaves of the statements that they make.
use Rattle.std.proofs.Common.{◌≡◌, ℕ, zero, suc, List, [], ◌∷◌, ◌++◌, Option, Some, None, map, refl, sym, ap, ◌∙◌, append_assoc}
use Rattle.std.proofs.lemmas.List.{append-nil}
use Rattle.mp_ast.specs.declared.tokens.TokenKind.TheVariants as kind
use Rattle.mp_ast.specs.declared.words.WordSymbol.TheVariants as w
use Rattle.mp_ast.specs.declared.expressions.Access.{Access}
use Rattle.mp_ast.specs.declared.expressions.Expr.{Expr}
use Rattle.mp_ast.specs.declared.statements.ForHead.{ForHead}
use Rattle.mp_ast.specs.declared.statements.Arm.{Arm}
use Rattle.mp_ast.specs.declared.statements.Statement.{Statement}
use Rattle.mp_ast.specs.declared.statements.Statement.TheVariants as t
use Rattle.mp_ast.specs.Rules.{Rule, ◌<|>◌}
use Rattle.mp_ast.specs.StatementGrammar.{Deeper, behind, sequence, arm, else_part, upward, downward, for_head, unlabelled, statement_with}
use Rattle.mp_ast.specs.PlainExpressions.{plain_access}
use Rattle.mp_ast.specs.PlainStatements.{arms_of, plain_head, plain_statement, plain_statements}
use Rattle.mp_ast.specs.Leaves.{Leaf, Mark, leaves_of_constants}
use Rattle.mp_ast.specs.LeavesOfBlocks.{leaves_of_records, leaves_of_head, leaves_of_statement, leaves_of_statements, leaves_of_arms}
use Rattle.mp_ast.proofs.PlainStatementLemmas.{plain_statement-Labelled, plain_statement-Empty, plain_statement-Assign, plain_statement-Call}
use Rattle.mp_ast.proofs.PlainStatementLemmas.{plain_statement-Goto, plain_statement-Compound, plain_statement-If, plain_statement-IfElse, plain_statement-Case}
use Rattle.mp_ast.proofs.PlainStatementLemmas.{plain_statement-While, plain_statement-Repeat, plain_statement-For, plain_statement-With}
use Rattle.mp_ast.proofs.LeavesTold.{Tells, done, never, next, last, ends, closed, either, maybe_leaves, row, silent, maybe_silent, mark, opens, here_tells}
use Rattle.mp_ast.proofs.LeavesTold.{unless_tells, identifier_tells, number_tells, constants_tell}
use Rattle.mp_ast.proofs.LeavesOfExpressions.{expression_leaves, access_leaves, expression_tells, access_tells, actuals_tell}

-- ---- the leaves of trees, by their plain forms

abbrev pub statement_leaves : Statement → List Leaf
statement_leaves x = leaves_of_statement (plain_statement x)

abbrev pub statements_leaves : List Statement → List Leaf
statements_leaves xs = leaves_of_statements (plain_statements xs)

pub sequence_tells : {r : Rule Statement} → Tells r statement_leaves → Tells (sequence r) statements_leaves
sequence_tells c = row statements_leaves refl (λ x xs. refl) (silent refl) c

abbrev arm_leaves : Arm Statement → List Leaf
arm_leaves a = leaves_of_constants a.constants ++ statement_leaves a.body

abbrev arms_leaves : List (Arm Statement) → List Leaf
arms_leaves arms = leaves_of_arms (arms_of plain_statement arms)

arm_tells : {r : Rule Statement} → Tells r statement_leaves → Tells (arm r) arm_leaves
arm_tells c = next (constants_tell (silent refl)) (λ constants. next (silent refl) (λ colon. ends c (λ x. refl)))

one_arm : (a : Arm Statement) (more : List (Arm Statement)) → arm_leaves a ++ arms_leaves more ≡ arms_leaves (a ∷ more)
one_arm a more = append_assoc (leaves_of_constants a.constants) (statement_leaves a.body) (arms_leaves more)

else_tells : {r : Rule Statement} → Tells r statement_leaves → Tells (else_part r) (maybe_leaves statement_leaves)
else_tells c = either (ends {g = statement_leaves} (next (silent refl) (λ word. last c (λ x. refl))) (λ x. refl)) (next unless_tells (λ x. done refl))

abbrev head_leaves : ForHead → List Leaf
head_leaves h = leaves_of_head (plain_head h)

direction_tells : Tells (upward <|> downward) (λ d. [])
direction_tells = either (next (silent refl) (λ word. done refl)) (next (silent refl) (λ word. done refl))

head_tells : {r : Rule Expr} → Tells r expression_leaves → Tells (for_head r) head_leaves
head_tells c =
    next identifier_tells (λ variable. next (mark refl) (λ assign. next c (λ first. next direction_tells (λ direction. ends c (λ last. refl)))))

abbrev records_leaves : List (Access Expr) → List Leaf
records_leaves records = leaves_of_records (map plain_access records)

if_leaves :
    (at : ℕ) (condition : Expr) (first : Statement) (second : Option Statement) →
    Mark at (kind.Word w.If) ∷ (expression_leaves condition ++ (statement_leaves first ++ maybe_leaves statement_leaves second)) ≡
    statement_leaves (t.If at condition first second)
if_leaves at condition first None =
    ap (λ l. Mark at (kind.Word w.If) ∷ (expression_leaves condition ++ l)) (append-nil (statement_leaves first)) ∙
    ap leaves_of_statement (sym (plain_statement-If at condition first))
if_leaves at condition first (Some second) = ap leaves_of_statement (sym (plain_statement-IfElse at condition first second))

case_leaves :
    (at : ℕ) (index : Expr) (arms : List (Arm Statement)) →
    Mark at (kind.Word w.Case) ∷ (expression_leaves index ++ (arms_leaves arms ++ [])) ≡ statement_leaves (t.Case at index arms)
case_leaves at index arms =
    ap (λ l. Mark at (kind.Word w.Case) ∷ (expression_leaves index ++ l)) (append-nil (arms_leaves arms)) ∙
    ap leaves_of_statement (sym (plain_statement-Case at index arms))

-- ---- productions

record DeeperTells (b : Deeper) : Type 0 where
  pub expression : Tells b.expression expression_leaves
  pub access : Tells b.access access_leaves
  pub statement : Tells b.statement statement_leaves

module _ (room : ℕ) (b : Deeper) (c : DeeperTells b) where
  unlabelled_tells : Tells (unlabelled room b) statement_leaves
  unlabelled_tells =
      either (ends here_tells (λ at. ap leaves_of_statement (sym (plain_statement-Empty at))))
      (either
      (next (access_tells room) (λ variable. next (mark refl) (λ at. ends (expression_tells room) (λ value.
      ap leaves_of_statement (sym (plain_statement-Assign variable at value))))))
      (either
      (next identifier_tells (λ name. ends (either (actuals_tell room) (done refl)) (λ given. ap leaves_of_statement (sym (plain_statement-Call name given)))))
      (either
      (next (mark refl) (λ at. ends number_tells (λ label. ap leaves_of_statement (sym (plain_statement-Goto at label)))))
      (either
      (next (opens room (mark refl)) (λ at. closed (sequence_tells c.statement) (silent refl) (λ statements.
      ap leaves_of_statement (sym (plain_statement-Compound at statements)))))
      (either
      (next (opens room (mark refl)) (λ at. next c.expression (λ condition. next (silent refl) (λ word. next c.statement (λ first.
      ends (else_tells c.statement) (λ second. if_leaves at condition first second))))))
      (either
      (next (opens room (mark refl)) (λ at. next c.expression (λ index. next (silent refl) (λ word.
      next (row arms_leaves refl one_arm (silent refl) (arm_tells c.statement)) (λ arms.
      next (maybe_silent refl) (λ semicolon. next (silent refl) (λ end. done (case_leaves at index arms))))))))
      (either
      (next (opens room (mark refl)) (λ at. next c.expression (λ condition. next (silent refl) (λ word. ends c.statement (λ body.
      ap leaves_of_statement (sym (plain_statement-While at condition body)))))))
      (either
      (next (opens room (mark refl)) (λ at. next (sequence_tells c.statement) (λ statements. next (silent refl) (λ word. ends c.expression (λ condition.
      ap leaves_of_statement (sym (plain_statement-Repeat at statements condition)))))))
      (either
      (next (opens room (mark refl)) (λ at. next (head_tells c.expression) (λ head. next (silent refl) (λ word. ends c.statement (λ body.
      ap leaves_of_statement (sym (plain_statement-For at head body)))))))
      (next (opens room (mark refl)) (λ at. next (row records_leaves refl (λ x xs. refl) (silent refl) c.access) (λ records. next (silent refl) (λ word.
      ends c.statement (λ body. ap leaves_of_statement (sym (plain_statement-With at records body))))))))))))))))

  statement_tells_with : Tells (statement_with room b) statement_leaves
  statement_tells_with =
      either unlabelled_tells
      (next number_tells (λ label. next (silent refl) (λ colon. ends unlabelled_tells (λ x. ap leaves_of_statement (sym (plain_statement-Labelled label x))))))

behind_tells : (room : ℕ) → DeeperTells (behind room)
unfolding behind
behind_tells zero = record { expression = never; access = never; statement = never }
behind_tells (suc room) =
    let c = behind_tells room in
    record { expression = expression_tells room; access = access_tells room; statement = statement_tells_with room (behind room) c }

pub sequence_behind_tells : (room : ℕ) → Tells (sequence (behind room).statement) statements_leaves
sequence_behind_tells room = sequence_tells (behind_tells room).statement
