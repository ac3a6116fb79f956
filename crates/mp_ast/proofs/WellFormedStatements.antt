-- The rules of statements give well-formed ones.
use Rattle.std.proofs.Common.{◌≡◌, ◌⊎◌, inl, inr, ℕ, zero, suc, List, [], ◌∷◌, map, Option, Some, None, sym, subst}
use Rattle.std.specs.List.{AllByRecursion}
use Rattle.mp_ast.specs.declared.tokens.TokenKind.TheVariants.{Word}
use Rattle.mp_ast.specs.declared.words.WordSymbol.TheVariants as w
use Rattle.mp_ast.specs.declared.expressions.Access.{Access}
use Rattle.mp_ast.specs.declared.expressions.Expr.{Expr}
use Rattle.mp_ast.specs.declared.statements.ForHead.{ForHead}
use Rattle.mp_ast.specs.declared.statements.Arm.{Arm}
use Rattle.mp_ast.specs.declared.statements.Statement.{Statement}
use Rattle.mp_ast.specs.declared.statements.Statement.TheVariants as t
use Rattle.mp_ast.specs.Rules.{Input, ◌>>=◌, ◌>>◌, ◌<$>◌, gives, word, not_before}
use Rattle.mp_ast.specs.StatementGrammar.{Deeper, behind, else_part, unlabelled, statement_with, sequence}
use Rattle.mp_ast.specs.PlainExpressions.{plain_expr, plain_access}
use Rattle.mp_ast.specs.PlainStatements.{PlainStatement, arms_of, plain_statement, plain_statements}
use Rattle.mp_ast.specs.WellFormed.{IsSome, IsExpression, IsAccess, AreAccesses, IsUnlabelled, HasStatement, HasArm, TakesElse, IsStatement, AreStatements, AreArms}
use Rattle.mp_ast.proofs.PlainStatementLemmas.{plain_statement-Labelled, plain_statement-Empty, plain_statement-Assign, plain_statement-Call}
use Rattle.mp_ast.proofs.PlainStatementLemmas.{plain_statement-Goto, plain_statement-Compound, plain_statement-If, plain_statement-IfElse, plain_statement-Case}
use Rattle.mp_ast.proofs.PlainStatementLemmas.{plain_statement-While, plain_statement-Repeat, plain_statement-For, plain_statement-With}
use Rattle.mp_ast.proofs.Yielding.{Yields, Any, Row, any, nothing, never, next, past, made, either, row, all_of}
use Rattle.mp_ast.proofs.DanglingElse.{Ends, NotTaken, else_is_taken}
use Rattle.mp_ast.proofs.WellFormedExpressions.{Whole, actuals_are, expression_yields, access_yields, actuals_yields}

abbrev pub Good : Statement → Type 0
Good s = IsStatement (plain_statement s)

abbrev Unlabelled : Statement → Type 0
Unlabelled s = IsUnlabelled (plain_statement s) × IsStatement (plain_statement s)

as_statement : (s : Statement) (p : PlainStatement) → plain_statement s ≡ p → IsUnlabelled p → IsStatement p → Unlabelled s
as_statement s p e v w = (subst IsUnlabelled (sym e) v, subst IsStatement (sym e) w)

-- ---- lists of parts

pub statements_are : (l : List Statement) → AllByRecursion Good l → AreStatements (plain_statements l)
statements_are [] v = tt
statements_are (s ∷ l) v = (v.0, statements_are l v.1)

pub has_statement : (l : List Statement) → IsSome l → HasStatement (plain_statements l)
has_statement [] v = elim v [ ]
has_statement (s ∷ l) v = tt

abbrev GoodArm : Arm Statement → Type 0
GoodArm a = IsSome a.constants × IsStatement (plain_statement a.body)

arms_are : (l : List (Arm Statement)) → AllByRecursion GoodArm l → AreArms (arms_of plain_statement l)
arms_are [] v = tt
arms_are (a ∷ l) v = (v.0.0, v.0.1, arms_are l v.1)

has_arm : (l : List (Arm Statement)) → IsSome l → HasArm (arms_of plain_statement l)
has_arm [] v = elim v [ ]
has_arm (a ∷ l) v = tt

abbrev GoodAccess : Access Expr → Type 0
GoodAccess a = IsAccess (plain_access a)

accesses_are : (l : List (Access Expr)) → AllByRecursion GoodAccess l → AreAccesses (map plain_access l)
accesses_are [] v = tt
accesses_are (a ∷ l) v = (v.0, accesses_are l v.1)

some_access : (l : List (Access Expr)) → IsSome l → IsSome (map plain_access l)
some_access [] v = v
some_access (a ∷ l) v = tt

abbrev GoodHead : ForHead → Type 0
GoodHead h = IsExpression (plain_expr h.first) × IsExpression (plain_expr h.last)

-- an `else` branch, with what tells that no `if` of the first branch takes the `else`
abbrev Second : Statement → Option Statement → Type 0
Second first None = Unit {0}
Second first (Some second) = (TakesElse (plain_statement first) → ⊥) × Good second

if_is :
    (at : ℕ) (condition : Expr) (first : Statement) (second : Option Statement) → Whole condition → Good first → Second first second →
    Unlabelled (t.If at condition first second)
if_is at condition first None v w u = as_statement _ _ (plain_statement-If at condition first) tt (v, w)
if_is at condition first (Some second) v w u = as_statement _ _ (plain_statement-IfElse at condition first second) tt (v, w, u.0, u.1)

-- ---- the rules

record DeeperYields (b : Deeper) : Type 0 where
  pub expression : Yields Whole b.expression
  pub access : Yields GoodAccess b.access
  pub statement : Yields Good b.statement
  pub ends : Ends NotTaken b.statement

module _ (room : ℕ) (b : Deeper) (c : DeeperYields b) where
  second_is :
      (first : Statement) (i : Input) (second : Option Statement) (j : Input) → NotTaken first i →
      (Some <$> (word w.Else >> b.statement)) i second j ⊎ (not_before (Word w.Else) >> gives None) i second j → Second first second
  second_is first i second j v (inl h) =
      subst (Second first) h.3.0 ((λ u. v u h.2.1.rest h.2.2.0), c.statement.yields h.2.1 h.0 h.1 h.2.3)
  second_is first i second j v (inr h) = subst (Second first) h.3.0 tt

  branches_yield :
      (at : ℕ) (condition : Expr) → Whole condition →
      Yields Unlabelled (b.statement >>= (λ first. else_part b.statement >>= (λ second. gives (t.If at condition first second))))
  branches_yield at condition v = record {
    yields = λ i x j h.
        let second = second_is h.0 h.1 h.3.0 h.3.1 (c.ends.ends i h.0 h.1 h.2) h.3.2 in
        subst Unlabelled h.3.3.0 (if_is at condition h.0 h.3.0 v (c.statement.yields i h.0 h.1 h.2) second);
  }

  unlabelled_yields : Yields Unlabelled (unlabelled room b)
  unlabelled_yields =
      either (made any (λ at u. as_statement _ _ (plain_statement-Empty at) tt tt))
      (either (next (access_yields room) (λ variable v. past (λ at. next (expression_yields room) (λ value w.
      nothing (as_statement _ _ (plain_statement-Assign variable at value) tt (v, w))))))
      (either (past (λ name. next (either (all_of (actuals_yields room)) (nothing tt)) (λ given v.
      nothing (as_statement _ _ (plain_statement-Call name given) tt (actuals_are given v)))))
      (either (past (λ at. past (λ label. nothing (as_statement _ _ (plain_statement-Goto at label) tt tt))))
      (either (past (λ at. next (row c.statement) (λ statements v. past (λ end.
      nothing (as_statement _ _ (plain_statement-Compound at statements) tt (has_statement statements v.0, statements_are statements v.1))))))
      (either (past (λ at. next c.expression (λ condition v. past (λ word. branches_yield at condition v))))
      (either (past (λ at. next c.expression (λ index v. past (λ word.
      next (row {P = GoodArm} (next (row {P = Any} any) (λ constants u. past (λ colon. next c.statement (λ body w. nothing (u.0, w)))))) (λ arms w.
      past (λ semicolon. past (λ end.
      nothing (as_statement _ _ (plain_statement-Case at index arms) tt (v, has_arm arms w.0, arms_are arms w.1)))))))))
      (either (past (λ at. next c.expression (λ condition v. past (λ word. next c.statement (λ body w.
      nothing (as_statement _ _ (plain_statement-While at condition body) tt (v, w)))))))
      (either (past (λ at. next (row c.statement) (λ statements v. past (λ word. next c.expression (λ condition w.
      nothing (as_statement _ _ (plain_statement-Repeat at statements condition) tt (has_statement statements v.0, statements_are statements v.1, w)))))))
      (either (past (λ at.
      next {P = GoodHead}
      (past (λ variable. past (λ assign. next c.expression (λ first v. past (λ direction. next c.expression (λ last w. nothing (v, w)))))))
      (λ head v. past (λ word. next c.statement (λ body w.
      nothing (as_statement _ _ (plain_statement-For at head body) tt (v.0, v.1, w)))))))
      (past (λ at. next (row c.access) (λ records v. past (λ word. next c.statement (λ body w.
      nothing (as_statement _ _ (plain_statement-With at records body) tt (some_access records v.0, accesses_are records v.1, w))))))))))))))))

  labelled_is : Yields Good (statement_with room b)
  labelled_is =
      either (record { yields = λ i x j h. (unlabelled_yields.yields i x j h).1 })
      (past (λ label. past (λ colon. made unlabelled_yields (λ s v. subst IsStatement (sym (plain_statement-Labelled label s)) (v.0, v.1)))))

behind_yields : (room : ℕ) → DeeperYields (behind room)
unfolding behind
behind_yields zero = record { expression = never; access = never; statement = never; ends = else_is_taken zero }
behind_yields (suc room) =
    let c = behind_yields room in
    record { expression = expression_yields room; access = access_yields room; statement = labelled_is room (behind room) c; ends = else_is_taken (suc room) }

pub sequence_behind_yields : (room : ℕ) → Yields (Row Good) (sequence (behind room).statement)
sequence_behind_yields room = row (behind_yields room).statement
