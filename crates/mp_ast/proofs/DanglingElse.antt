-- No `else` follows a statement that would take it.
use Rattle.std.proofs.Common.{◌≡◌, ◌⊎◌, ℕ, zero, suc, inl, inr, List, ◌∷◌, Option, Some, None, ◌∙◌, subst}
use Rattle.std.specs.Prelude.{◌≢◌}
use Rattle.mp_ast.specs.declared.tokens.TokenKind.{TokenKind}
use Rattle.mp_ast.specs.declared.tokens.TokenKind.TheVariants.{Word}
use Rattle.mp_ast.specs.declared.words.WordSymbol.TheVariants as w
use Rattle.mp_ast.specs.declared.expressions.Expr.{Expr}
use Rattle.mp_ast.specs.declared.statements.Statement.{Statement}
use Rattle.mp_ast.specs.declared.statements.Statement.TheVariants as t
use Rattle.mp_ast.specs.Rules.{Input, Rule, ◌>>=◌, ◌<$>◌, ◌<|>◌, gives, none}
use Rattle.mp_ast.specs.StatementGrammar.{Deeper, behind, else_part, unlabelled, statement_with}
use Rattle.mp_ast.specs.PlainStatements.{PlainStatement, plain_statement}
use Rattle.mp_ast.specs.WellFormed.{TakesElse}
use Rattle.mp_ast.proofs.PlainStatementLemmas.{plain_statement-Labelled, plain_statement-Empty, plain_statement-Assign, plain_statement-Call}
use Rattle.mp_ast.proofs.PlainStatementLemmas.{plain_statement-Goto, plain_statement-Compound, plain_statement-IfElse, plain_statement-Case}
use Rattle.mp_ast.proofs.PlainStatementLemmas.{plain_statement-While, plain_statement-Repeat, plain_statement-For, plain_statement-With}

-- what holds of each tree that a rule gives, and of the tokens behind it
pub record Ends {A : Type 0} (P : A → Input → Type 0) (r : Rule A) : Type 0 where
  pub ends : (i : Input) (x : A) (j : Input) → r i x j → P x j

whole : {A : Type 0} {P : A → Input → Type 0} {x : A} → ((j : Input) → P x j) → Ends P (gives x)
whole {P = P} p = record { ends = λ i y j h. subst (λ z. P z j) h.0 (p j) }

never : {A : Type 0} {P : A → Input → Type 0} → Ends P (none {A = A})
never = record { ends = λ i y j h. elim h [ ] }

past : {A B : Type 0} {P : B → Input → Type 0} {r : Rule A} {s : A → Rule B} → ((x : A) → Ends P (s x)) → Ends P (r >>= s)
past b = record { ends = λ i y j h. (b h.0).ends h.1 y j h.3 }

-- made of what stands last
last :
    {A B : Type 0} {P : A → Input → Type 0} {Q : B → Input → Type 0} {f : A → B} {r : Rule A} →
    Ends P r → ((x : A) (j : Input) → P x j → Q (f x) j) → Ends Q (f <$> r)
last {Q = Q} a b = record {
  ends = λ i y j h. subst (λ k. Q y k) h.3.1 (subst (λ z. Q z h.1) h.3.0 (b h.0 h.1 (a.ends i h.0 h.1 h.2)));
}

either_ends :
    {A : Type 0} {P : A → Input → Type 0} {r s : Rule A} → Ends P r → Ends P s → (i : Input) (x : A) (j : Input) → r i x j ⊎ s i x j → P x j
either_ends a b i x j (inl h) = a.ends i x j h
either_ends a b i x j (inr h) = b.ends i x j h

either : {A : Type 0} {P : A → Input → Type 0} {r s : Rule A} → Ends P r → Ends P s → Ends P (r <|> s)
either a b = record { ends = either_ends a b }

-- ---- statements

abbrev NoElse : Input → Type 0
NoElse j = (kinds : List TokenKind) → j.rest ≢ Word w.Else ∷ kinds

abbrev pub NotTaken : Statement → Input → Type 0
NotTaken s j = TakesElse (plain_statement s) → NoElse j

abbrev SecondNotTaken : Option Statement → Input → Type 0
SecondNotTaken None j = NoElse j
SecondNotTaken (Some s) j = NotTaken s j

-- a statement of a plain tree that takes no `else`
takes_none : (s : Statement) (p : PlainStatement) → plain_statement s ≡ p → (TakesElse p → ⊥) → (j : Input) → NotTaken s j
takes_none s p e v j u = λ kinds d. v (subst TakesElse e u)

if_takes : (at : ℕ) (condition : Expr) (first : Statement) (second : Option Statement) (j : Input) → SecondNotTaken second j → NotTaken (t.If at condition first second) j
if_takes at condition first None j v u = v
if_takes at condition first (Some second) j v u = v (subst TakesElse (plain_statement-IfElse at condition first second) u)

module _ (room : ℕ) (b : Deeper) (c : Ends NotTaken b.statement) where
  else_part_ends : Ends SecondNotTaken (else_part b.statement)
  else_part_ends =
      either (last {P = NotTaken} (past (λ at. c)) (λ s j v. v))
      (record { ends = λ i x j h. subst (λ z. SecondNotTaken z j) h.3.0 (subst NoElse (h.2.1 ∙ h.3.1) h.2.0) })

  unlabelled_ends : Ends NotTaken (unlabelled room b)
  unlabelled_ends =
      either (past (λ at. whole (takes_none _ _ (plain_statement-Empty at) (λ v. v))))
      (either (past (λ variable. past (λ at. past (λ value. whole (takes_none _ _ (plain_statement-Assign variable at value) (λ v. v))))))
      (either (past (λ name. past (λ given. whole (takes_none _ _ (plain_statement-Call name given) (λ v. v)))))
      (either (past (λ at. past (λ label. whole (takes_none _ _ (plain_statement-Goto at label) (λ v. v)))))
      (either (past (λ at. past (λ statements. past (λ end. whole (takes_none _ _ (plain_statement-Compound at statements) (λ v. v))))))
      (either (past (λ at. past (λ condition. past (λ word. past (λ first. last else_part_ends (λ second j v. if_takes at condition first second j v))))))
      (either (past (λ at. past (λ index. past (λ word. past (λ arms. past (λ semicolon. past (λ end. whole (takes_none _ _ (plain_statement-Case at index arms) (λ v. v)))))))))
      (either (past (λ at. past (λ condition. past (λ word. last c (λ body j v u. v (subst TakesElse (plain_statement-While at condition body) u))))))
      (either (past (λ at. past (λ statements. past (λ word. past (λ condition. whole (takes_none _ _ (plain_statement-Repeat at statements condition) (λ v. v)))))))
      (either (past (λ at. past (λ head. past (λ word. last c (λ body j v u. v (subst TakesElse (plain_statement-For at head body) u))))))
      (past (λ at. past (λ records. past (λ word. last c (λ body j v u. v (subst TakesElse (plain_statement-With at records body) u)))))))))))))))

  statement_ends : Ends NotTaken (statement_with room b)
  statement_ends =
      either unlabelled_ends
      (past (λ label. past (λ colon. last unlabelled_ends (λ s j v u. v (subst TakesElse (plain_statement-Labelled label s) u)))))

-- behind an opener: no `else` follows a statement that would take it
pub else_is_taken : (room : ℕ) → Ends NotTaken (behind room).statement
unfolding behind
else_is_taken zero = never
else_is_taken (suc room) = statement_ends room (behind room) (else_is_taken room)
