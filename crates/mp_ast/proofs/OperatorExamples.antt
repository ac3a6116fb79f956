-- The derivations of `a`, an operator, `b`: that of the operator stands among the alternatives of its kind.
use Rattle.std.proofs.Common.{ℕ, ◌+◌, List, ◌∷◌, inl, refl}
use Rattle.mp_ast.specs.declared.tokens.TokenKind.{TokenKind}
use Rattle.mp_ast.specs.declared.expressions.Operator.{Operator}
use Rattle.mp_ast.specs.Rules.{Rule, no_more}
use Rattle.mp_ast.specs.ExpressionGrammar.{relational_operator, adding_operator, multiplying_operator}
use Rattle.mp_ast.specs.ProductionExamples.{Relates, Adds, Multiplies}
use Rattle.mp_ast.proofs.ExampleLemmas.{seq, ◌⊳◌, nothing, past_1, past_3, name_access}

-- the token is the operator
abbrev IsOperator : Rule (ℕ × Operator) → TokenKind → Operator → Type 0
IsOperator r k o =
    (at declared : ℕ) (rest : List TokenKind) →
    r (record { at = at; declared = declared; rest = k ∷ rest }) (at, o) (record { at = at + 1; declared = declared; rest = rest })

pub relates : {k : TokenKind} {o : Operator} → IsOperator relational_operator k o → Relates k o
relates op room = (
  _,
  (seq _ _ (seq _ _ (past_1 nothing) (seq _ _ (seq _ _ (past_3 (inl (seq _ _ (name_access room _ _ _ _) nothing))) (seq _ _ no_more nothing)) (seq _ _ no_more nothing)))
      (seq _ _ (inl
      (seq _ _ (seq _ _ (op _ _ _)
      (seq _ _ (seq _ _ (past_1 nothing) (seq _ _ (seq _ _ (past_3 (inl (seq _ _ (name_access room _ _ _ _) nothing))) (seq _ _ no_more nothing)) (seq _ _ no_more nothing)))
      nothing))
      nothing))
      nothing)),
  refl,
)

pub adds : {k : TokenKind} {o : Operator} → IsOperator adding_operator k o → Adds k o
adds op room = (
  _,
  (seq _ _ (seq _ _ (past_1 nothing) (seq _ _ (seq _ _ (past_3 (inl (seq _ _ (name_access room _ _ _ _) nothing))) (seq _ _ no_more nothing))
      (seq _ _ (
      (seq _ _ (op _ _ _)
      (seq _ _ (seq _ _ (past_3 (inl (seq _ _ (name_access room _ _ _ _) nothing))) (seq _ _ no_more nothing))
      nothing)) ⊳
      no_more)
      nothing)))
      (seq _ _ (past_1 nothing)
      nothing)),
  refl,
)

pub multiplies : {k : TokenKind} {o : Operator} → IsOperator multiplying_operator k o → Multiplies k o
multiplies op room = (
  _,
  (seq _ _ (seq _ _ (past_1 nothing) (seq _ _ (seq _ _ (past_3 (inl (seq _ _ (name_access room _ _ _ _) nothing)))
      (seq _ _ (
      (seq _ _ (op _ _ _)
      (seq _ _ (past_3 (inl (seq _ _ (name_access room _ _ _ _) nothing)))
      nothing)) ⊳
      no_more)
      nothing))
      (seq _ _ no_more
      nothing)))
      (seq _ _ (past_1 nothing)
      nothing)),
  refl,
)
