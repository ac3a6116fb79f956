-- The derivation of `- a[i, j]^.f * (2 + n) <= [1 .. 3, x]`, by its parts from the left.
use Rattle.std.proofs.Common.{inl, refl}
use Rattle.mp_ast.specs.Rules.{no_more}
use Rattle.mp_ast.specs.ExpressionGrammar.{behind}
use Rattle.mp_ast.specs.Examples.{ExpressionExample}
use Rattle.mp_ast.proofs.ExampleLemmas.{seq, ◌⊳◌, took, nothing, past_1, past_2, past_3, past_5, past_7, name_access, name_expression, number_expression}

pub expression_example : ExpressionExample
unfolding behind
expression_example room = (
  _,
  -- -
  (seq _ _ (seq _ _ (inl (seq _ _ (past_1 (seq _ _ took nothing)) nothing))
      -- a[i, j]^.f
      (seq _ _ (seq _ _ (past_3 (inl (seq _ _ (seq _ _ took
      (seq _ _ (seq _ _ (
      -- [i, j]
      (inl (seq _ _ took
      (seq _ _ (name_expression room _ _ _ _)
      (seq _ _ ((seq _ _ took (seq _ _ (name_expression room _ _ _ _) nothing)) ⊳ no_more)
      (seq _ _ took
      nothing))))) ⊳
      -- ^
      (past_2 (seq _ _ took nothing)) ⊳
      -- .f
      (past_1 (inl (seq _ _ took (seq _ _ took nothing)))) ⊳
      no_more)
      nothing)
      nothing))
      nothing)))
      (seq _ _ (
      -- * (2 + n)
      (seq _ _ (inl (seq _ _ took nothing))
      (seq _ _ (past_5 (inl (seq _ _ took
      (seq _ _ (seq _ _ (seq _ _ (past_1 nothing)
      (seq _ _ (seq _ _ (inl (seq _ _ took nothing)) (seq _ _ no_more nothing))
      (seq _ _ (
      (seq _ _ (inl (seq _ _ took nothing))
      (seq _ _ (seq _ _ (past_3 (inl (seq _ _ (name_access room _ _ _ _) nothing))) (seq _ _ no_more nothing))
      nothing)) ⊳
      no_more)
      nothing)))
      (seq _ _ (past_1 nothing)
      nothing))
      (seq _ _ took
      nothing)))))
      nothing)) ⊳
      no_more)
      nothing))
      (seq _ _ no_more
      nothing)))
      (seq _ _ (inl  -- <=
      (seq _ _ (seq _ _ (past_3 (inl (seq _ _ took nothing)))
      (seq _ _ (seq _ _ (past_1 nothing)
      -- [1 .. 3, x]
      (seq _ _ (seq _ _ (past_7 (seq _ _ took
      (seq _ _ (inl (seq _ _ (seq _ _ (number_expression room _ _ _ _)
      (seq _ _ (inl (seq _ _ (seq _ _ took (number_expression room _ _ _ _)) nothing))
      nothing))
      (seq _ _ ((seq _ _ took (seq _ _ (name_expression room _ _ _ _) (seq _ _ (past_1 nothing) nothing))) ⊳ no_more)
      nothing)))
      (seq _ _ took
      nothing))))
      (seq _ _ no_more
      nothing))
      (seq _ _ no_more
      nothing)))
      nothing))
      nothing))
      nothing)),
  refl,
)
