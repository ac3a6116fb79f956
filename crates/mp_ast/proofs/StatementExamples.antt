-- The derivations of `if a then if b then p else q` and of `9: case i of 1, 2: x := 1; 'a': ; end`, by their parts from the
-- left.
use Rattle.std.proofs.Common.{suc, inl, refl}
use Rattle.mp_ast.specs.Rules.{no_more}
use Rattle.mp_ast.specs.StatementGrammar.{behind}
use Rattle.mp_ast.specs.Examples.{ElseExample, CaseExample}
use Rattle.mp_ast.proofs.ExampleLemmas.{seq, ◌⊳◌, took, nothing, next, at_end, past_1, past_2, past_5, past_6, name_access, name_expression, number_expression, number_constant}

pub else_example : ElseExample
unfolding behind
else_example room = (
  _,
  (inl (past_5 (inl (seq _ _ took
      (seq _ _ (name_expression (suc room) _ _ _ _)
      (seq _ _ took
      -- if b then p else q
      (seq _ _ (inl (past_5 (inl (seq _ _ took
      (seq _ _ (name_expression room _ _ _ _)
      (seq _ _ took
      (seq _ _ (inl (past_2 (inl (seq _ _ took (seq _ _ (past_1 nothing) nothing)))))
      (seq _ _ (inl (seq _ _ (seq _ _ took (inl (past_2 (inl (seq _ _ took (seq _ _ (past_1 nothing) nothing)))))) nothing))
      nothing))))))))
      (seq _ _ (past_1 (seq _ _ at_end nothing))
      nothing)))))))),
  refl,
)

pub case_example : CaseExample
unfolding behind
case_example room = (
  _,
  (past_1 (seq _ _ took
      (seq _ _ took
      (seq _ _ (past_6 (inl (seq _ _ took
      (seq _ _ (name_expression room _ _ _ _)
      (seq _ _ took
      -- 1, 2: x := 1
      (seq _ _ (seq _ _ (seq _ _ (seq _ _ (number_constant _ _ _ _) (seq _ _ ((seq _ _ took (number_constant _ _ _ _)) ⊳ no_more) nothing))
      (seq _ _ took
      (seq _ _ (inl (past_1 (inl (seq _ _ (name_access room _ _ _ _) (seq _ _ took (seq _ _ (number_expression room _ _ _ _) nothing))))))
      nothing)))
      (seq _ _ (
      (seq _ _ took
      -- 'a':
      (seq _ _ (seq _ _ (past_1 (seq _ _ took nothing)) (seq _ _ no_more nothing))
      (seq _ _ took
      (seq _ _ (inl (inl (seq _ _ next nothing)))
      nothing)))) ⊳
      no_more)
      nothing))
      (seq _ _ (inl (seq _ _ took nothing))
      (seq _ _ took
      nothing))))))))
      nothing)))),
  refl,
)
