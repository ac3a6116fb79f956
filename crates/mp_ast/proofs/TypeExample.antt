-- The derivation of `packed record a, b: array [c, 1 .. 9] of c; case x: c of 1: (f: ^n); 2: (); end`, by its parts from the
-- left.
use Rattle.std.proofs.Common.{inl, refl}
use Rattle.mp_ast.specs.Rules.{no_more}
use Rattle.mp_ast.specs.TypeGrammar.{behind}
use Rattle.mp_ast.specs.Examples.{TypeExample}
use Rattle.mp_ast.proofs.ExampleLemmas.{seq, ◌⊳◌, took, nothing, past_1, past_2, past_3, number_constant}

pub type_example : TypeExample
unfolding behind
type_example room = (
  _,
  (past_3 (seq _ _ took
      (past_1 (inl (seq _ _ took
      (seq _ _ (inl (seq _ _ (inl (seq _ _ (seq _ _ (seq _ _ (seq _ _ took (seq _ _ ((seq _ _ took took) ⊳ no_more) nothing))
      (seq _ _ took
      -- array [c, 1 .. 9] of c
      (seq _ _ (past_2 (inl (inl (seq _ _ took
      (seq _ _ took
      (seq _ _ (inl (seq _ _ took nothing))
      (seq _ _ (
      (seq _ _ took
      -- 1 .. 9
      (seq _ _ (past_2 (seq _ _ (number_constant _ _ _ _) (seq _ _ took (seq _ _ (number_constant _ _ _ _) nothing))))
      nothing)) ⊳
      no_more)
      (seq _ _ took
      (seq _ _ took
      (seq _ _ (inl (inl (seq _ _ took nothing))) nothing))))))))))
      nothing)))
      (seq _ _ no_more
      nothing))
      (seq _ _ (inl (seq _ _ (seq _ _ took
      -- case x: c of ..
      (seq _ _ took
      (seq _ _ (inl (seq _ _ (seq _ _ took (seq _ _ took nothing)) nothing))
      (seq _ _ took
      (seq _ _ took
      -- 1: (f: ^n)
      (seq _ _ (seq _ _ (seq _ _ (seq _ _ (number_constant _ _ _ _) (seq _ _ no_more nothing))
      (seq _ _ took
      (seq _ _ took
      (seq _ _ (inl (seq _ _ (inl (seq _ _ (seq _ _ (seq _ _ (seq _ _ took (seq _ _ no_more nothing))
      (seq _ _ took
      (seq _ _ (past_1 (inl (seq _ _ took (seq _ _ took nothing))))
      nothing)))
      (seq _ _ no_more
      nothing))
      (seq _ _ (past_1 nothing)
      nothing)))
      (seq _ _ (past_1 nothing)
      nothing)))
      (seq _ _ took
      nothing)))))
      (seq _ _ (
      (seq _ _ took
      -- 2: ()
      (seq _ _ (seq _ _ (number_constant _ _ _ _) (seq _ _ no_more nothing))
      (seq _ _ took
      (seq _ _ took
      (seq _ _ (past_1 nothing)
      (seq _ _ took
      nothing)))))) ⊳
      no_more)
      nothing))
      nothing))))))
      nothing))
      nothing)))
      (seq _ _ (inl (seq _ _ took nothing))
      nothing)))
      (seq _ _ took
      nothing))))))),
  refl,
)
