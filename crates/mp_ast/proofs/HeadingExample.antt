-- The derivation of `function f(var a, b: c; function q(x: c): c): c`, by its parts from the left.
use Rattle.std.proofs.Common.{inl, refl}
use Rattle.mp_ast.specs.Rules.{no_more}
use Rattle.mp_ast.specs.HeadingGrammar.{formals_behind}
use Rattle.mp_ast.specs.Examples.{HeadingExample}
use Rattle.mp_ast.proofs.ExampleLemmas.{seq, ◌⊳◌, took, nothing, past_1, past_3}

pub heading_example : HeadingExample
unfolding formals_behind
heading_example room = (
  _,
  (past_1 (seq _ _ took
      (seq _ _ took
      (seq _ _ (inl (seq _ _ took
      -- var a, b: c
      (seq _ _ (seq _ _ (past_1 (inl (seq _ _ took (seq _ _ (seq _ _ took (seq _ _ ((seq _ _ took took) ⊳ no_more) nothing)) (seq _ _ (seq _ _ took took) nothing)))))
      (seq _ _ (
      (seq _ _ took
      -- function q(x: c): c
      (past_3 (seq _ _ took
      (seq _ _ took
      (seq _ _ (inl (seq _ _ took
      (seq _ _ (seq _ _ (inl (seq _ _ (seq _ _ took (seq _ _ no_more nothing)) (seq _ _ (seq _ _ took took) nothing)))
      (seq _ _ no_more
      nothing))
      (seq _ _ took
      nothing))))
      (seq _ _ (seq _ _ took took) nothing)))))) ⊳
      no_more)
      nothing))
      (seq _ _ took
      nothing))))
      (seq _ _ (inl (seq _ _ (seq _ _ took took) nothing))
      nothing))))),
  refl,
)
