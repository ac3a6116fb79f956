-- The derivation of `program p(f); const n = -1; procedure q; forward; procedure q; var x: c; begin end; begin q end.`, by its
-- parts from the left.
use Rattle.std.proofs.Common.{ℕ, suc, ◌<◌, inl, refl, arith}
use Rattle.mp_ast.specs.Rules.{no_more}
use Rattle.mp_ast.specs.StatementGrammar.{behind}
use Rattle.mp_ast.specs.BlockGrammar.{nested_block}
use Rattle.mp_ast.specs.Programs.{Derives}
use Rattle.mp_ast.specs.Examples.{program_tokens, program_tree, ProgramExample}
use Rattle.mp_ast.proofs.ExampleLemmas.{seq, ◌⊳◌, took, nothing, next, past_1, past_2}

-- where one opener may stand open, one more block in the program's, and two declarations
within : (openers depth declarations : ℕ) → 0 < declarations → 1 < declarations →
    Derives (record { openers = suc openers; depth = suc depth; declarations = declarations }) program_tokens program_tree
unfolding behind nested_block
within openers depth declarations first second = (
  _,
  (seq _ _ took
      (seq _ _ took
      -- (f)
      (seq _ _ (inl (seq _ _ took (seq _ _ (seq _ _ took (seq _ _ no_more nothing)) (seq _ _ took nothing))))
      (seq _ _ took
      (seq _ _ (seq _ _ (past_1 nothing)
      -- const n = -1;
      (seq _ _ (inl (seq _ _ took
      (seq _ _ (seq _ _ took
      (seq _ _ took
      (seq _ _ (inl (seq _ _ (inl (seq _ _ (past_1 (seq _ _ took nothing)) nothing)) (inl (seq _ _ took nothing))))
      (seq _ _ took
      nothing))))
      (seq _ _ no_more
      nothing))))
      (seq _ _ (past_1 nothing)
      (seq _ _ (past_1 nothing)
      (seq _ _ (
      -- procedure q; forward;
      (seq _ _ (first, refl)
      (seq _ _ (inl (seq _ _ took (seq _ _ took (seq _ _ (past_1 nothing) nothing))))
      (seq _ _ took
      (seq _ _ (inl (seq _ _ took nothing))
      (seq _ _ took
      nothing))))) ⊳
      -- procedure q; ..;
      (seq _ _ (second, refl)
      (seq _ _ (inl (seq _ _ took (seq _ _ took (seq _ _ (past_1 nothing) nothing))))
      (seq _ _ took
      (seq _ _ (past_1 (seq _ _ (
        _,
        (seq _ _ (seq _ _ (past_1 nothing)
            (seq _ _ (past_1 nothing)
            (seq _ _ (past_1 nothing)
            -- var x: c;
            (seq _ _ (inl (seq _ _ took
            (seq _ _ (seq _ _ (seq _ _ (seq _ _ took (seq _ _ no_more nothing)) (seq _ _ took (seq _ _ (inl (inl (seq _ _ took nothing))) nothing)))
            (seq _ _ took
            nothing))
            (seq _ _ no_more
            nothing))))
            (seq _ _ no_more
            -- begin end
            (seq _ _ (seq _ _ took (seq _ _ (seq _ _ (inl (inl (seq _ _ next nothing))) (seq _ _ no_more nothing)) (seq _ _ took nothing)))
            (seq _ _ next
            nothing)))))))
            nothing),
        refl,
      )
      nothing))
      (seq _ _ took
      nothing))))) ⊳
      no_more)
      -- begin q end
      (seq _ _ (seq _ _ took
      (seq _ _ (seq _ _ (inl (past_2 (inl (seq _ _ took (seq _ _ (past_1 nothing) nothing))))) (seq _ _ no_more nothing))
      (seq _ _ took
      nothing)))
      (seq _ _ next
      nothing)))))))
      (seq _ _ took
      (seq _ _ next
      nothing))))))),
  refl,
)

pub program_example : ProgramExample
program_example = within 127 14 4095 (omega arith) (omega arith)
