-- The derivations of the short examples, each by its parts from the left.
use Rattle.std.proofs.Common.{suc, inl, refl}
use Rattle.mp_ast.specs.Rules.{no_more}
use Rattle.mp_ast.specs.ExpressionGrammar.{behind as expressions_behind}
use Rattle.mp_ast.specs.StatementGrammar.{behind as statements_behind}
use Rattle.mp_ast.specs.TypeGrammar.{behind as types_behind}
use Rattle.mp_ast.specs.ProductionExamples.{StringExample, NilExample, SignExample, NotExample, EmptySetExample, FunctionExample, ProcedureExample, GotoExample}
use Rattle.mp_ast.specs.ProductionExamples.{CompoundExample, WhileExample, RepeatExample, ToExample, DowntoExample, WithExample, EnumerationExample}
use Rattle.mp_ast.specs.ProductionExamples.{SignedSubrangeExample, SetExample, PackedSetExample, FileExample, PackedFileExample, PackedArrayExample}
use Rattle.mp_ast.specs.ProductionExamples.{EmptyRecordExample, NoTagExample, ProceduralExample, NoResultExample, PartsExample}
use Rattle.mp_ast.proofs.ExampleLemmas.{seq, ◌⊳◌, took, nothing, next, past_1, past_2, past_3, past_4, past_6, past_7, past_8, past_9, past_10, number_constant}
use Rattle.mp_ast.proofs.ExampleLemmas.{factor_alone, name_access, name_expression}

-- ---- expressions

pub string_example : StringExample
string_example room = (_, factor_alone (suc room) (expressions_behind (suc room)) _ _ _ (past_1 (inl (seq _ _ took nothing))), refl)

pub nil_example : NilExample
nil_example room = (_, factor_alone (suc room) (expressions_behind (suc room)) _ _ _ (past_2 (inl (seq _ _ took nothing))), refl)

pub sign_example : SignExample
sign_example room = (
  _,
  (seq _ _ (seq _ _ (inl (seq _ _ (inl (seq _ _ took nothing)) nothing))
      (seq _ _ (seq _ _ (past_3 (inl (seq _ _ (name_access (suc room) _ _ _ _) nothing))) (seq _ _ no_more nothing))
      (seq _ _ no_more
      nothing)))
      (seq _ _ (past_1 nothing)
      nothing)),
  refl,
)

pub not_example : NotExample
unfolding expressions_behind
not_example room = (
  _,
  factor_alone (suc room) (expressions_behind (suc room)) _ _ _
      (past_6 (inl (seq _ _ took (seq _ _ (past_3 (inl (seq _ _ (name_access room _ _ _ _) nothing))) nothing)))),
  refl,
)

pub empty_set_example : EmptySetExample
empty_set_example room = (_, factor_alone (suc room) (expressions_behind (suc room)) _ _ _ (past_7 (seq _ _ took (seq _ _ (past_1 nothing) (seq _ _ took nothing)))), refl)

pub function_example : FunctionExample
unfolding expressions_behind
function_example room = (
  _,
  factor_alone (suc room) (expressions_behind (suc room)) _ _ _
      (past_4 (inl (seq _ _ took
      (seq _ _ (seq _ _ took
      (seq _ _ (seq _ _ (seq _ _ (name_expression room _ _ _ _) (seq _ _ (past_1 nothing) nothing))
      (seq _ _ (
      (seq _ _ took
      (seq _ _ (name_expression room _ _ _ _) (seq _ _ (inl (seq _ _ (seq _ _ took (seq _ _ (name_expression room _ _ _ _) nothing)) nothing)) nothing))) ⊳
      no_more)
      nothing))
      (seq _ _ took
      nothing)))
      nothing)))),
  refl,
)

-- ---- statements

pub procedure_example : ProcedureExample
unfolding expressions_behind
procedure_example room = (
  _,
  (inl (past_2 (inl (seq _ _ took
      (seq _ _ (inl (seq _ _ took
      (seq _ _ (seq _ _ (seq _ _ (name_expression room _ _ _ _) (seq _ _ (past_1 nothing) nothing))
      (seq _ _ (
      (seq _ _ took
      (seq _ _ (name_expression room _ _ _ _) (seq _ _ (inl (seq _ _ (seq _ _ took (seq _ _ (name_expression room _ _ _ _) nothing)) nothing)) nothing))) ⊳
      no_more)
      nothing))
      (seq _ _ took
      nothing))))
      nothing))))),
  refl,
)

pub goto_example : GotoExample
goto_example room = (_, (inl (past_3 (inl (seq _ _ took (seq _ _ took nothing))))), refl)

pub compound_example : CompoundExample
unfolding statements_behind
compound_example room = (
  _,
  (inl (past_4 (inl (seq _ _ took
      (seq _ _ (seq _ _ (inl (past_2 (inl (seq _ _ took (seq _ _ (past_1 nothing) nothing)))))
      (seq _ _ ((seq _ _ took (inl (past_2 (inl (seq _ _ took (seq _ _ (past_1 nothing) nothing)))))) ⊳ no_more)
      nothing))
      (seq _ _ took
      nothing)))))),
  refl,
)

pub while_example : WhileExample
unfolding statements_behind
while_example room = (
  _,
  (inl (past_7 (inl (seq _ _ took
      (seq _ _ (name_expression room _ _ _ _)
      (seq _ _ took
      (seq _ _ (inl (past_2 (inl (seq _ _ took (seq _ _ (past_1 nothing) nothing)))))
      nothing))))))),
  refl,
)

pub repeat_example : RepeatExample
unfolding statements_behind
repeat_example room = (
  _,
  (inl (past_8 (inl (seq _ _ took
      (seq _ _ (seq _ _ (inl (past_2 (inl (seq _ _ took (seq _ _ (past_1 nothing) nothing)))))
      (seq _ _ ((seq _ _ took (inl (past_2 (inl (seq _ _ took (seq _ _ (past_1 nothing) nothing)))))) ⊳ no_more)
      nothing))
      (seq _ _ took
      (seq _ _ (name_expression room _ _ _ _)
      nothing))))))),
  refl,
)

pub to_example : ToExample
unfolding statements_behind
to_example room = (
  _,
  (inl (past_9 (inl (seq _ _ took
      (seq _ _ (seq _ _ took (seq _ _ took (seq _ _ (name_expression room _ _ _ _) (seq _ _ (inl (seq _ _ took nothing)) (seq _ _ (name_expression room _ _ _ _) nothing)))))
      (seq _ _ took
      (seq _ _ (inl (past_2 (inl (seq _ _ took (seq _ _ (past_1 nothing) nothing)))))
      nothing))))))),
  refl,
)

pub downto_example : DowntoExample
unfolding statements_behind
downto_example room = (
  _,
  (inl (past_9 (inl (seq _ _ took
      (seq _ _ (seq _ _ took (seq _ _ took (seq _ _ (name_expression room _ _ _ _) (seq _ _ (past_1 (seq _ _ took nothing)) (seq _ _ (name_expression room _ _ _ _) nothing)))))
      (seq _ _ took
      (seq _ _ (inl (past_2 (inl (seq _ _ took (seq _ _ (past_1 nothing) nothing)))))
      nothing))))))),
  refl,
)

pub with_example : WithExample
unfolding statements_behind
with_example room = (
  _,
  (inl (past_10 (seq _ _ took
      (seq _ _ (seq _ _ (name_access room _ _ _ _) (seq _ _ ((seq _ _ took (name_access room _ _ _ _)) ⊳ no_more) nothing))
      (seq _ _ took
      (seq _ _ (inl (past_2 (inl (seq _ _ took (seq _ _ (past_1 nothing) nothing)))))
      nothing)))))),
  refl,
)

-- ---- types

pub enumeration_example : EnumerationExample
enumeration_example room = (
  _,
  (inl (past_1 (inl (seq _ _ took (seq _ _ (seq _ _ took (seq _ _ ((seq _ _ took took) ⊳ no_more) nothing)) (seq _ _ took nothing)))))),
  refl,
)

pub signed_subrange_example : SignedSubrangeExample
signed_subrange_example room = (
  _,
  (inl (past_2 (seq _ _ (inl (seq _ _ (inl (seq _ _ (past_1 (seq _ _ took nothing)) nothing)) (inl (seq _ _ took nothing))))
      (seq _ _ took
      (seq _ _ (inl (seq _ _ (inl (seq _ _ (inl (seq _ _ took nothing)) nothing)) (past_1 (seq _ _ took nothing))))
      nothing))))),
  refl,
)

pub set_example : SetExample
set_example room = (_, (past_2 (inl (past_2 (inl (seq _ _ took (seq _ _ took (seq _ _ (inl (seq _ _ took nothing)) nothing))))))), refl)

pub packed_set_example : PackedSetExample
packed_set_example room = (
  _,
  (past_3 (seq _ _ took (past_2 (inl (seq _ _ took (seq _ _ took (seq _ _ (inl (seq _ _ took nothing)) nothing))))))),
  refl,
)

pub file_example : FileExample
unfolding types_behind
file_example room = (_, (past_2 (inl (past_3 (seq _ _ took (seq _ _ took (seq _ _ (inl (inl (seq _ _ took nothing))) nothing)))))), refl)

pub packed_file_example : PackedFileExample
unfolding types_behind
packed_file_example room = (
  _,
  (past_3 (seq _ _ took (past_3 (seq _ _ took (seq _ _ took (seq _ _ (inl (inl (seq _ _ took nothing))) nothing)))))),
  refl,
)

pub packed_array_example : PackedArrayExample
unfolding types_behind
packed_array_example room = (
  _,
  (past_3 (seq _ _ took (inl (seq _ _ took
      (seq _ _ took
      (seq _ _ (inl (seq _ _ took nothing))
      (seq _ _ no_more
      (seq _ _ took
      (seq _ _ took
      (seq _ _ (inl (inl (seq _ _ took nothing)))
      nothing)))))))))),
  refl,
)

pub empty_record_example : EmptyRecordExample
unfolding types_behind
empty_record_example room = (_, (past_2 (inl (past_1 (inl (seq _ _ took (seq _ _ (past_1 nothing) (seq _ _ took nothing))))))), refl)

pub no_tag_example : NoTagExample
unfolding types_behind
no_tag_example room = (
  _,
  (past_2 (inl (past_1 (inl (seq _ _ took
      (seq _ _ (inl (seq _ _ (past_1 (seq _ _ (seq _ _ took
      (seq _ _ (past_1 nothing)
      (seq _ _ took
      (seq _ _ took
      (seq _ _ (seq _ _ (seq _ _ (seq _ _ (number_constant _ _ _ _) (seq _ _ no_more nothing)) (seq _ _ took (seq _ _ took (seq _ _ (past_1 nothing) (seq _ _ took nothing)))))
      (seq _ _ no_more
      nothing))
      nothing)))))
      nothing))
      (seq _ _ (past_1 nothing)
      nothing)))
      (seq _ _ took
      nothing))))))),
  refl,
)

-- ---- headings

pub procedural_example : ProceduralExample
procedural_example room = (
  _,
  (inl (seq _ _ took
      (seq _ _ took
      (seq _ _ (inl (seq _ _ took
      (seq _ _ (seq _ _ (past_2 (inl (seq _ _ took (seq _ _ took (seq _ _ (past_1 nothing) nothing))))) (seq _ _ no_more nothing))
      (seq _ _ took
      nothing))))
      nothing)))),
  refl,
)

pub no_result_example : NoResultExample
no_result_example room = (_, (past_1 (seq _ _ took (seq _ _ took (seq _ _ (past_1 nothing) (seq _ _ (past_1 nothing) nothing))))), refl)

-- ---- parts of a block

pub parts_example : PartsExample
unfolding statements_behind
parts_example openers depth declarations = (
  _,
  (seq _ _ took
      (seq _ _ took
      (seq _ _ (past_1 nothing)
      (seq _ _ took
      -- label 1, 2;
      (seq _ _ (seq _ _ (inl (seq _ _ took (seq _ _ (seq _ _ took (seq _ _ ((seq _ _ took took) ⊳ no_more) nothing)) (seq _ _ took nothing))))
      (seq _ _ (past_1 nothing)
      -- type a = b;
      (seq _ _ (inl (seq _ _ took
      (seq _ _ (seq _ _ took (seq _ _ took (seq _ _ (inl (inl (seq _ _ took nothing))) (seq _ _ took nothing))))
      (seq _ _ no_more
      nothing))))
      (seq _ _ (past_1 nothing)
      (seq _ _ no_more
      -- begin end
      (seq _ _ (seq _ _ took (seq _ _ (seq _ _ (inl (inl (seq _ _ next nothing))) (seq _ _ no_more nothing)) (seq _ _ took nothing)))
      (seq _ _ next
      nothing)))))))
      (seq _ _ took
      (seq _ _ next
      nothing))))))),
  refl,
)
