-- Runs of programs with variants, with and without a tag field (ISO 7185, 6.4.3.3, 6.5.3.3), worked out by hand.
use Rattle.std.specs.Prelude.{◌≡◌, ℕ, Bool, true, false, List, [], ◌∷◌, Some, None, codes, pos}
use Rattle.mp_tables.specs.declared.types.TypeId.{TypeId}
use Rattle.mp_tables.specs.declared.types.TypeId.TheVariants as type
use Rattle.mp_tables.specs.declared.typed_expressions.Check.TheVariants as check
use Rattle.mp_tables.specs.declared.typed_statements.FrameKind.TheVariants as kind
use Rattle.mp_tables.specs.PlainTypedExpressions.{PlainTypedAccess, PlainTypedExpr, PlainTypedSelectors}
use Rattle.mp_tables.specs.PlainTypedExpressions as expr
use Rattle.mp_tables.specs.PlainTypedStatements.{PlainTypedStatement, PlainTypedStatements}
use Rattle.mp_tables.specs.PlainTypedStatements as tree
use Rattle.mp_tables.specs.declared.typed_expressions.TypedOperator.TheVariants as operator
use Rattle.mp_meaning.specs.Forms.{Form, OneCell, ArrayForm, RecordForm, Beside, NoForms}
use Rattle.mp_meaning.specs.Steps.{at_step, Standing}
use Rattle.mp_meaning.specs.ExampleTrees.{slot, own, number, load, two, assign, integer_of_width, write, select, ◌then◌, last, block, of_types, ended, faulted}

-- ---- program p(output); var v: record case t: 0..2 of 0: (i: array [1..2] of integer); 1: (c: char) end; begin .. end.
-- The slots are the tag, i and c; `hidden` is the same without the name `t`.

abbrev v : PlainTypedAccess
v = own (codes "v") 0 0

abbrev record_form : TypeId → Form
record_form id = RecordForm (Beside OneCell (Beside (ArrayForm 2 OneCell) (Beside OneCell NoForms)))

abbrev run_of : PlainTypedStatements → Standing
run_of ss = at_step (of_types record_form (block []
    (record (slot (codes "v") kind.Variable (type.Own [] 8)) { cells = 4 } ∷ []) 40 ss ∷ [])) [] 20

abbrev guarded : (hidden : Bool) → (constant : ℕ) → List ℕ → (slot offset : ℕ) → PlainTypedSelectors → PlainTypedSelectors
guarded hidden k name s at more =
    expr.Field (record {
      name = name;
      slot = s;
      offset = at;
      guards =
          record { slot = 0; offset = 0; hidden = hidden; constants = pos k ∷ []; slots = 2; cells = 3 } ∷ [];
    }) more

abbrev in_i : (hidden : Bool) → PlainTypedExpr → PlainTypedAccess
in_i hidden index = select v (λ more. guarded hidden 0 (codes "i") 1 1 (expr.Index index (pos 1) (pos 2) 1 more))

abbrev in_c : (hidden : Bool) → PlainTypedAccess
in_c hidden = select v (guarded hidden 1 (codes "c") 2 3)

abbrev set_tag : ℕ → ℕ → PlainTypedStatement
set_tag at value = tree.Assign at (record {
  access = select v (λ more. expr.Field (record { name = codes "t"; slot = 0; offset = 0; guards = [] }) more);
  check = check.Range (pos 0) (pos 2);
  tagging = Some (record {
    variants = record { constants = pos 0 ∷ [] } ∷ record { constants = pos 1 ∷ [] } ∷ [];
    slots = 2;
    cells = 3;
  });
}) (number value)

abbrev show_i : ℕ → (hidden : Bool) → PlainTypedStatement
show_i at hidden = write at (integer_of_width (load (in_i hidden (number 1))) (Some (number 1)) ∷ [])

-- v.t := 0; v.i[1] := 5; v.t := 0; write(v.i[1]: 1): the same variant is selected, so the field stays
abbrev pub SameVariantExample : Type 0
SameVariantExample =
    run_of (set_tag 41 0 then assign 47 (in_i false (number 1)) (number 5) then set_tag 56 0 then last
    (show_i 62 false)) ≡ ended 5 (codes "5")

-- v.t := 0; v.i[1] := 5; v.t := 1; v.t := 0; write(v.i[1]: 1): another variant was selected in between, so it is undefined
abbrev pub OtherVariantExample : Type 0
OtherVariantExample =
    run_of (set_tag 41 0 then assign 47 (in_i false (number 1)) (number 5) then set_tag 56 1 then set_tag 62 0 then last
    (show_i 68 false)) ≡
    faulted 9 68 6 []

-- v.t := 2; v.i[1] := 5: a value of no variant selects none
abbrev pub NoVariantExample : Type 0
NoVariantExample = run_of (set_tag 41 2 then last (assign 47 (in_i false (number 1)) (number 5))) ≡ faulted 10 47 3 []

-- v.i[1 div 0] := 5: the variant is tested before the index behind it is evaluated, and an undefined tag selects none
abbrev pub VariantOrderExample : Type 0
VariantOrderExample =
    run_of (last (assign 41 (in_i false (two (number 1) operator.Div (number 0))) (number 5))) ≡ faulted 10 41 2 []

-- Without a tag field: v.i[1] := 5; write(v.i[1]: 1); v.c := 'x'; write(v.i[1]: 1). A variable that is set selects its variant,
-- and one that is read does not.
abbrev pub HiddenTagExample : Type 0
HiddenTagExample =
    run_of (
    assign 41 (in_i true (number 1)) (number 5) then
    show_i 50 true then
    tree.Assign 62 (record { access = in_c true; check = check.Range (pos 0) (pos 255); tagging = None }) (number 120) then
    last (show_i 68 true)) ≡
    faulted 10 68 5 (codes "5")
