-- Runs that meet each fault, and the order of the faults of one statement: of two causes the first that evaluation comes to.
-- Faults 5 and 9 of statements stand with the statements, 8 and 10 with variables, 11 and 13 with reading.
use Rattle.std.specs.Prelude.{◌≡◌, ℕ, List, [], ◌∷◌, None, Some, codes, pos, false}
use Rattle.mp_ast.specs.declared.leaves.SignKind.TheVariants as sign
use Rattle.mp_ast.specs.declared.statements.Direction.TheVariants as direction
use Rattle.mp_tables.specs.declared.types.TypeId.{TypeId}
use Rattle.mp_tables.specs.declared.types.TypeId.TheVariants as type
use Rattle.mp_tables.specs.declared.typed_expressions.Check.TheVariants as check
use Rattle.mp_tables.specs.declared.typed_expressions.OrdinalFunction.{OrdinalFunction}
use Rattle.mp_tables.specs.declared.typed_expressions.OrdinalFunction.TheVariants as function
use Rattle.mp_tables.specs.declared.typed_expressions.TypedOperator.TheVariants as operator
use Rattle.mp_tables.specs.declared.typed_statements.FileProcedure.TheVariants as procedure
use Rattle.mp_tables.specs.declared.typed_statements.FrameKind.TheVariants as kind
use Rattle.mp_tables.specs.PlainTypedExpressions.{PlainTypedExpr}
use Rattle.mp_tables.specs.PlainTypedExpressions as expr
use Rattle.mp_tables.specs.PlainTypedStatements.{PlainTypedStatement}
use Rattle.mp_tables.specs.PlainTypedStatements as tree
use Rattle.mp_meaning.specs.Names.{Path}
use Rattle.mp_meaning.specs.Numbers.{least_integer, maxint}
use Rattle.mp_meaning.specs.Forms.{Form, OneCell, FileForm, ArrayForm}
use Rattle.mp_meaning.specs.Steps.{at_step, Standing}
use Rattle.mp_meaning.specs.ExampleTrees.{slot, variable, value_parameter, result, own, located, component, file, number, load, two, assign, assign_within, integer_of_width, write, last, block, inside, of_blocks, of_types, apply, call, faulted, select}

-- ---- program p; var i: integer; begin i := .. end.

abbrev i : List ℕ
i = codes "i"

-- the ending of the run whose one assignment stands at 8
abbrev of_value : PlainTypedExpr → Standing
of_value e = at_step (of_blocks (block [] (variable i ∷ []) 7 (last (assign 8 (own i 0 0) e)) ∷ [])) [] 9

abbrev minus : ℕ → PlainTypedExpr
minus n = expr.Signed sign.Minus (number n)

abbrev applied : OrdinalFunction → ℕ → PlainTypedExpr
applied f n = expr.Apply f (number n)

-- sqr(46341), maxint * 2: fault 1
abbrev pub LargeExample : Type 0
LargeExample =
    (of_value (applied function.Sqr 46341) ≡ faulted 1 8 2 []) ×
    (of_value (two (expr.Ordinal maxint) operator.Multiply (number 2)) ≡ faulted 1 8 2 [])

-- 1 div 0, 1 mod 0, 1 mod (-2): fault 2
abbrev pub DivisorExample : Type 0
DivisorExample =
    (of_value (two (number 1) operator.Div (number 0)) ≡ faulted 2 8 2 []) ×
    (of_value (two (number 1) operator.Mod (number 0)) ≡ faulted 2 8 2 []) ×
    (of_value (two (number 1) operator.Mod (minus 2)) ≡ faulted 2 8 2 [])

-- chr(256), succ(true), pred(false), succ(maxint): fault 6; what they give is assigned by its ordinal number here
abbrev pub NoValueExample : Type 0
NoValueExample =
    (of_value (applied function.Chr 256) ≡ faulted 6 8 2 []) ×
    (of_value (applied (function.Succ (pos 0) (pos 1)) 1) ≡ faulted 6 8 2 []) ×
    (of_value (applied (function.Pred (pos 0) (pos 1)) 0) ≡ faulted 6 8 2 []) ×
    (of_value (expr.Apply (function.Succ least_integer maxint) (expr.Ordinal maxint)) ≡ faulted 6 8 2 [])

-- i := i: fault 9
abbrev pub UndefinedExample : Type 0
UndefinedExample = of_value (load (own i 0 0)) ≡ faulted 9 8 2 []

-- ---- program p; var i: 1..3; begin i := 4 end.

abbrev pub OutsideTypeExample : Type 0
OutsideTypeExample =
    at_step (of_blocks (block [] (variable i ∷ []) 10 (last (assign_within 11 1 3 (own i 0 0) (number 4))) ∷ []))
    [] 9 ≡ faulted 3 11 2 []

-- ---- program p; type s = set of 0..9; var i: s; begin i := [..] end.

abbrev of_members : ℕ → Standing
of_members n =
    at_step (of_blocks (block [] (variable i ∷ []) 16 (last (
    tree.Assign 17 (record { access = own i 0 0; check = check.Members (pos 0) (pos 9); tagging = None })
    (expr.Set (expr.Member (number n) expr.NoMembers)))) ∷ [])) [] 9

-- [256] is fault 15, and [10] in this variable fault 3
abbrev pub MemberExample : Type 0
MemberExample = (of_members 256 ≡ faulted 15 17 2 []) × (of_members 10 ≡ faulted 3 17 2 [])

-- ---- program p; var a: array [1..3] of integer; begin a[..] := .. end.

abbrev array_form : TypeId → Form
array_form (type.Own path at) = ArrayForm 3 OneCell
array_form id = OneCell

abbrev of_index : ℕ → PlainTypedExpr → Standing
of_index n e =
    at_step (of_types array_form (block [] (record (slot (codes "a") kind.Variable (type.Own [] 6)) { cells = 3 } ∷ []) 15 (
    last (assign 16 (component (codes "a") 0 (number n) 1 3) e)) ∷ [])) [] 9

-- a[4] := 1 is fault 4, and a[4] := 1 div 0 too: the variable is formed first
abbrev pub IndexExample : Type 0
IndexExample =
    (of_index 4 (number 1) ≡ faulted 4 16 2 []) × (of_index 4 (two (number 1) operator.Div (number 0)) ≡ faulted 4 16 2 [])

-- ---- program p; var q: ^integer; begin q := nil; q^ := 1 end.

abbrev pub NilExample : Type 0
NilExample =
    at_step (of_blocks (block [] (variable (codes "q") ∷ []) 8 (
    tree.Sequence (tree.Assign 9 (record { access = own (codes "q") 0 0; check = check.Pointer; tagging = None }) expr.Nil)
    (last (assign 13 (select (own (codes "q") 0 0) expr.Follow) (number 1)))) ∷ [])) [] 9 ≡
    faulted 7 13 3 []

-- ---- program p; var i: integer; function f: integer; begin end; begin i := f end.

abbrev silent : Path
silent = inside [] (codes "f")

-- the result is undefined: fault 9 at the statement that calls, after the function has ended
abbrev pub NoResultExample : Type 0
NoResultExample =
    at_step (of_blocks (
    block [] (variable i ∷ []) 13 (last (assign 14 (own i 0 0) (apply silent expr.NoActuals))) ∷
    block silent (result (codes "f") ∷ []) 0 (last (tree.Empty 1)) ∷ [])) [] 9 ≡
    faulted 9 14 4 []

-- ---- program p; procedure q(x: 1..3 ..; y: integer); begin end; begin q(4, 1 div 0) end.

abbrev taking : Path
taking = inside [] (codes "q")

-- a value parameter is tested before the next one is evaluated: fault 3
abbrev pub ParameterExample : Type 0
ParameterExample =
    at_step (of_blocks (
    block [] [] 20 (last (call 21 taking
    (expr.Value (number 4) (check.Range (pos 1) (pos 3))
    (expr.Value (two (number 1) operator.Div (number 0)) (check.Range least_integer maxint) expr.NoActuals)))) ∷
    block taking (value_parameter (codes "x") ∷ value_parameter (codes "y") ∷ []) 0 (last (tree.Empty 1)) ∷ [])) [] 9 ≡
    faulted 3 21 2 []

-- ---- program p; var i: 1..3; begin for i := 4 to 1 div 0 do end.

-- both limits are evaluated before one is tested: fault 2
abbrev pub ForOrderExample : Type 0
ForOrderExample =
    at_step (of_blocks (block [] (variable i ∷ []) 10 (
    last (tree.For 11 (record {
      variable = located i 0 0;
      low = pos 1;
      high = pos 3;
      first = number 4;
      direction = direction.To;
      last = two (number 1) operator.Div (number 0);
    })
    (tree.Empty 20))) ∷ [])) [] 9 ≡
    faulted 2 11 2 []

-- ---- program p(f); var f: text; begin .. end.

abbrev text_form : TypeId → Form
text_form type.Text = FileForm
text_form id = OneCell

abbrev f : List ℕ
f = codes "f"

abbrev with_file : PlainTypedStatement → Standing
with_file s =
    at_step (of_types text_form (block [] (record (slot f kind.Variable type.Text) { cells = 2 } ∷ []) 11 (last s) ∷ [])) [] 9

-- put(f), get(f) and write(f, 1: 1) on a closed file are fault 12, though its buffer is undefined and nothing is left to read;
-- write(f, 1: 0) is fault 14, which comes before
abbrev pub FileStateExample : Type 0
FileStateExample =
    (with_file (tree.Required 12 (tree.File procedure.Put (file f 0))) ≡ faulted 12 12 2 []) ×
    (with_file (tree.Required 12 (tree.File procedure.Get (file f 0))) ≡ faulted 12 12 2 []) ×
    (with_file (tree.Required 12 (tree.Write false (file f 0)
    (integer_of_width (number 1) (Some (number 1)) ∷ []))) ≡ faulted 12 12 2 []) ×
    (with_file (tree.Required 12 (tree.Write false (file f 0)
    (integer_of_width (number 1) (Some (number 0)) ∷ []))) ≡ faulted 14 12 2 [])

-- ---- program p(output); begin write(1: 0) end.

abbrev pub WidthFaultExample : Type 0
WidthFaultExample =
    at_step (of_blocks (block [] [] 6 (last (write 7 (integer_of_width (number 1) (Some (number 0)) ∷ []))) ∷ []))
    [] 9 ≡ faulted 14 7 2 []
