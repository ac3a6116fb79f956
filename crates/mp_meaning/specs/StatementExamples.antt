-- Runs of one small program for each kind of statement (ISO 7185, 6.8), worked out by hand. A step is the start of a
-- statement, the statement part of the block among them; ordinals are those of the tokens of the text above each program.
use Rattle.std.specs.Prelude.{◌≡◌, ℕ, List, [], ◌∷◌, Some, codes, pos}
use Rattle.mp_ast.specs.declared.statements.Direction.TheVariants as direction
use Rattle.mp_tables.specs.declared.types.TypeId.{TypeId}
use Rattle.mp_tables.specs.declared.types.TypeId.TheVariants as type
use Rattle.mp_tables.specs.declared.typed_expressions.Root.TheVariants as root
use Rattle.mp_tables.specs.declared.typed_expressions.TypedOperator.TheVariants as operator
use Rattle.mp_tables.specs.declared.typed_expressions.Comparison.TheVariants as relation
use Rattle.mp_tables.specs.declared.typed_statements.FrameKind.TheVariants as kind
use Rattle.mp_tables.specs.PlainTypedExpressions.{PlainTypedExpr, PlainTypedAccess, PlainTypedSelectors}
use Rattle.mp_tables.specs.PlainTypedExpressions as expr
use Rattle.mp_tables.specs.PlainTypedStatements as tree
use Rattle.mp_meaning.specs.Numbers.{least_integer, maxint}
use Rattle.mp_meaning.specs.Forms.{Form, OneCell, RecordForm, Beside, NoForms}
use Rattle.mp_meaning.specs.Programs.{Program}
use Rattle.mp_meaning.specs.Steps.{at_step}
use Rattle.mp_meaning.specs.ExampleTrees.{slot, variable, located, own, number, load, two, compare, assign, integer_of_width, text_of, write, ◌then◌, last, block, of_blocks, of_types, ended, faulted}

abbrev i : List ℕ
i = codes "i"

abbrev read_i : PlainTypedExpr
read_i = load (own i 0 0)

-- ---- program p; begin; begin end end.

abbrev pub empties : Program
empties = of_blocks (block [] [] 3 (tree.Empty 4 then last (tree.Compound 5 (last (tree.Empty 6)))) ∷ [])

abbrev pub EmptyExample : Type 0
EmptyExample = at_step empties [] 9 ≡ ended 4 []

-- ---- program p(output); begin if 1 > 2 then write('a'); write('b') end.

abbrev pub one_branch : Program
one_branch = of_blocks (block [] [] 6 (
    tree.If 7 (compare (number 1) relation.Greater (number 2)) (write 12 (text_of (codes "a") 1 ∷ [])) then
    last (write 17 (text_of (codes "b") 1 ∷ []))) ∷ [])

abbrev pub IfExample : Type 0
IfExample = at_step one_branch [] 9 ≡ ended 3 (codes "b")

-- ---- program p(output); begin case n of 1: write('a'); 2, 3: write('b') end end.

abbrev pub choices : ℕ → Program
choices n = of_blocks (block [] [] 6 (last (tree.Case 7 (number n)
    (tree.Arm (pos 1 ∷ []) (write 12 (text_of (codes "a") 1 ∷ []))
    (tree.Arm (pos 2 ∷ pos 3 ∷ []) (write 21 (text_of (codes "b") 1 ∷ [])) tree.NoArms)))) ∷ [])

-- a value for which there is no constant is fault 5
abbrev pub CaseExample : Type 0
CaseExample = (at_step (choices 3) [] 9 ≡ ended 3 (codes "b")) × (at_step (choices 4) [] 9 ≡ faulted 5 7 2 [])

-- ---- program p(output); var i: integer; begin i := 0; repeat i := i + 1 until i >= 3; write(i: 1) end.

abbrev pub repeated : Program
repeated = of_blocks (block [] (variable i ∷ []) 11 (
    assign 12 (own i 0 0) (number 0) then
    tree.Repeat 16 (last (assign 17 (own i 0 0) (two read_i operator.Add (number 1))))
    (compare read_i relation.GreaterOrEqual (number 3)) then
    last (write 27 (integer_of_width read_i (Some (number 1)) ∷ []))) ∷ [])

abbrev pub RepeatExample : Type 0
RepeatExample = at_step repeated [] 9 ≡ ended 7 (codes "3")

-- ---- program p(output); var i: integer; begin for i := 3 downto 1 do write(i: 1) end.

abbrev pub counted_down : Program
counted_down = of_blocks (block [] (variable i ∷ []) 11 (
    last (tree.For 12 (record {
      variable = located i 0 0;
      low = least_integer;
      high = maxint;
      first = number 3;
      direction =
          direction.Downto;
      last = number 1;
    })
    (write 19 (integer_of_width read_i (Some (number 1)) ∷ [])))) ∷ [])

abbrev pub DowntoExample : Type 0
DowntoExample = at_step counted_down [] 9 ≡ ended 5 (codes "321")

-- ---- program p(output); var i: integer; begin for i := 2 to 1 do; write(i: 1) end.

abbrev pub not_entered : Program
not_entered = of_blocks (block [] (variable i ∷ []) 11 (
    tree.For 12 (record {
      variable = located i 0 0;
      low = least_integer;
      high = maxint;
      first = number 2;
      direction =
          direction.To;
      last = number 1;
    }) (tree.Empty 19) then
    last (write 20 (integer_of_width read_i (Some (number 1)) ∷ []))) ∷ [])

-- the control variable is undefined also where the loop is not entered
abbrev pub NotEnteredExample : Type 0
NotEnteredExample = at_step not_entered [] 9 ≡ faulted 9 20 3 []

-- ---- program p; var i: 1..3; begin for i := 1 to 4 do end.

abbrev pub past_the_type : Program
past_the_type = of_blocks (block [] (variable i ∷ []) 10 (
    last (tree.For 11 (record {
      variable = located i 0 0;
      low = pos 1;
      high = pos 3;
      first = number 1;
      direction = direction.To;
      last = number 4;
    })
    (tree.Empty 18))) ∷ [])

-- the last value is tested before the first turn
abbrev pub ForLimitExample : Type 0
ForLimitExample = at_step past_the_type [] 9 ≡ faulted 3 11 2 []

-- ---- program p(output); var r: record a, b: integer end;
-- begin with r do begin a := 1; b := a + 1 end; write(r.b: 1) end.

abbrev pair_type : TypeId
pair_type = type.Own [] 9

abbrev pair_form : TypeId → Form
pair_form id = RecordForm (Beside OneCell (Beside OneCell NoForms))

abbrev field : (number : ℕ) → List ℕ → PlainTypedSelectors
field number name = expr.Field (record { name = name; slot = number; offset = number; guards = [] }) expr.NoSelectors

abbrev in_opened : (number : ℕ) → List ℕ → PlainTypedAccess
in_opened number name = record { root = root.Opened 0; selectors = field number name }

abbrev in_r : (number : ℕ) → List ℕ → PlainTypedAccess
in_r number name = record { root = root.Own (located (codes "r") 0 0); selectors = field number name }

abbrev pub opened_record : Program
opened_record = of_types pair_form (block [] (record (slot (codes "r") kind.Variable pair_type) { cells = 2 } ∷ []) 17 (
    tree.With 18 0 (own (codes "r") 0 0 ∷ []) (tree.Compound 21 (
    assign 22 (in_opened 0 (codes "a")) (number 1) then
    last (assign 26 (in_opened 1 (codes "b")) (two (load (in_opened 0 (codes "a"))) operator.Add (number 1))))) then
    last (write 33 (integer_of_width (load (in_r 1 (codes "b"))) (Some (number 1)) ∷ []))) ∷ [])

abbrev pub WithExample : Type 0
WithExample = at_step opened_record [] 9 ≡ ended 6 (codes "2")

-- ---- program p(output); label 1; var i: integer;
-- begin i := 0; 1: i := i + 1; if i < 3 then goto 1; write(i: 1) end.

abbrev pub jumps_back : Program
jumps_back = of_blocks (block [] (variable i ∷ []) 14 (
    assign 15 (own i 0 0) (number 0) then
    tree.Labelled 1 (assign 19 (own i 0 0) (two read_i operator.Add (number 1))) then
    tree.If 27 (compare read_i relation.Less (number 3)) (tree.Goto 32 0 1) then
    last (write 35 (integer_of_width read_i (Some (number 1)) ∷ []))) ∷ [])

abbrev pub GotoBackExample : Type 0
GotoBackExample = at_step jumps_back [] 20 ≡ ended 11 (codes "3")

-- ---- program p(output); label 1; var i: integer;
-- begin i := 0; 1: if i < 3 then begin i := i + 1; goto 1 end; write(i: 1) end.

abbrev pub jumps_out_of_itself : Program
jumps_out_of_itself = of_blocks (block [] (variable i ∷ []) 14 (
    assign 15 (own i 0 0) (number 0) then
    tree.Labelled 1 (tree.If 19 (compare read_i relation.Less (number 3)) (tree.Compound 25 (
    assign 26 (own i 0 0) (two read_i operator.Add (number 1)) then
    last (tree.Goto 32 0 1)))) then
    last (write 36 (integer_of_width read_i (Some (number 1)) ∷ []))) ∷ [])

-- a goto may lead to a statement that contains it
abbrev pub GotoAroundExample : Type 0
GotoAroundExample = at_step jumps_out_of_itself [] 30 ≡ ended 16 (codes "3")
