-- Runs of statements with two causes of an ending: the first in the order of evaluation counts. And the places of faults.
use Rattle.std.specs.Prelude.{◌≡◌, ℕ, Bool, true, false, List, [], ◌∷◌, Option, Some, None, codes, pos, replicate, nat_eq}
use Rattle.mp_ast.specs.declared.statements.Direction.TheVariants as direction
use Rattle.mp_tables.specs.declared.types.TypeId.{TypeId}
use Rattle.mp_tables.specs.declared.types.TypeId.TheVariants as type
use Rattle.mp_tables.specs.declared.typed_expressions.Check.{Check}
use Rattle.mp_tables.specs.declared.typed_expressions.Check.TheVariants as check
use Rattle.mp_tables.specs.declared.typed_expressions.Comparison.TheVariants as relation
use Rattle.mp_tables.specs.declared.typed_expressions.Root.TheVariants as root
use Rattle.mp_tables.specs.declared.typed_expressions.Sort.TheVariants as sort
use Rattle.mp_tables.specs.declared.typed_expressions.TypedOperator.TheVariants as operator
use Rattle.mp_tables.specs.declared.typed_statements.FileProcedure.TheVariants as procedure
use Rattle.mp_tables.specs.declared.typed_statements.FrameKind.TheVariants as kind
use Rattle.mp_tables.specs.declared.typed_statements.ReadSort.TheVariants as reads
use Rattle.mp_tables.specs.declared.typed_statements.WriteSort.TheVariants as writes
use Rattle.mp_tables.specs.PlainTypedExpressions.{PlainTypedAccess, PlainTypedExpr, PlainTypedMembers}
use Rattle.mp_tables.specs.PlainTypedExpressions as expr
use Rattle.mp_tables.specs.PlainTypedStatements.{PlainTypedBlock, PlainTypedStatement, PlainTypedStatements, PlainWriting, PlainPacking}
use Rattle.mp_tables.specs.PlainTypedStatements as tree
use Rattle.mp_meaning.specs.Names.{Path, same_path}
use Rattle.mp_meaning.specs.Numbers.{least_integer, maxint}
use Rattle.mp_meaning.specs.Forms.{Form, OneCell, FileForm, ArrayForm, RecordForm, Beside, NoForms}
use Rattle.mp_meaning.specs.Programs.{Program}
use Rattle.mp_meaning.specs.Configurations.{Configuration}
use Rattle.mp_meaning.specs.Values.{Reference, Undefined, cleared}
use Rattle.mp_meaning.specs.Outcomes.{Outcome, Fault}
use Rattle.mp_meaning.specs.FileCalls.{write_bytes}
use Rattle.mp_meaning.specs.RequiredProcedures.{make, pack, unpack}
use Rattle.mp_meaning.specs.Calls.{must_have_room}
use Rattle.mp_meaning.specs.Steps.{at_step, before_program, Standing, Ends, MetHole}
use Rattle.mp_meaning.specs.LimitExamples.{limit_of, someone}
use Rattle.mp_meaning.specs.ExampleTrees.{slot, variable, value_parameter, located, own, input, component, file, number, load, two, compare, integers, assign, integer_of_width, ◌then◌, last, block, inside, of_blocks, of_types, call, ended, faulted}

-- ---- program p(input, output); var i: integer; a: array [1..3] of integer; f: text; z: packed array [1..2] of char;
-- begin .. end. The types of a and z begin at 10 and 20.

abbrev form : TypeId → Form
form type.Text = FileForm
form (type.Own path at) = elim (nat_eq at 10) as (λ is. Form) [ true ↦ ArrayForm 3 OneCell | false ↦ ArrayForm 2 OneCell ]
form id = OneCell

abbrev run_of : List ℕ → PlainTypedStatements → Standing
run_of input ss =
    at_step (of_types form (block [] (
    variable (codes "i") ∷
    record (slot (codes "a") kind.Variable (type.Own [] 10)) { cells = 3 } ∷
    record (slot (codes "f") kind.Variable type.Text) { cells = 2 } ∷
    record (slot (codes "z") kind.Variable (type.Own [] 20)) { cells = 2 } ∷ []) 40 ss ∷ [])) input 20

-- the ending of a program with this one statement, which stands at 41
abbrev of_one : PlainTypedStatement → Standing
of_one s = run_of [] (last s)

abbrev i : PlainTypedAccess
i = own (codes "i") 0 0

abbrev f : PlainTypedAccess
f = file (codes "f") 4

-- 1 div 0
abbrev no_quotient : PlainTypedExpr
no_quotient = two (number 1) operator.Div (number 0)

abbrev set_to : PlainTypedExpr → Standing
set_to e = of_one (assign 41 i e)

-- i + 1 div 0 with i undefined is fault 9, 1 div 0 + i is fault 2; (1 > 2) and (1 div 0 = 1) evaluates both
abbrev pub OperandsExample : Type 0
OperandsExample =
    (set_to (two (load i) operator.Add no_quotient) ≡ faulted 9 41 2 []) ×
    (set_to (two no_quotient operator.Add (load i)) ≡ faulted 2 41 2 []) ×
    (set_to (two (compare (number 1) relation.Greater (number 2)) operator.And
    (compare no_quotient relation.Equal (number 1))) ≡ faulted 2 41 2 [])

abbrev in_set : PlainTypedMembers → Standing
in_set members = set_to (expr.In (number 1) (expr.Set members))

-- members are tested one by one; 300 is in no set, and [300..1] has no member
abbrev pub MembersExample : Type 0
MembersExample =
    (in_set (expr.Member (number 300) (expr.Member no_quotient expr.NoMembers)) ≡ faulted 15 41 2 []) ×
    (in_set (expr.Member no_quotient (expr.Member (number 300) expr.NoMembers)) ≡ faulted 2 41 2 []) ×
    (set_to (expr.In (number 300) (expr.Set (expr.MemberRange (number 300) (number 1) expr.NoMembers))) ≡ ended 2 [])

-- for i := first to last do;
abbrev for_loop : (at : ℕ) → (first last : PlainTypedExpr) → PlainTypedStatement
for_loop at first last = tree.For at (record {
  variable = located (codes "i") 0 0;
  low = least_integer;
  high = maxint;
  first = first;
  direction = direction.To;
  last = last;
}) (tree.Empty 50)

-- for i := 1 div 0 to i: the first value comes first; i := 3; for i := 1 to i do makes three turns, since both values are
-- evaluated before the variable is set
abbrev pub ForFirstExample : Type 0
ForFirstExample =
    (of_one (for_loop 41 no_quotient (load i)) ≡ faulted 2 41 2 []) ×
    (run_of [] (assign 41 i (number 3) then last (for_loop 45 (number 1) (load i))) ≡ ended 6 [])

-- for i := 1 to 2 do; i := i: the control variable is undefined after the last turn
abbrev pub AfterForExample : Type 0
AfterForExample =
    run_of [] (for_loop 41 (number 1) (number 2) then last (assign 51 i (load i))) ≡ faulted 9 51 5 []

-- i := 1; while 1 div i > 0 do i := i - 1: the test of the second turn stands at the loop
abbrev pub LaterTestExample : Type 0
LaterTestExample =
    run_of [] (
    assign 41 i (number 1) then
    last (tree.While 45 (compare (two (number 1) operator.Div (load i)) relation.Greater (number 0))
    (assign 53 i (two (load i) operator.Subtract (number 1))))) ≡
    faulted 2 45 4 []

-- ---- read and write

abbrev read_into : PlainTypedAccess → PlainTypedAccess → Check → PlainTypedStatement
read_into from a test =
    tree.Required 41 (tree.Read false from (record
    { of = reads.Integer; target = record { access = a; check = test; tagging = None } } ∷ []))

-- read(f, a[4]) is fault 4 before 12; of input, x is no number, 9999999999 too large, and 9 no value of 1..3
abbrev pub ReadOrderExample : Type 0
ReadOrderExample =
    (of_one (read_into f (component (codes "a") 1 (number 4) 1 3) integers) ≡ faulted 4 41 2 []) ×
    (run_of (codes "-") (last (read_into input i integers)) ≡ faulted 13 41 2 []) ×
    (run_of (codes "9999999999") (last (read_into input i integers)) ≡ faulted 1 41 2 []) ×
    (run_of (codes "9") (last (read_into input i (check.Range (pos 1) (pos 3)))) ≡ faulted 3 41 2 [])

abbrev write_to : PlainWriting → Standing
write_to w = of_one (tree.Required 41 (tree.Write false f (w ∷ [])))

abbrev z_of_width : ℕ → PlainWriting
z_of_width n =
    record {
      of = writes.Text 2;
      value = expr.Load (sort.Block 2) (root.Own (located (codes "z") 0 6)) expr.NoSelectors;
      width =
          Some (number n);
    }

-- f is closed: the value comes before the width, this before an undefined character, this before a width that is too small,
-- and all before the state of the file
abbrev pub WriteOrderExample : Type 0
WriteOrderExample =
    (write_to (integer_of_width no_quotient (Some (load i))) ≡ faulted 2 41 2 []) ×
    (write_to (record (z_of_width 0) { width = Some no_quotient }) ≡ faulted 2 41 2 []) ×
    (write_to (z_of_width 0) ≡ faulted 9 41 2 []) ×
    (write_to (integer_of_width (number 1) (Some (number 0))) ≡ faulted 14 41 2 []) ×
    (write_to (integer_of_width (number 1) None) ≡ faulted 12 41 2 [])

-- rewrite(f); put(f): the buffer is undefined; get(f) and eoln(f) of a file in writing are of the wrong state
abbrev pub PutOrderExample : Type 0
PutOrderExample =
    (run_of [] (tree.Required 41 (tree.File procedure.Rewrite f) then last
    (tree.Required 46 (tree.File procedure.Put f))) ≡ faulted 9 46 3 []) ×
    (run_of [] (tree.Required 41 (tree.File procedure.Rewrite f) then last
    (tree.Required 46 (tree.File procedure.Get f))) ≡ faulted 12 46 3 [])

-- ---- program p; var q: ^r; begin new(q); with q^ do begin dispose(q); .. end end, where r is record s: 1..3 end

abbrev q : PlainTypedAccess
q = own (codes "q") 0 0

abbrev record_form : TypeId → Form
record_form (type.Own path at) = RecordForm (Beside OneCell NoForms)
record_form id = OneCell

abbrev q_value : PlainTypedExpr
q_value = expr.Load sort.Pointer q.root q.selectors

abbrev in_record : PlainTypedAccess
in_record = record {
  root = root.Opened 0;
  selectors = expr.Field
      (record { name = codes "s"; slot = 0; offset = 0; guards = [] }) expr.NoSelectors;
}

abbrev dispose_q : ℕ → PlainTypedStatement
dispose_q at = tree.Required at (tree.Dispose q_value)

abbrev with_object : PlainTypedStatement → Standing
with_object s =
    at_step (of_types record_form (block [] (variable (codes "q") ∷ []) 20 (
    tree.Required 21 (tree.New q (type.Own [] 9) 1) then
    last (tree.With 26 0 (record { root = q.root; selectors = expr.Follow expr.NoSelectors } ∷ []) (tree.Compound 30 (
    dispose_q 31 then last s)))) ∷ [])) [] 20

abbrev set_s : ℕ → PlainTypedStatement
set_s n = tree.Assign 36 (record { access = in_record; check = check.Range (pos 1) (pos 3); tagging = None }) (number n)

-- s := 4 is fault 3, s := 1 fault 8: the value is tested before it is stored; new(s) is fault 8, and a second dispose too
abbrev pub DisposedOrderExample : Type 0
DisposedOrderExample =
    (with_object (set_s 4) ≡ faulted 3 36 6 []) ×
    (with_object (set_s 1) ≡ faulted 8 36 6 []) ×
    (with_object (tree.Required 36 (tree.New in_record (type.Own [] 9) 1)) ≡ faulted 8 36 6 []) ×
    (with_object (dispose_q 36) ≡ faulted 8 36 6 [])

-- dispose(q) with q undefined is fault 9, dispose(nil) fault 7
abbrev pub DisposeOrderExample : Type 0
DisposeOrderExample =
    (at_step (of_blocks (block [] (variable (codes "q") ∷ []) 10 (last (dispose_q 11)) ∷ [])) [] 9 ≡ faulted 9 11 2 []) ×
    (at_step (of_blocks (block [] [] 4 (last (tree.Required 5 (tree.Dispose expr.Nil))) ∷ [])) [] 9 ≡ faulted 7 5 2 [])

-- ---- calls

abbrev large : Path
large = inside [] (codes "q")

-- program p; procedure q(n: 1..3); var a: array [integer] of char; begin end; begin q(n) end, where q may be closed
abbrev calls_large : (closed : Bool) → (n : ℕ) → Program
calls_large closed n = record (of_blocks (
    block [] [] 20 (last (call 21 large (expr.Value (number n) (check.Range (pos 1) (pos 3)) expr.NoActuals))) ∷
    block large (value_parameter (codes "n") ∷ record (slot (codes "a") kind.Variable (type.Own large 1)) { cells = 1000000 } ∷
    []) 0 (last (tree.Empty 1)) ∷ [])) {
      is_closed = λ path. elim closed as (λ c. Bool) [ true ↦ same_path large path | false ↦ false ];
      form = λ id. elim id as (λ t. Form) [
        | type.Integer ↦ OneCell
        | type.Boolean ↦ OneCell
        | type.Char ↦ OneCell
        | type.Text ↦ FileForm
        | type.Own path at ↦ ArrayForm 4294967295 OneCell
      ];
    }

-- the parameter is tested before the hole, and the hole comes before limit 2
abbrev pub HoleOrderExample : Type 0
HoleOrderExample =
    (at_step (calls_large true 4) [] 9 ≡ faulted 3 21 2 []) ×
    (at_step (calls_large true 1) [] 9 ≡ Ends (MetHole large (record { path = []; ordinal = 21 })) 2 [])

abbrev with_live : ℕ → Configuration
with_live n = record (before_program [] 9) { activations = replicate n someone }

-- where both limits are passed, limit 1 comes first
abbrev pub LimitOrderExample : Type 0
LimitOrderExample = (limit_of (must_have_room 0 1000000 (with_live 4096)) ≡ Some 1) ×
    (limit_of (must_have_room 0 1000000 (with_live 4095)) ≡ Some 2)

-- ---- single actions, where a run would be long

abbrev start : Configuration
start = before_program [] 9

abbrev fault_of : Outcome (Unit {0}) → Option ℕ
fault_of (Fault number at c) = Some number
fault_of _ = None

-- a variable of an activation that is not there, and one of the standard files, or in it
abbrev gone : Reference
gone = record { root = 1; way = []; type = Undefined }

abbrev standard : (way : List ℕ) → Reference
standard way = record { root = 0; way = way; type = cleared (start.roots 0).value }

-- `new` reads its variable before it counts the cells
abbrev pub NewOrderExample : Type 0
NewOrderExample =
    (fault_of (make 0 OneCell 1000001 gone start) ≡ Some 8) ×
    (limit_of (make 0 OneCell 1000001 (standard (1 ∷ 1 ∷ [])) start) ≡ Some 2)

-- a byte too many for a file that is not in writing is fault 12, and for `output` limit 4
abbrev pub ChargeOrderExample : Type 0
ChargeOrderExample =
    (fault_of (write_bytes 0 (standard (0 ∷ [])) (120 ∷ []) (record start { written = 16777216 })) ≡ Some 12) ×
    (limit_of (write_bytes 0 (standard (1 ∷ [])) (120 ∷ []) (record start { written = 16777216 })) ≡ Some 4)

abbrev packing : PlainPacking
packing = record { unpacked = i; index = number 1; packed = i; low = pos 1; high = pos 3; count = 2; size = 1 }

-- the index is tested before the arrays are read
abbrev pub PackOrderExample : Type 0
PackOrderExample =
    (fault_of (pack 0 packing gone gone (pos 3) start) ≡ Some 4) ×
    (fault_of (pack 0 packing gone gone (pos 2) start) ≡ Some 8) ×
    (fault_of (unpack 0 packing gone gone (pos 3) start) ≡ Some 4) ×
    (fault_of (unpack 0 packing gone gone (pos 2) start) ≡ Some 8)
