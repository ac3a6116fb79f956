-- Runs of small programs with arrays, strings and sets (ISO 7185, 6.4.3, 6.6.5.4, 6.7.2.4), worked out by hand.
use Rattle.std.specs.Prelude.{◌≡◌, ℕ, true, false, List, [], ◌∷◌, None, codes, nat_eq, pos}
use Rattle.mp_tables.specs.declared.types.TypeId.{TypeId}
use Rattle.mp_tables.specs.declared.types.TypeId.TheVariants as type
use Rattle.mp_tables.specs.declared.typed_expressions.Check.TheVariants as check
use Rattle.mp_tables.specs.declared.typed_expressions.Comparison.{Comparison}
use Rattle.mp_tables.specs.declared.typed_expressions.Comparison.TheVariants as relation
use Rattle.mp_tables.specs.declared.typed_expressions.Sort.TheVariants as sort
use Rattle.mp_tables.specs.declared.typed_expressions.TypedOperator.TheVariants as operator
use Rattle.mp_tables.specs.declared.typed_statements.FrameKind.TheVariants as kind
use Rattle.mp_tables.specs.declared.typed_statements.WriteSort.TheVariants as writes
use Rattle.mp_tables.specs.PlainTypedExpressions.{PlainTypedExpr, PlainTypedAccess, PlainTypedMembers}
use Rattle.mp_tables.specs.PlainTypedExpressions as expr
use Rattle.mp_tables.specs.PlainTypedStatements.{PlainTypedStatement, PlainTypedStatements, PlainPacking}
use Rattle.mp_tables.specs.PlainTypedStatements as tree
use Rattle.mp_meaning.specs.Forms.{Form, OneCell, ArrayForm}
use Rattle.mp_meaning.specs.Steps.{at_step, Standing}
use Rattle.mp_meaning.specs.ExampleTrees.{slot, own, component, number, load, two, assign_character, character, truth_value, write, ◌then◌, last, block, of_blocks, of_types, ended, faulted}

-- ---- program p(output); var a: array [1..3] of char; z: packed array [1..2] of char; begin .. end.

abbrev a : List ℕ
a = codes "a"

abbrev z : List ℕ
z = codes "z"

-- the two array types begin at 9 and 20
abbrev arrays_form : TypeId → Form
arrays_form (type.Own path at) = elim (nat_eq at 9) as (λ is. Form) [ true ↦ ArrayForm 3 OneCell | false ↦ ArrayForm 2 OneCell ]
arrays_form id = OneCell

abbrev with_arrays : PlainTypedStatements → Standing
with_arrays ss = at_step (of_types arrays_form (block [] (
    record (slot a kind.Variable (type.Own [] 9)) { cells = 3 } ∷
    record (slot z kind.Variable (type.Own [] 20)) { cells = 2 } ∷ []) 30 ss ∷ [])) [] 20

abbrev at_a : ℕ → PlainTypedAccess
at_a n = component a 0 (number n) 1 3

abbrev packing : ℕ → PlainPacking
packing n = record { unpacked = own a 0 0; index = number n; packed = own z 0 3; low = pos 1; high = pos 3; count = 2; size = 1 }

abbrev write_z : ℕ → PlainTypedStatement
write_z at =
    write at (record { of = writes.Text 2; value = expr.Load (sort.Block 2) (own z 0 3).root expr.NoSelectors; width = None } ∷
    [])

-- a[1] := 'x'; a[2] := 'y'; a[3] := 'z'; pack(a, n, z); write(z)
abbrev packed_from : ℕ → Standing
packed_from n = with_arrays (
    assign_character 31 (at_a 1) 120 then
    assign_character 38 (at_a 2) 121 then
    assign_character 45 (at_a 3) 122 then
    tree.Required 52 (tree.Pack (packing n)) then
    last (write_z 60))

-- from 2 on there are two components, from 3 on there are not: fault 4
abbrev pub PackExample : Type 0
PackExample = (packed_from 2 ≡ ended 6 (codes "yz")) × (packed_from 3 ≡ faulted 4 52 5 [])

-- z := 'pq'; unpack(z, a, 2); write(a[3], a[1])
abbrev pub UnpackExample : Type 0
UnpackExample =
    with_arrays (
    tree.Assign 31 (record { access = own z 0 3; check = check.Block 2; tagging = None }) (expr.Text (codes "pq")) then
    tree.Required 35 (tree.Unpack (packing 2)) then
    write 43 (character (load (at_a 3)) ∷ []) then
    last (write 51 (character (load (at_a 1)) ∷ []))) ≡
    faulted 9 51 5 (codes "q")

-- z[1] := 'p'; write(z): a string that is written is defined throughout, else it is fault 9
abbrev pub UndefinedStringExample : Type 0
UndefinedStringExample =
    with_arrays (assign_character 31 (component z 3 (number 1) 1 2) 112 then last (write_z 38)) ≡ faulted 9 38 3 []

-- ---- program p(output); begin write(..) end.

abbrev truth_of : PlainTypedExpr → Standing
truth_of e = at_step (of_blocks (block [] [] 6 (last (write 7 (truth_value e ∷ []))) ∷ [])) [] 9

abbrev strings : List ℕ → Comparison → List ℕ → PlainTypedExpr
strings cs r ds = expr.Compare (sort.Block 2) r (expr.Text cs) (expr.Text ds)

-- the first characters that differ decide
abbrev pub StringExample : Type 0
StringExample =
    (truth_of (strings (codes "ab") relation.Less (codes "ac")) ≡ ended 2 (codes " True")) ×
    (truth_of (strings (codes "ba") relation.Less (codes "ac")) ≡ ended 2 (codes "False")) ×
    (truth_of (strings (codes "ab") relation.GreaterOrEqual (codes "ab")) ≡ ended 2 (codes " True"))

abbrev one : ℕ → PlainTypedMembers → PlainTypedMembers
one n more = expr.Member (number n) more

abbrev few : PlainTypedExpr
few = expr.Set (one 1 (expr.MemberRange (number 3) (number 5) expr.NoMembers))

abbrev set_of_one : ℕ → PlainTypedExpr
set_of_one n = expr.Set (one n expr.NoMembers)

-- 4 in [1, 3..5]; 2 in [1, 3..5]; [1, 3..5] * [2] = []; [1] <= [1, 3..5]; [1, 3..5] - [1] + [1] = [1, 3..5]
abbrev pub SetExample : Type 0
SetExample =
    (truth_of (expr.In (number 4) few) ≡ ended 2 (codes " True")) ×
    (truth_of (expr.In (number 2) few) ≡ ended 2 (codes "False")) ×
    (truth_of (expr.Compare sort.Set relation.Equal (two few operator.Intersection (set_of_one 2))
    (expr.Set expr.NoMembers)) ≡ ended 2 (codes " True")) ×
    (truth_of (expr.Compare sort.Set relation.LessOrEqual (set_of_one 1) few) ≡ ended 2 (codes " True")) ×
    (truth_of (expr.Compare sort.Set relation.Equal (expr.Chain few (
    expr.Operation operator.Difference (set_of_one 1)
    (expr.Operation operator.Union (set_of_one 1) expr.NoOperations))) few) ≡ ended 2 (codes " True"))
