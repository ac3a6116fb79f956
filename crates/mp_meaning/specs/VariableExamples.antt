-- Runs of programs with records, pointers and files.
use Rattle.std.specs.Prelude.{◌≡◌, ℕ, false, [], ◌∷◌, ◌++◌, Some, None, codes, pos}
use Rattle.mp_tables.specs.declared.types.TypeId.{TypeId}
use Rattle.mp_tables.specs.declared.types.TypeId.TheVariants as type
use Rattle.mp_tables.specs.declared.typed_expressions.Check.TheVariants as check
use Rattle.mp_tables.specs.declared.typed_expressions.Sort.TheVariants as sort
use Rattle.mp_tables.specs.declared.typed_statements.FrameKind.TheVariants as kind
use Rattle.mp_tables.specs.declared.typed_statements.ReadSort.TheVariants as reads
use Rattle.mp_tables.specs.PlainTypedExpressions.{PlainTypedAccess, PlainTypedSelectors}
use Rattle.mp_tables.specs.PlainTypedExpressions as expr
use Rattle.mp_tables.specs.PlainTypedStatements.{PlainTypedStatement}
use Rattle.mp_tables.specs.PlainTypedStatements as tree
use Rattle.mp_meaning.specs.Forms.{Form, OneCell, RecordForm, Beside, NoForms}
use Rattle.mp_meaning.specs.Programs.{Program}
use Rattle.mp_meaning.specs.Steps.{at_step, Ends, Ended, Faulted}
use Rattle.mp_meaning.specs.ExampleTrees.{slot, variable, own, input, number, load, assign, integer_of_width, writeln, select, target, ◌then◌, last, block, of_blocks}

abbrev v : PlainTypedAccess
v = own (codes "v") 0 0

-- ---- program p(output); type r = record case t: Boolean of false: (i: integer); true: (c: char) end; var v: r;
-- begin v.t := false; v.i := 5; v.t := true; writeln(v.i) end.

-- the type, by its identity and its form: the tag and the two fields
abbrev variant_record : TypeId
variant_record = type.Own [] 9

abbrev variant_form : TypeId → Form
variant_form id = RecordForm (Beside OneCell (Beside OneCell (Beside OneCell NoForms)))

abbrev tag : PlainTypedSelectors → PlainTypedSelectors
tag more = expr.Field (record { name = codes "t"; slot = 0; offset = 0; guards = [] }) more

abbrev field_i : PlainTypedSelectors → PlainTypedSelectors
field_i more =
    expr.Field (record {
      name = codes "i";
      slot = 1;
      offset = 1;
      guards =
          record { slot = 0; offset = 0; hidden = false; constants = pos 0 ∷ []; slots = 2; cells = 2 } ∷ [];
    }) more

abbrev set_tag : ℕ → ℕ → PlainTypedStatement
set_tag at value = tree.Assign at (record {
  access = select v tag;
  check = check.Range (pos 0) (pos 1);
  tagging = Some (record {
    variants = record { constants = pos 0 ∷ [] } ∷ record { constants = pos 1 ∷ [] } ∷ [];
    slots = 2;
    cells = 2;
  });
}) (number value)

abbrev pub variants : Program
variants = record (of_blocks (block [] (record (slot (codes "v") kind.Variable variant_record) { cells = 3 } ∷ []) 37 (
    set_tag 38 0 then
    assign 44 (select v field_i) (number 5) then
    set_tag 50 1 then
    last (writeln 56 (integer_of_width (load (select v field_i)) None ∷ []))) ∷ [])) { form = variant_form }

abbrev pub VariantExample : Type 0
VariantExample = at_step variants [] 20 ≡ Ends (Faulted 10 (record { path = []; ordinal = 56 })) 5 []

-- ---- program p(output); type n = ^integer; var a, b: n;
-- begin new(a); a^ := 1; b := a; dispose(a); new(a); a^ := 2; writeln(b^) end.

abbrev a : PlainTypedAccess
a = own (codes "a") 0 0

abbrev b : PlainTypedAccess
b = own (codes "b") 0 1

abbrev new_a : ℕ → PlainTypedStatement
new_a at = tree.Required at (tree.New a type.Integer 1)

abbrev pub pointers : Program
pointers = of_blocks (block [] (variable (codes "a") ∷ variable (codes "b") ∷ []) 19 (
    new_a 20 then
    assign 25 (select a expr.Follow) (number 1) then
    tree.Assign 30 (record { access = b; check = check.Pointer; tagging = None })
    (expr.Load sort.Pointer a.root a.selectors) then
    tree.Required 34 (tree.Dispose (expr.Load sort.Pointer a.root a.selectors)) then
    new_a 39 then
    assign 44 (select a expr.Follow) (number 2) then
    last (writeln 49 (integer_of_width (load (select b expr.Follow)) None ∷ []))) ∷ [])

abbrev pub PointerExample : Type 0
PointerExample = at_step pointers [] 20 ≡ Ends (Faulted 8 (record { path = []; ordinal = 49 })) 8 []

-- ---- program p(input, output); var n: integer; begin read(n); writeln(n) end.

abbrev n : PlainTypedAccess
n = own (codes "n") 0 0

abbrev pub reading : Program
reading = of_blocks (block [] (variable (codes "n") ∷ []) 13 (
    tree.Required 14 (tree.Read false input (record { of = reads.Integer; target = target n } ∷ [])) then
    last (writeln 19 (integer_of_width (load n) None ∷ []))) ∷ [])

-- a number behind spaces is read; the end of the file and characters that are no digits are faults
abbrev pub ReadingExample : Type 0
ReadingExample =
    (at_step reading (codes "  42 x" ++ 10 ∷ []) 20 ≡ Ends Ended 3 (codes "         42" ++ 10 ∷ [])) ×
    (at_step reading (codes "  " ++ 10 ∷ []) 20 ≡ Ends (Faulted 11 (record { path = []; ordinal = 14 })) 2 []) ×
    (at_step reading (codes " x" ++ 10 ∷ []) 20 ≡ Ends (Faulted 13 (record { path = []; ordinal = 14 })) 2 [])
