-- What is shown of variables of each kind, and the codes where nothing is, worked out by hand.
use Rattle.std.specs.Prelude.{◌≡◌, ℕ, true, false, List, [], ◌∷◌, Option, Some, None, codes, bytes_eq, nat_eq, pos}
use Rattle.mp_tables.specs.declared.types.TypeId.{TypeId}
use Rattle.mp_tables.specs.declared.types.TypeId.TheVariants as type
use Rattle.mp_tables.specs.declared.types.Bounds.{Bounds}
use Rattle.mp_tables.specs.declared.types.Shape.{Shape}
use Rattle.mp_tables.specs.declared.types.Shape.TheVariants as shape
use Rattle.mp_tables.specs.declared.declarations.ConstantValue.TheVariants as constant
use Rattle.mp_tables.specs.declared.declarations.Decl.{Decl}
use Rattle.mp_tables.specs.declared.declarations.Decl.TheVariants as decl
use Rattle.mp_tables.specs.declared.questions.Seen.{Seen}
use Rattle.mp_tables.specs.declared.questions.Seen.TheVariants as seen
use Rattle.mp_tables.specs.Seen.{shape_of}
use Rattle.mp_meaning.specs.Values.{Value, Undefined, Number, Members, Pointer, Structure, NoValues, Then, string_of}
use Rattle.mp_meaning.specs.Programs.{Program}
use Rattle.mp_meaning.specs.Configurations.{Configuration, with_root}
use Rattle.mp_meaning.specs.Steps.{before_program}
use Rattle.mp_meaning.specs.Views.{ShownSelector, AtIndex, OfField, Followed, OfNumber, OfCharacter, OfConstant, Answer, Found, Cannot, view}
use Rattle.mp_meaning.specs.ExampleTrees.{variable, block, of_blocks, last}
use Rattle.mp_tables.specs.PlainTypedStatements as tree

-- ---- program p; const k = 2; type day = (mon, tue); row = array [1..2] of integer;
-- r = record case t: Boolean of false: (i: integer); true: (c: char) end; str = packed array [1..2] of char;
-- ptr = ^integer; days = set of day;
-- var a: row; v: r; s, u: str; d: day; q: ptr; m: days; c: char; begin end.
-- The types begin at 10, 20, 30, 40, 50 and 60.

abbrev own : ℕ → TypeId
own at = type.Own [] at

abbrev one_to_two : Option Bounds
one_to_two = Some (record { host = type.Integer; low = pos 1; high = pos 2 })

abbrev row_shape : Shape
row_shape = shape.Arr (record {
  packed = false;
  index = one_to_two;
  component = Some type.Integer;
  size = 1;
  cells = 2;
  file =
      false;
})

abbrev string_shape : Shape
string_shape =
    shape.Arr (record { packed = true; index = one_to_two; component = Some type.Char; size = 1; cells = 2; file = false })

abbrev record_shape : Shape
record_shape = shape.Rec (record {
  packed = false;
  slots =
      record { name = Some (codes "t"); of = Some type.Boolean; offset = 0; cells = 1; within = None; tags = Some 0 } ∷
      record {
        name = Some (codes "i");
        of = Some type.Integer;
        offset = 1;
        cells = 1;
        within =
            Some (record { part = 0; variant = 0 });
        tags = None;
      } ∷
      record {
        name = Some (codes "c");
        of = Some type.Char;
        offset = 2;
        cells = 1;
        within =
            Some (record { part = 0; variant = 1 });
        tags = None;
      } ∷ [];
  parts = record {
    within = None;
    tag = 0;
    hidden = false;
    host = Some type.Boolean;
    variants = record { constants = pos 0 ∷ [] } ∷ record { constants = pos 1 ∷ [] } ∷ [];
    slots = 2;
    cells = 2;
  } ∷ [];
  cells = 3;
  file = false;
})

abbrev found_at : List (ℕ × Shape) → ℕ → Option Shape
found_at [] at = None
found_at (x ∷ more) at = elim (nat_eq x.0 at) as (λ is. Option Shape) [ true ↦ Some x.1 | false ↦ found_at more at ]

abbrev shapes : TypeId → Option Shape
shapes (type.Own path at) = found_at (
    (10, shape.Names (codes "mon" ∷ codes "tue" ∷ [])) ∷
    (20, row_shape) ∷
    (30, record_shape) ∷
    (40, string_shape) ∷
    (50, shape.Ptr (Some type.Integer)) ∷
    (60, shape.SetOf (Some false) (Some (record { host = own 10; low = pos 0; high = pos 1 }))) ∷ []) at
shapes id = shape_of [] id

abbrev found_name : List (List ℕ × Decl) → List ℕ → Seen
found_name [] name = seen.Absent
found_name (x ∷ more) name = elim (bytes_eq x.0 name) as (λ is. Seen) [ true ↦ seen.Is x.1 | false ↦ found_name more name ]

abbrev var_of : TypeId → Decl
var_of id = decl.Var [] (record { of = Some id; offset = 0; control = false })

abbrev names : List ℕ → Seen
names name = found_name (
    (codes "a", var_of (own 20)) ∷
    (codes "v", var_of (own 30)) ∷
    (codes "s", var_of (own 40)) ∷
    (codes "u", var_of (own 40)) ∷
    (codes "d", var_of (own 10)) ∷
    (codes "q", var_of (own 50)) ∷
    (codes "m", var_of (own 60)) ∷
    (codes "c", var_of type.Char) ∷
    (codes "day", decl.Sort [] (Some (own 10))) ∷
    (codes "tue", decl.Const [] (Some (constant.Ordinal (own 10) (pos 1)))) ∷
    (codes "k", decl.Const [] (Some (constant.Ordinal type.Integer (pos 2)))) ∷ []) name

abbrev program : Program
program = of_blocks (block [] (
    variable (codes "a") ∷ variable (codes "v") ∷ variable (codes "s") ∷ variable (codes "u") ∷
    variable (codes "d") ∷ variable (codes "q") ∷ variable (codes "m") ∷ variable (codes "c") ∷ []) 90 (last (tree.Empty 91)) ∷
    [])

-- a[1] is 7, v.t is false and v.i 5, s is 'it' and u chr(7) and x, d is tue, q is nil, m is [mon, tue], and c a quote
abbrev held : Value
held = Structure (
    Then (Structure (Then (Number (pos 7)) (Then Undefined NoValues)))
    (Then (Structure (Then (Number (pos 0)) (Then (Number (pos 5)) (Then Undefined NoValues))))
    (Then (string_of (codes "it"))
    (Then (string_of (7 ∷ 120 ∷ []))
    (Then (Number (pos 1))
    (Then (Pointer 0)
    (Then (Members (0 ∷ 1 ∷ []))
    (Then (Number (pos 39)) NoValues))))))))

abbrev stands : Configuration
stands = record (before_program [] 0) {
  activations = record { number = 1; block = []; parent = 0; from = 0; cells = 8 } ∷ [];
  roots = with_root (before_program [] 0).roots 1 (record { value = held; live = true });
  next = 2;
}

abbrev show : List ℕ → List ShownSelector → Answer (List ℕ)
show name selectors = view program shapes names stands (record { name = name; selectors = selectors })

abbrev at_number : ℕ → ShownSelector
at_number n = AtIndex (OfNumber (pos n))

abbrev pub ShownTextsExample : Type 0
ShownTextsExample =
    (show (codes "a") [] ≡ Found (codes "(7, ?)")) ×
    (show (codes "a") (at_number 1 ∷ []) ≡ Found (codes "7")) ×
    (show (codes "a") (AtIndex (OfConstant (codes "k")) ∷ []) ≡ Found (codes "?")) ×
    (show (codes "v") [] ≡ Found (codes "(t: False, i: 5)")) ×
    (show (codes "v") (OfField (codes "i") ∷ []) ≡ Found (codes "5")) ×
    (show (codes "s") [] ≡ Found (codes "'it'")) ×
    (show (codes "u") [] ≡ Found (codes "(chr(7), 'x')")) ×
    (show (codes "d") [] ≡ Found (codes "tue")) ×
    (show (codes "q") [] ≡ Found (codes "nil")) ×
    (show (codes "m") [] ≡ Found (codes "[mon, tue]")) ×
    (show (codes "c") [] ≡ Found (codes "''''"))

-- 1: not seen, also in an index; 2: no variable, and no constant; 3: a selector or an index of another type; 4: an index
-- outside;
-- 5: nil; 6: a field that is not active; and of two the first from the left
abbrev pub ShownCodesExample : Type 0
ShownCodesExample =
    (show (codes "x") [] ≡ Cannot 1) ×
    (show (codes "a") (AtIndex (OfConstant (codes "x")) ∷ []) ≡ Cannot 1) ×
    (show (codes "day") [] ≡ Cannot 2) ×
    (show (codes "a") (AtIndex (OfConstant (codes "d")) ∷ []) ≡ Cannot 2) ×
    (show (codes "d") (at_number 1 ∷ []) ≡ Cannot 3) ×
    (show (codes "a") (AtIndex (OfCharacter 49) ∷ []) ≡ Cannot 3) ×
    (show (codes "a") (AtIndex (OfConstant (codes "tue")) ∷ []) ≡ Cannot 3) ×
    (show (codes "v") (OfField (codes "x") ∷ []) ≡ Cannot 3) ×
    (show (codes "d") (Followed ∷ []) ≡ Cannot 3) ×
    (show (codes "a") (at_number 3 ∷ []) ≡ Cannot 4) ×
    (show (codes "a") (at_number 3 ∷ Followed ∷ []) ≡ Cannot 4) ×
    (show (codes "q") (Followed ∷ []) ≡ Cannot 5) ×
    (show (codes "v") (OfField (codes "c") ∷ []) ≡ Cannot 6)
