-- The tables of a small program, to show what they answer. Beside each line stand ordinals, by which the tables name tokens:
--
--     program p; const c = 1; var x, odd: ^char;                   c 4, its value 6, x 9, odd 11, ^ 13
--     procedure q; const c = 'A'; begin .. end;                    the ; of its heading 18; in the block c 1, its value 3
--     function f: integer;                                         24
--       procedure r; begin f := 1; g := 2 end; begin .. end;       in f 2
--     function g: integer; begin .. end;                           30
--     procedure late; begin .. end;                                late 33
use Rattle.std.specs.Prelude.{ℕ, pos, false, true, List, [], ◌∷◌, Some, None, codes}
use Rattle.mp_base.specs.declared.path.PathStep.{PathStep}
use Rattle.mp_base.specs.declared.place.Place.{Place}
use Rattle.mp_tables.specs.declared.types.TypeId.TheVariants as type
use Rattle.mp_tables.specs.declared.types.Shape.TheVariants as shape
use Rattle.mp_tables.specs.declared.headings.Heading.{Heading}
use Rattle.mp_tables.specs.declared.declarations.ConstantValue.TheVariants as value
use Rattle.mp_tables.specs.declared.declarations.Decl.{Decl}
use Rattle.mp_tables.specs.declared.declarations.Decl.TheVariants as decl
use Rattle.mp_tables.specs.declared.tables.Entry.{Entry}
use Rattle.mp_tables.specs.declared.tables.Table.{Table}

abbrev pub step : List ℕ → PathStep
step name = record { name = name; nth = 1 }

abbrev pub place : List PathStep → ℕ → Place
place path ordinal = record { path = path; ordinal = ordinal }

abbrev pub q : List PathStep
q = step (codes "q") ∷ []

abbrev pub f : List PathStep
f = step (codes "f") ∷ []

abbrev pub r : List PathStep
r = step (codes "f") ∷ step (codes "r") ∷ []

abbrev pub g : List PathStep
g = step (codes "g") ∷ []

-- ---- declarations

abbrev pub outer_c : Decl
outer_c = decl.Const [] (Some (value.Ordinal type.Integer (pos 1)))

abbrev pub inner_c : Decl
inner_c = decl.Const q (Some (value.Ordinal type.Char (pos 65)))

abbrev pub variable : ℕ → Decl
variable offset = decl.Var [] (record { of = Some (type.Own [] 13); offset = offset; control = false })

abbrev pub entry : Decl → ℕ → ℕ → Entry
entry d at last = record { decl = d; at = at; last = last }

abbrev pub plain : Heading
plain = record { formals = []; result = None }

abbrev pub of_integer : Heading
of_integer = record { formals = []; result = Some type.Integer }

-- ---- tables

abbrev pub of_program : Table
of_program =
    record {
      path = [];
      names =
          (codes "c", entry outer_c 4 6)
          ∷ (codes "x", entry (variable 0) 9 9)
          ∷ (codes "odd", entry (variable 1) 11 11)
          ∷ (codes "late", entry (decl.Proc [] (record { heading = plain; block = Some (step (codes "late") ∷ []) })) 33 33)
          ∷ [];
      nested =
          record { step = step (codes "q"); heading = plain; function = false; semicolon = 18 }
          ∷ record { step = step (codes "f"); heading = of_integer; function = true; semicolon = 24 }
          ∷ record { step = step (codes "g"); heading = of_integer; function = true; semicolon = 30 }
          ∷ record { step = step (codes "late"); heading = plain; function = false; semicolon = 34 }
          ∷ [];
      shapes = record { at = 13; shape = shape.Ptr (Some type.Char) } ∷ [];
      assigned = [];
    }

abbrev pub of_q : Table
of_q = record { path = q; names = (codes "c", entry inner_c 1 3) ∷ []; nested = []; shapes = []; assigned = [] }

abbrev pub of_f : Table
of_f =
    record {
      path = f;
      names = [];
      nested = record { step = step (codes "r"); heading = plain; function = false; semicolon = 2 } ∷ [];
      shapes = [];
      assigned = [];
    }

abbrev pub of_r : Table
of_r = record { path = r; names = []; nested = []; shapes = []; assigned = codes "f" ∷ codes "g" ∷ [] }

abbrev pub tables : List Table
tables = of_program ∷ of_q ∷ of_f ∷ of_r ∷ []
