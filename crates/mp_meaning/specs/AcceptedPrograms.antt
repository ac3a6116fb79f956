-- The programs that the rules accept make checked programs, where nothing is missing in their tables: so no run of one comes
-- to the case that no accepted program has.
use Rattle.std.specs.Prelude.{◌≡◌, ℕ, List, Some, map, slice_get}
use Rattle.mp_ast.specs.PlainTrees.{PlainTree}
use Rattle.mp_ast.specs.Blocks.{blocks}
use Rattle.mp_tables.specs.declared.types.TypeId.{TypeId}
use Rattle.mp_tables.specs.declared.types.Part.{Part}
use Rattle.mp_tables.specs.declared.types.RecordShape.{RecordShape}
use Rattle.mp_tables.specs.declared.types.Shape.{Shape}
use Rattle.mp_tables.specs.declared.types.Shape.TheVariants as shape
use Rattle.mp_tables.specs.declared.declarations.Decl.TheVariants as decl
use Rattle.mp_tables.specs.declared.declarations.Routine.{Routine}
use Rattle.mp_tables.specs.declared.tables.Table.{Table}
use Rattle.mp_tables.specs.PlainTypedStatements.{PlainTypedBlock}
use Rattle.mp_tables.specs.Seen.{shape_of, heading_of, answers_of}
use Rattle.mp_tables.specs.Sizes.{saturated, cells_of as table_cells}
use Rattle.mp_tables.specs.Variables.{check_of}
use Rattle.mp_tables.specs.ProgramErrors.{IsAccepted, tables_of, typed_in}
use Rattle.mp_tables.specs.Complete.{NothingMissing, ShortBlocks}
use Rattle.mp_meaning.specs.Names.{Path}
use Rattle.mp_meaning.specs.Forms.{cells_of}
use Rattle.mp_meaning.specs.Programs.{Program, block_of, frame_cells}
use Rattle.mp_meaning.specs.TypeForms.{form_of_shape}
use Rattle.mp_meaning.specs.CheckedPrograms.{IsCheckedProgram, ProceduresStand, declared_in, IsNotWrong}
use Rattle.mp_meaning.specs.Offsets.{Stand, frame_places, field_places, PartStands, IsResultAt, AreIntegers, IfRange}
use Rattle.mp_meaning.specs.Soundness.{FitsItsTables}
use Rattle.mp_meaning.specs.Steps.{before_program, program}

-- the typed blocks of a program, as the rules give them
abbrev pub rules_blocks : PlainTree → List PlainTypedBlock
rules_blocks tree = map (λ b. typed_in (answers_of (tables_of tree)) b.path b.own) (blocks tree)

-- The rules give checked programs. The forms of variables are those of their types' shapes, in whatever way they were found.
abbrev pub AcceptedIsChecked : Type 0
AcceptedIsChecked =
    (tree : PlainTree) (p : Program) → p.blocks ≡ rules_blocks tree → NothingMissing (tables_of tree) →
    ShortBlocks (blocks tree) → IsAccepted tree →
    ((t : TypeId) → p.form t ≡ form_of_shape p.form (shape_of (tables_of tree) t)) → IsCheckedProgram (tables_of tree) p

-- What else its tables say of the cells of types and frames, and of offsets: of CellsStand all but the offsets of variables and
-- parameters, of TypesStand all but the parameters' types, the cells of an array's component and where no file is.
pub record TypesAreRight (tables : List Table) (p : Program) : Type 0 where
  -- the forms of variables are those of their types' shapes
  pub forms : (t : TypeId) → p.form t ≡ form_of_shape p.form (shape_of tables t)
  -- offsets
  pub frame : (path : Path) (b : PlainTypedBlock) → block_of p path ≡ Some b → Stand 0 (frame_places p.form b.frame)
  pub result :
      (outer path : Path) (b : PlainTypedBlock) (n : List ℕ) (f : Routine) (offset : ℕ) (t : TypeId) →
      declared_in tables outer n ≡ Some (decl.Func outer f offset) → f.block ≡ Some path →
      block_of p path ≡ Some b → (heading_of tables path).result ≡ Some t → IsResultAt b.frame offset
  pub fields : (t : TypeId) (r : RecordShape) → shape_of tables t ≡ Some (shape.Rec r) → Stand 0 (field_places p.form r.slots)
  pub parts : (t : TypeId) (r : RecordShape) → shape_of tables t ≡ Some (shape.Rec r) → (i : ℕ) (q : Part) →
      slice_get r.parts i ≡ Some q → PartStands p.form r q.tag q.slots q.cells
  -- cells
  pub counted : (path : Path) (b : PlainTypedBlock) → block_of p path ≡ Some b →
      b.counted ≡ saturated (frame_cells p.form b.frame)
  pub cells : (t : TypeId) (x : Shape) → shape_of tables t ≡ Some x → table_cells x ≡ saturated (cells_of (p.form t))
  -- procedures have no result
  pub procedures : ProceduresStand tables p
  -- ordinal values are integers
  pub ordinals : (t : TypeId) (x : Shape) → shape_of tables t ≡ Some x →
      IfRange AreIntegers (check_of (record { id = Some t; shape = x }))

-- So the program has checked trees, with the frames, offsets and cells of its tables.
abbrev pub AcceptedFits : Type 0
AcceptedFits =
    (tree : PlainTree) (p : Program) → p.blocks ≡ rules_blocks tree → NothingMissing (tables_of tree) →
    ShortBlocks (blocks tree) → IsAccepted tree → TypesAreRight (tables_of tree) p → FitsItsTables (tables_of tree) p

-- And a run of an accepted program is never wrong.
abbrev pub AcceptedIsNeverWrong : Type 0
AcceptedIsNeverWrong =
    (tree : PlainTree) (p : Program) → p.blocks ≡ rules_blocks tree → NothingMissing (tables_of tree) →
    ShortBlocks (blocks tree) → IsAccepted tree → TypesAreRight (tables_of tree) p →
    (input : List ℕ) (bound n : ℕ) → IsNotWrong (program p bound (before_program input n))
