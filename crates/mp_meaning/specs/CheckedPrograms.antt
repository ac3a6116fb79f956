-- What holds of a program whose typed trees are checked: its blocks, frames, labels and the forms of its variables are those
-- of its tables.
use Rattle.std.specs.Prelude.{◌≡◌, ℕ, true, false, List, [], Some, None, slice_get}
use Rattle.mp_tables.specs.declared.types.TypeId.{TypeId}
use Rattle.mp_tables.specs.declared.types.Within.{Within}
use Rattle.mp_tables.specs.declared.types.Slot.{Slot}
use Rattle.mp_tables.specs.declared.types.Part.{Part}
use Rattle.mp_tables.specs.declared.types.RecordShape.{RecordShape}
use Rattle.mp_tables.specs.declared.types.Shape.{Shape}
use Rattle.mp_tables.specs.declared.types.Shape.TheVariants as shape
use Rattle.mp_tables.specs.declared.declarations.Decl.TheVariants as decl
use Rattle.mp_tables.specs.declared.declarations.Variable.{Variable}
use Rattle.mp_tables.specs.declared.declarations.Parameter.{Parameter}
use Rattle.mp_tables.specs.declared.declarations.LabelStanding.TheVariants as standing
use Rattle.mp_tables.specs.declared.tables.Nested.{Nested}
use Rattle.mp_tables.specs.declared.tables.Table.{Table}
use Rattle.mp_tables.specs.declared.typed_expressions.Sort.TheVariants as sort
use Rattle.mp_tables.specs.declared.typed_statements.FrameKind.TheVariants as kind
use Rattle.mp_tables.specs.declared.typed_statements.FrameSlot.{FrameSlot}
use Rattle.mp_tables.specs.PlainTypedStatements.{PlainTypedBlock}
use Rattle.mp_tables.specs.StatementWalks.{label_name}
use Rattle.mp_tables.specs.Headings.{FormalParameter}
use Rattle.mp_tables.specs.Seen.{shape_of, heading_of, nested_at}
use Rattle.mp_tables.specs.Variables.{sort_of}
use Rattle.mp_tables.specs.Calls.{heading_or_none}
use Rattle.mp_tables.specs.declared.headings.FormalKind.TheVariants as formal
use Rattle.mp_tables.specs.Checked.{CheckedBlock}
pub use Rattle.mp_tables.specs.Frames.{BeginsWith, declared_in, parameters_of}
use Rattle.mp_meaning.specs.Names.{Path}
use Rattle.mp_meaning.specs.Programs.{Program, block_of, variable_number, result_number, from_label, is_found}
use Rattle.mp_meaning.specs.TypeForms.{form_of_shape}
use Rattle.mp_meaning.specs.Outcomes.{Outcome, Done, Jump, Fault, Limit, Hole, Paused, Spent, Wrong}

-- ---- frames

-- the slot of a variable
pub record IsVariableSlot (frame : List FrameSlot) (n : List ℕ) (v : Variable) : Type 0 where
  pub number : ℕ
  pub slot : FrameSlot
  pub found : variable_number frame n ≡ Some number
  pub is : slice_get frame number ≡ Some slot
  pub of_kind : slot.kind ≡ kind.Variable
  pub of : slot.of ≡ v.of

-- the slot of a parameter, which is the one of this number
pub record IsParameterSlot (parameters : List FormalParameter) (frame : List FrameSlot) (n : List ℕ) (q : Parameter) :
    Type 0 where
  pub number : ℕ
  pub parameter : FormalParameter
  pub found : variable_number frame n ≡ Some number
  pub is : slice_get parameters number ≡ Some parameter
  pub of_kind : parameter.formal.kind ≡ q.kind
  pub of : (t : TypeId) → q.of ≡ Some t → parameter.formal.of ≡ Some t
  pub own : parameter.own ≡ q.own

-- the slot of a function's result
pub record IsResultSlot (frame : List FrameSlot) (t : TypeId) : Type 0 where
  pub number : ℕ
  pub slot : FrameSlot
  pub found : result_number frame ≡ Some number
  pub is : slice_get frame number ≡ Some slot
  pub of_kind : slot.kind ≡ kind.Result
  pub of : slot.of ≡ Some t

-- ---- blocks

-- The block of this path has a slot for each variable and parameter that its table has, and for a function's result. A
-- block that may be entered is checked, and has the labels that its table says to stand in its outermost sequence.
pub record BlockFits (tables : List Table) (p : Program) (path : Path) (b : PlainTypedBlock) : Type 0 where
  pub parameters : BeginsWith (parameters_of tables path) b.frame
  pub variable : (n : List ℕ) (v : Variable) → declared_in tables path n ≡ Some (decl.Var path v) → IsVariableSlot b.frame n v
  pub parameter : (n : List ℕ) (q : Parameter) → declared_in tables path n ≡ Some (decl.Param path q) →
      IsParameterSlot (parameters_of tables path) b.frame n q
  pub result : (t : TypeId) → (heading_of tables path).result ≡ Some t → IsResultSlot b.frame t
  pub label : p.is_closed path ≡ false → (l : ℕ) → declared_in tables path (label_name l) ≡ Some
      (decl.Label path standing.Outermost) → is_found (from_label l b.statements) ≡ true
  pub checked : p.is_closed path ≡ false → CheckedBlock tables b

-- ---- record types

abbrev pub HasPart : RecordShape → Within → Type 0
HasPart r w = (q : Part) × (slice_get r.parts w.part ≡ Some q)

abbrev pub IsOrdinal : List Table → TypeId → Type 0
IsOrdinal tables t = (x : Shape) × (shape_of tables t ≡ Some x) × (sort_of (record { id = Some t; shape = x }) ≡ sort.Ordinal)

-- The variant parts that hold fields and parts are there, and the tag of each is a slot of an ordinal type.
pub record RecordFits (tables : List Table) (r : RecordShape) : Type 0 where
  pub within : (i : ℕ) (s : Slot) (w : Within) → slice_get r.slots i ≡ Some s → s.within ≡ Some w → HasPart r w
  pub outer : (i : ℕ) (q : Part) (w : Within) → slice_get r.parts i ≡ Some q → q.within ≡ Some w → HasPart r w
  pub tag : (i : ℕ) (q : Part) → slice_get r.parts i ≡ Some q → (s : Slot) × (t : TypeId) × (slice_get r.slots q.tag ≡ Some s) ×
      (s.of ≡ Some t) × IsOrdinal tables t

-- ---- programs

pub record IsCheckedProgram (tables : List Table) (p : Program) : Type 0 where
  -- the program's own block is there, and that of each procedure and function
  pub whole : (b : PlainTypedBlock) × (block_of p [] ≡ Some b)
  pub blocks : (path : Path) (n : Nested) → nested_at tables [] path ≡ Some n → (b : PlainTypedBlock) ×
      (block_of p path ≡ Some b)
  pub fits : (path : Path) (b : PlainTypedBlock) → block_of p path ≡ Some b → BlockFits tables p path b
  -- the forms of variables are those of their types' shapes
  pub forms : (t : TypeId) → p.form t ≡ form_of_shape p.form (shape_of tables t)
  pub records : (t : TypeId) (r : RecordShape) → shape_of tables t ≡ Some (shape.Rec r) → RecordFits tables r

-- ---- procedures

-- A procedure has no result: the headings of procedures and of procedural parameters say so, and where one does, the frame of
-- the
-- block has no cell for a result.
pub record ProceduresStand (tables : List Table) (p : Program) : Type 0 where
  pub block : (path : Path) (b : PlainTypedBlock) → block_of p path ≡ Some b → (heading_of tables path).result ≡ None →
      result_number b.frame ≡ None
  pub routine : (path : Path) (n : Nested) → nested_at tables [] path ≡ Some n → n.function ≡ false → n.heading.result ≡ None
  pub parameter : (path : Path) (n : List ℕ) (q : Parameter) → declared_in tables path n ≡ Some (decl.Param path q) →
      q.kind ≡ formal.Procedure → (heading_or_none q.own).result ≡ None

-- ---- outcomes

abbrev pub IsNotWrong : Outcome (Unit {0}) → Type 0
IsNotWrong (Done v c) = Unit {0}
IsNotWrong (Jump l number c) = Unit {0}
IsNotWrong (Fault number at c) = Unit {0}
IsNotWrong (Limit number at c) = Unit {0}
IsNotWrong (Hole path at c) = Unit {0}
IsNotWrong (Paused c) = Unit {0}
IsNotWrong Spent = Unit {0}
IsNotWrong Wrong = ⊥
