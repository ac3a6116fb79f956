-- Tables in which nothing is missing: what the declarations of a program without errors come to. Each declaration of a block has
-- that block's path, each type in it stands, and each type that stands has its parts (ISO 7185, 6.2 to 6.6).
use Rattle.std.specs.Prelude.{◌≡◌, ℕ, ◌≤◌, List, [], ◌∷◌, ◌++◌, Option, Some, None, Bool, true, false, length, slice_get, bytes_eq, int_le, is_some}
use Rattle.std.specs.Map.{lookup}
use Rattle.mp_base.specs.declared.limits.TheConstants.{CELL_LIMIT}
use Rattle.mp_base.specs.declared.path.PathStep.{PathStep}
use Rattle.mp_ast.specs.PlainExpressions.{PlainExpr, Number, Text, Nil, Access, Call, Inside, Not, Set, Product, Sum, Relation, PlainSelectors, NoSelectors, Index, Field, Follow, PlainActuals, NoActuals, Actual, ActualWithWidth, PlainMembers, NoMembers, Member, MemberRange, PlainOperations, NoOperations, Operation, PlainAccess}
use Rattle.mp_ast.specs.PlainStatements.{PlainForHead, PlainStatement, Labelled, Empty, Assign, Goto, Compound, If, IfElse, Case, While, Repeat, For, With, PlainStatements, NoStatements, Sequence, PlainArms, NoArms, Arm}
use Rattle.mp_ast.specs.PlainStatements as source
use Rattle.mp_ast.specs.PlainTrees.{PlainTree, statements_of_part}
use Rattle.mp_ast.specs.Blocks.{PlacedBlock, blocks}
use Rattle.mp_tables.specs.declared.types.TypeId.{TypeId}
use Rattle.mp_tables.specs.declared.types.TypeId.TheVariants as type
use Rattle.mp_tables.specs.declared.types.Bounds.{Bounds}
use Rattle.mp_tables.specs.declared.types.RecordShape.{RecordShape}
use Rattle.mp_tables.specs.declared.types.Part.{Part}
use Rattle.mp_tables.specs.declared.types.Within.{Within}
use Rattle.mp_tables.specs.declared.types.Slot.{Slot}
use Rattle.mp_tables.specs.declared.types.Shape.{Shape}
use Rattle.mp_tables.specs.declared.types.Shape.TheVariants as shape
use Rattle.mp_tables.specs.declared.headings.Formal.{Formal}
use Rattle.mp_tables.specs.declared.headings.FormalKind.{FormalKind}
use Rattle.mp_tables.specs.declared.headings.FormalKind.TheVariants as formal
use Rattle.mp_tables.specs.declared.headings.Heading.{Heading}
use Rattle.mp_tables.specs.declared.declarations.ConstantValue.{ConstantValue}
use Rattle.mp_tables.specs.declared.declarations.ConstantValue.TheVariants as value
use Rattle.mp_tables.specs.declared.declarations.Decl.{Decl}
use Rattle.mp_tables.specs.declared.declarations.Decl.TheVariants as decl
use Rattle.mp_tables.specs.declared.declarations.Routine.{Routine}
use Rattle.mp_tables.specs.declared.tables.Entry.{Entry}
use Rattle.mp_tables.specs.declared.tables.Nested.{Nested}
use Rattle.mp_tables.specs.declared.tables.Table.{Table}
use Rattle.mp_tables.specs.TypeRelations.{ordinal, holds_file}
use Rattle.mp_tables.specs.Variables.{sort_of}
use Rattle.mp_tables.specs.Seen.{table_at, shape_of, nested_at}
use Rattle.mp_tables.specs.Growth.{HasTable}
use Rattle.mp_tables.specs.Sizes.{cells_of, array_cells}
use Rattle.mp_tables.specs.Headings.{FormalParameter, parameters_in}
use Rattle.mp_tables.specs.Calls.{heading_or_none}
use Rattle.mp_tables.specs.ProgramErrors.{IsAccepted, tables_of}
use Rattle.mp_tables.specs.Checked.{function_kind, IsSimple, CheckedBlocks}

-- ---- types

-- a type that is not missing, and stands
abbrev pub Standing : List Table → Option TypeId → Type 0
Standing tables None = ⊥
Standing tables (Some t) = (s : Shape) × (shape_of tables t ≡ Some s)

-- a function's result, which is of a simple type or a pointer type (6.6.2)
abbrev pub ResultStands : List Table → Option TypeId → Type 0
ResultStands tables None = ⊥
ResultStands tables (Some t) = (s : Shape) × (shape_of tables t ≡ Some s) × IsSimple (sort_of (record { id = Some t; shape = s }))

-- a type that is missing, or holds no file
abbrev pub HasNoFile : List Table → Option TypeId → Type 0
HasNoFile tables None = Unit {0}
HasNoFile tables (Some c) = (s : Shape) → shape_of tables c ≡ Some s → holds_file s ≡ false

-- an array holds a file where its component type does
abbrev pub FileAs : List Table → Option TypeId → Bool → Type 0
FileAs tables None file = Unit {0}
FileAs tables (Some c) file = (s : Shape) → shape_of tables c ≡ Some s → file ≡ holds_file s

-- a variant part that has this slot as its tag
abbrev pub IsTagOf : ℕ → Option Part → Type 0
IsTagOf k None = Unit {0}
IsTagOf k (Some q) = q.tag ≡ k

abbrev pub TagsPart : RecordShape → ℕ → Option ℕ → Type 0
TagsPart r k None = Unit {0}
TagsPart r k (Some n) = IsTagOf k (slice_get r.parts n)

-- an array type: its index type, which has values, and its component type, whose cells are counted
abbrev pub CompleteArray : List Table → Option Bounds → Option TypeId → ℕ → ℕ → Type 0
CompleteArray tables None c size cells = ⊥
CompleteArray tables (Some b) None size cells = ⊥
CompleteArray tables (Some b) (Some c) size cells = ((s : Shape) × (shape_of tables c ≡ Some s) × (size ≡ cells_of s)) × (cells ≡ array_cells (Some b) size) × (int_le b.low b.high ≡ true)

-- an ordinal type
abbrev pub OrdinalType : List Table → TypeId → Type 0
OrdinalType tables host = (s : Shape) × (shape_of tables host ≡ Some s) × (is_some (ordinal (record { id = Some host; shape = s })) ≡ true)

-- a field or a variant part stands in no variant, or in one of a part that is there
abbrev pub HasPart : RecordShape → Option Within → Type 0
HasPart r None = Unit {0}
HasPart r (Some w) = (q : Part) × (slice_get r.parts w.part ≡ Some q)

abbrev pub OrdinalIf : List Table → Option TypeId → Type 0
OrdinalIf tables None = ⊥
OrdinalIf tables (Some t) = OrdinalType tables t

abbrev pub TagStands : List Table → Option Slot → Type 0
TagStands tables None = ⊥
TagStands tables (Some s) = OrdinalIf tables s.of

-- The fields have types that stand, and the tag of each variant part is a slot of an ordinal type.
pub record CompleteRecord (tables : List Table) (r : RecordShape) : Type 0 where
  pub slots : (k : ℕ) (s : Slot) → slice_get r.slots k ≡ Some s → Standing tables s.of × HasPart r s.within
  pub parts : (k : ℕ) (q : Part) → slice_get r.parts k ≡ Some q → HasPart r q.within × TagStands tables (slice_get r.slots q.tag)
  -- a slot that names a variant part is its tag
  pub tags : (k : ℕ) (s : Slot) → slice_get r.slots k ≡ Some s → TagsPart r k s.tags
  -- a record that is said to hold no file has none
  pub files : r.file ≡ false → (k : ℕ) (s : Slot) → slice_get r.slots k ≡ Some s → HasNoFile tables s.of

-- No part of the type's shape is missing. Only the type text is a file type, and a character-string is the type of no variable.
abbrev pub CompleteShape : List Table → TypeId → Shape → Type 0
CompleteShape tables id (shape.Range b) = OrdinalType tables b.host
CompleteShape tables id (shape.Names names) = Unit {0}
CompleteShape tables id (shape.Arr a) = CompleteArray tables a.index a.component a.size a.cells × FileAs tables a.component a.file
CompleteShape tables id (shape.Rec r) = CompleteRecord tables r
CompleteShape tables id (shape.SetOf packed base) = Unit {0}
CompleteShape tables id (shape.Ptr d) = Standing tables d
CompleteShape tables id shape.Text = id ≡ type.Text
CompleteShape tables id (shape.Str n) = ⊥

-- ---- declarations

abbrev pub CompleteConstant : List Table → Option ConstantValue → Type 0
CompleteConstant tables None = ⊥
CompleteConstant tables (Some (value.Ordinal host n)) = OrdinalType tables host
CompleteConstant tables (Some (value.Text s)) = length s ≤ CELL_LIMIT

-- a type is named where one belongs: not with a procedure
abbrev pub IsNamed : FormalKind → Option TypeId → Type 0
IsNamed formal.Procedure of = of ≡ None
IsNamed _ of = is_some of ≡ true

abbrev pub AreNamed : List Formal → Type 0
AreNamed [] = Unit {0}
AreNamed (f ∷ fs) = IsNamed f.kind f.of × AreNamed fs

-- no type is missing in the heading of a procedure or function, nor in those within it
abbrev pub NamedHeading : FormalKind → Heading → Type 0
NamedHeading kind h = AreNamed h.formals × IsNamed kind h.result

abbrev pub CompleteFormal : List Table → FormalKind → Option TypeId → Option Heading → Type 0
CompleteFormal tables formal.Value of own = Standing tables of
CompleteFormal tables formal.Variable of own = Standing tables of
CompleteFormal tables kind of own = NamedHeading kind (heading_or_none own)

abbrev pub CompleteFormals : List Table → List FormalParameter → Type 0
CompleteFormals tables [] = Unit {0}
CompleteFormals tables (f ∷ fs) = CompleteFormal tables f.formal.kind f.formal.of f.own × CompleteFormals tables fs

-- the heading of a procedure or function
abbrev pub CompleteHeading : List Table → FormalKind → Heading → Type 0
CompleteHeading tables kind h = CompleteFormals tables (parameters_in h.formals) × NamedHeading kind h

abbrev pub CompleteParameter : List Table → FormalKind → Option TypeId → Option Heading → Type 0
CompleteParameter tables formal.Value of own = Standing tables of
CompleteParameter tables formal.Variable of own = Standing tables of
CompleteParameter tables formal.Procedure of own = CompleteHeading tables formal.Procedure (heading_or_none own)
CompleteParameter tables formal.Function of own = CompleteHeading tables formal.Function (heading_or_none own) × ResultStands tables (heading_or_none own).result

-- a procedure or function of the block with this path: it has a block, and the block around that one has its heading
pub record CompleteRoutine (tables : List Table) (path : List PathStep) (function : Bool) (r : Routine) : Type 0 where
  pub step : PathStep
  pub block : r.block ≡ Some (path ++ step ∷ [])
  pub nested : Nested
  pub is : nested_at tables [] (path ++ step ∷ []) ≡ Some nested
  pub of_kind : nested.function ≡ function
  pub heading : nested.heading ≡ r.heading
  pub complete : CompleteHeading tables (function_kind function) r.heading

-- what the block with this path declares
abbrev pub CompleteDecl : List Table → List PathStep → Decl → Type 0
CompleteDecl tables path (decl.Const q v) = CompleteConstant tables v
CompleteDecl tables path (decl.Sort q t) = Unit {0}
CompleteDecl tables path (decl.Var q v) = (q ≡ path) × Standing tables v.of
CompleteDecl tables path (decl.Param q p) = (q ≡ path) × CompleteParameter tables p.kind p.of p.own
CompleteDecl tables path (decl.Proc q r) = (q ≡ path) × CompleteRoutine tables path false r
CompleteDecl tables path (decl.Func q r offset) = (q ≡ path) × CompleteRoutine tables path true r × ResultStands tables r.heading.result
CompleteDecl tables path (decl.Label q s) = q ≡ path
CompleteDecl tables path (decl.Required r) = Unit {0}

-- the same of a declaration whose path and labels are known to be the block's
abbrev pub PartsOf : List Table → List PathStep → Decl → Type 0
PartsOf tables path (decl.Const q v) = CompleteConstant tables v
PartsOf tables path (decl.Sort q t) = Unit {0}
PartsOf tables path (decl.Var q v) = Standing tables v.of
PartsOf tables path (decl.Param q p) = CompleteParameter tables p.kind p.of p.own
PartsOf tables path (decl.Proc q r) = CompleteRoutine tables path false r
PartsOf tables path (decl.Func q r offset) = CompleteRoutine tables path true r × ResultStands tables r.heading.result
PartsOf tables path (decl.Label q s) = Unit {0}
PartsOf tables path (decl.Required r) = Unit {0}

-- Nothing is missing: no declaration lacks a part, and no type that stands; and each block that a block has, has a table.
pub record NothingMissing (tables : List Table) : Type 0 where
  pub names : (path : List PathStep) (t : Table) (n : List ℕ) (e : Entry) → table_at tables path ≡ Some t → lookup (bytes_eq n) t.names ≡ Some e → PartsOf tables path e.decl
  pub blocks : (path : List PathStep) (n : Nested) → nested_at tables [] path ≡ Some n → HasTable tables path
  pub shapes : (id : TypeId) (s : Shape) → shape_of tables id ≡ Some s → CompleteShape tables id s

-- nothing is missing, and each declaration has the path of its block
pub record Complete (tables : List Table) : Type 0 where
  pub names : (path : List PathStep) (t : Table) (n : List ℕ) (e : Entry) → table_at tables path ≡ Some t → lookup (bytes_eq n) t.names ≡ Some e → CompleteDecl tables path e.decl
  pub shapes : (id : TypeId) (s : Shape) → shape_of tables id ≡ Some s → CompleteShape tables id s

-- ---- trees of texts: character-strings have no more characters than a variable may have cells, since a text is shorter than that, and each
-- `repeat` has a statement
abbrev mutual
  pub ShortExpr : PlainExpr → Type 0
  ShortExpr (Number n) = Unit {0}
  ShortExpr (Text s) = length s.characters ≤ CELL_LIMIT
  ShortExpr (Nil at) = Unit {0}
  ShortExpr (Access x steps) = ShortSelectors steps
  ShortExpr (Call x given) = ShortActuals given
  ShortExpr (Inside at x) = ShortExpr x
  ShortExpr (Not at x) = ShortExpr x
  ShortExpr (Set at ms) = ShortMembers ms
  ShortExpr (Product first more) = ShortExpr first × ShortOperations more
  ShortExpr (Sum s first more) = ShortExpr first × ShortOperations more
  ShortExpr (Relation x at o y) = ShortExpr x × ShortExpr y

  pub ShortSelectors : PlainSelectors → Type 0
  ShortSelectors NoSelectors = Unit {0}
  ShortSelectors (Index at x more) = ShortExpr x × ShortSelectors more
  ShortSelectors (Field at x more) = ShortSelectors more
  ShortSelectors (Follow at more) = ShortSelectors more

  pub ShortActuals : PlainActuals → Type 0
  ShortActuals NoActuals = Unit {0}
  ShortActuals (Actual x more) = ShortExpr x × ShortActuals more
  ShortActuals (ActualWithWidth x at w more) = ShortExpr x × ShortExpr w × ShortActuals more

  pub ShortMembers : PlainMembers → Type 0
  ShortMembers NoMembers = Unit {0}
  ShortMembers (Member x more) = ShortExpr x × ShortMembers more
  ShortMembers (MemberRange x y more) = ShortExpr x × ShortExpr y × ShortMembers more

  pub ShortOperations : PlainOperations → Type 0
  ShortOperations NoOperations = Unit {0}
  ShortOperations (Operation at o x more) = ShortExpr x × ShortOperations more

abbrev pub ShortAccesses : List PlainAccess → Type 0
ShortAccesses [] = Unit {0}
ShortAccesses (a ∷ more) = ShortSelectors a.selectors × ShortAccesses more

-- a sequence has a statement (6.8.3.1)
abbrev pub HasStatement : PlainStatements → Type 0
HasStatement NoStatements = ⊥
HasStatement (Sequence s more) = Unit {0}

abbrev mutual
  pub ShortStatement : PlainStatement → Type 0
  ShortStatement (Labelled n s) = ShortStatement s
  ShortStatement (Empty at) = Unit {0}
  ShortStatement (Assign a at x) = ShortSelectors a.selectors × ShortExpr x
  ShortStatement (source.Call x given) = ShortActuals given
  ShortStatement (Goto at n) = Unit {0}
  ShortStatement (Compound at more) = ShortStatements more
  ShortStatement (If at x s) = ShortExpr x × ShortStatement s
  ShortStatement (IfElse at x s t) = ShortExpr x × ShortStatement s × ShortStatement t
  ShortStatement (Case at x more) = ShortExpr x × ShortArms more
  ShortStatement (While at x s) = ShortExpr x × ShortStatement s
  ShortStatement (Repeat at more x) = HasStatement more × ShortStatements more × ShortExpr x
  ShortStatement (For at head s) = ShortExpr head.first × ShortExpr head.last × ShortStatement s
  ShortStatement (With at records s) = ShortAccesses records × ShortStatement s

  pub ShortStatements : PlainStatements → Type 0
  ShortStatements NoStatements = Unit {0}
  ShortStatements (Sequence s more) = ShortStatement s × ShortStatements more

  pub ShortArms : PlainArms → Type 0
  ShortArms NoArms = Unit {0}
  ShortArms (Arm constants s more) = ShortStatement s × ShortArms more

abbrev pub ShortBlocks : List PlacedBlock → Type 0
ShortBlocks [] = Unit {0}
ShortBlocks (b ∷ bs) = ShortStatements (statements_of_part b.own.statements) × ShortBlocks bs

-- The typed trees of a program without errors are checked, where nothing is missing in its tables.
abbrev pub CompleteIsChecked : PlainTree → Type 0
CompleteIsChecked program = NothingMissing (tables_of program) → ShortBlocks (blocks program) → IsAccepted program → CheckedBlocks (tables_of program) (blocks program)
