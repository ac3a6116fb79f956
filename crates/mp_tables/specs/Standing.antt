-- What an answer holds stands: the new types in it have shapes, and the paths in it are those of blocks. Both are given as
-- tests, which a scope has. The required types stand everywhere.
use Rattle.std.specs.Prelude.{List, Option, Some, None, Bool, IsTrue}
use Rattle.std.specs.List.{AllByRecursion}
use Rattle.mp_base.specs.declared.path.PathStep.{PathStep}
use Rattle.mp_tables.specs.declared.types.TypeId.{TypeId}
use Rattle.mp_tables.specs.declared.types.TypeId.TheVariants as type
use Rattle.mp_tables.specs.declared.types.Bounds.{Bounds}
use Rattle.mp_tables.specs.declared.types.Shape.{Shape}
use Rattle.mp_tables.specs.declared.types.Shape.TheVariants as shape
use Rattle.mp_tables.specs.declared.headings.Heading.{Heading}
use Rattle.mp_tables.specs.declared.declarations.ConstantValue.{ConstantValue}
use Rattle.mp_tables.specs.declared.declarations.ConstantValue.TheVariants as value
use Rattle.mp_tables.specs.declared.declarations.Decl.{Decl}
use Rattle.mp_tables.specs.declared.declarations.Decl.TheVariants as decl
use Rattle.mp_tables.specs.declared.questions.Seen.{Seen}
use Rattle.mp_tables.specs.declared.questions.Seen.TheVariants as see
use Rattle.mp_tables.specs.declared.questions.Question.{Question}
use Rattle.mp_tables.specs.declared.questions.Question.TheVariants as question
use Rattle.mp_tables.specs.declared.questions.Given.{Given}
use Rattle.mp_tables.specs.declared.questions.Given.TheVariants as given
use Rattle.mp_tables.specs.declared.tables.Table.{Table}

-- which identities of types stand
abbrev pub Types : Type 0
Types = TypeId → Bool

-- which paths stand
abbrev pub Paths : Type 0
Paths = List PathStep → Bool

abbrev pub PathStands : Paths → List PathStep → Type 0
PathStands paths path = IsTrue (paths path)

abbrev pub PathIfStands : Paths → Option (List PathStep) → Type 0
PathIfStands paths None = Unit {0}
PathIfStands paths (Some path) = PathStands paths path

-- ---- types

abbrev pub TypeStands : Types → TypeId → Type 0
TypeStands types (type.Own path at) = IsTrue (types (type.Own path at))
TypeStands types _ = Unit {0}

abbrev pub TypeIfStands : Types → Option TypeId → Type 0
TypeIfStands types None = Unit {0}
TypeIfStands types (Some id) = TypeStands types id

abbrev pub BoundsStand : Types → Option Bounds → Type 0
BoundsStand types None = Unit {0}
BoundsStand types (Some b) = TypeStands types b.host

abbrev pub ShapeStands : Types → Shape → Type 0
ShapeStands types (shape.Range b) = TypeStands types b.host
ShapeStands types (shape.Names names) = Unit {0}
ShapeStands types (shape.Arr a) = BoundsStand types a.index × TypeIfStands types a.component
ShapeStands types (shape.Rec r) = AllByRecursion (λ s. TypeIfStands types s.of) r.slots × AllByRecursion (λ p. TypeIfStands types p.host) r.parts
ShapeStands types (shape.SetOf packed base) = BoundsStand types base
ShapeStands types (shape.Ptr domain) = TypeIfStands types domain
ShapeStands types shape.Text = Unit {0}
ShapeStands types (shape.Str length) = Unit {0}

-- ---- headings

abbrev pub HeadingStands : Types → Heading → Type 0
HeadingStands types h = AllByRecursion (λ f. TypeIfStands types f.of) h.formals × TypeIfStands types h.result

abbrev pub HeadingIfStands : Types → Option Heading → Type 0
HeadingIfStands types None = Unit {0}
HeadingIfStands types (Some h) = HeadingStands types h

-- ---- declarations

abbrev pub ConstantStands : Types → Option ConstantValue → Type 0
ConstantStands types None = Unit {0}
ConstantStands types (Some (value.Ordinal host n)) = TypeStands types host
ConstantStands types (Some (value.Text characters)) = Unit {0}

-- the block that declares it stands, and the block that it has
abbrev pub DeclStands : Types → Paths → Decl → Type 0
DeclStands types paths (decl.Const path v) = PathStands paths path × ConstantStands types v
DeclStands types paths (decl.Sort path id) = PathStands paths path × TypeIfStands types id
DeclStands types paths (decl.Var path v) = PathStands paths path × TypeIfStands types v.of
DeclStands types paths (decl.Param path p) = PathStands paths path × TypeIfStands types p.of × HeadingIfStands types p.own
DeclStands types paths (decl.Proc path r) = PathStands paths path × HeadingStands types r.heading × PathIfStands paths r.block
DeclStands types paths (decl.Func path r offset) = PathStands paths path × HeadingStands types r.heading × PathIfStands paths r.block
DeclStands types paths (decl.Label path standing) = PathStands paths path
DeclStands types paths (decl.Required r) = Unit {0}

abbrev pub SeenStands : Types → Paths → Seen → Type 0
SeenStands types paths (see.Is d) = DeclStands types paths d
SeenStands types paths see.NotYet = Unit {0}
SeenStands types paths see.Absent = Unit {0}

-- ---- answers

abbrev pub GivenStands : Types → Paths → Given → Type 0
GivenStands types paths (given.Seen s) = SeenStands types paths s
GivenStands types paths (given.Shape s) = ShapeStands types s
GivenStands types paths (given.Heading h) = HeadingStands types h
GivenStands types paths (given.Assigns b) = Unit {0}

-- what may be asked: names everywhere, and of types and blocks those that stand
abbrev pub QuestionStands : Types → Paths → Question → Type 0
QuestionStands types paths (question.Name name place) = Unit {0}
QuestionStands types paths (question.Shape id) = IsTrue (types id)
QuestionStands types paths (question.Heading path) = PathStands paths path
QuestionStands types paths (question.Assigns path) = PathStands paths path

-- ---- tables

-- what a table answers with: its declarations, its blocks' headings, and the shapes of its types
pub record TableStands (types : Types) (paths : Paths) (t : Table) : Type 0 where
  pub names : AllByRecursion (λ n. DeclStands types paths n.1.decl) t.names
  pub nested : AllByRecursion (λ x. HeadingStands types x.heading) t.nested
  pub shapes : AllByRecursion (λ s. ShapeStands types s.shape) t.shapes
