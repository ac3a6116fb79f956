-- How what the code goes by is seen by the rules, and what stands in it.
use Rattle.std.specs.Prelude.{ℕ, List, Option, Some, None, map}
use Rattle.std.specs.List.{AllByRecursion}
use Rattle.mp_tables.specs.declared.types.RecordShape.{RecordShape}
use Rattle.mp_tables.specs.declared.types.Shape.TheVariants as shape
use Rattle.mp_tables.specs.declared.types.Typed.{Typed}
use Rattle.mp_tables.specs.Standing.{Types, Paths, TypeIfStands, ShapeStands, DeclStands}
use Rattle.mp_tables.specs.Names as name
use Rattle.mp_tables.specs.Names.{field_at}
use Rattle.mp_expr_rules.specs.declared.region.Opened.{Opened}
use Rattle.mp_expr_rules.specs.declared.region.Region.{Region}
use Rattle.mp_expr_rules.specs.declared.region.Field.{Field}
use Rattle.mp_expr_rules.specs.declared.region.OpenField.{OpenField}
use Rattle.mp_expr_rules.specs.declared.region.Use.{Use}
use Rattle.mp_expr_rules.specs.declared.region.Use.TheVariants as uses

-- ---- regions and fields

abbrev pub opened_of : Opened → name.Opened
opened_of o = record { number = o.number; fields = o.fields }

abbrev pub region_of : Region → name.Region
region_of r = record { path = r.path; opened = map opened_of r.opened; controlled = r.controlled }

-- the field of this name
abbrev pub field_of : List ℕ → Field → name.Field
field_of n f = record { of = f.of.now; at = field_at f.of.now n f.number f.slot.now; slot = f.slot.now }

-- what a name is
abbrev pub use_of : List ℕ → Use → name.Use
use_of n (uses.OpenField number f) = name.OpenField number (field_of n f)
use_of n (uses.Declared d) = name.Declared d

-- the same where nothing is found, or a field of an open record
abbrev pub open_of : List ℕ → OpenField → name.Use
open_of n o = name.OpenField o.number (field_of n o.field)

-- ---- what stands

abbrev pub TypedStands : Types → Typed → Type 0
TypedStands types t = TypeIfStands types t.id × ShapeStands types t.shape

abbrev pub TypedIfStands : Types → Option Typed → Type 0
TypedIfStands types None = Unit {0}
TypedIfStands types (Some t) = TypedStands types t

abbrev pub RecordIfStands : Types → Option RecordShape → Type 0
RecordIfStands types None = Unit {0}
RecordIfStands types (Some r) = ShapeStands types (shape.Rec r)

-- the records that are open
abbrev pub RegionStands : Types → Region → Type 0
RegionStands types r = AllByRecursion (λ o. RecordIfStands types o.fields) r.opened

-- the types in what a name is
abbrev pub UseStands : Types → Paths → name.Use → Type 0
UseStands types paths (name.OpenField number f) = TypeIfStands types f.slot.of
UseStands types paths (name.Declared d) = DeclStands types paths d

abbrev pub UseIfStands : Types → Paths → Option name.Use → Type 0
UseIfStands types paths None = Unit {0}
UseIfStands types paths (Some u) = UseStands types paths u
