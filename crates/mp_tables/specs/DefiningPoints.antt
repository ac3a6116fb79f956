-- The defining points of a block, in order of text (ISO 7185, 6.2.2.1, 6.2.2.2, 6.2.2.5). What each declares is filled in where
-- its definition is read; up to then a definition is of its kind, and has no type.
use Rattle.std.specs.Prelude.{ℕ, ◌+◌, ◌-◌, Bool, true, false, not, ◌&&◌, List, [], ◌∷◌, ◌++◌, Option, Some, None, map, flat_map, filter, count_by, bytes_eq, nat_eq, codes, is_some, if◌then◌else◌}
use Rattle.std.specs.List.{list_any}
use Rattle.std.specs.Map.{lookup}
use Rattle.mp_base.specs.declared.path.PathStep.{PathStep}
use Rattle.mp_ast.specs.declared.leaves.Identifier.{Identifier}
use Rattle.mp_ast.specs.declared.leaves.Number.{Number}
use Rattle.mp_ast.specs.declared.headings.HeadingKind.{HeadingKind}
use Rattle.mp_ast.specs.declared.headings.HeadingKind.TheVariants as heading_kind
use Rattle.mp_ast.specs.declared.blocks.ProgramHeading.{ProgramHeading}
use Rattle.mp_ast.specs.declared.blocks.ConstantDefinition.{ConstantDefinition}
use Rattle.mp_ast.specs.PlainTypes.{PlainDenoter, Named, Enumeration, Subrange, Pointer, Array, Record, Set, File, Fields, FieldsWithVariants, PlainIndices, NoIndices, Index, PlainSections, NoSections, Section, PlainVariants, NoVariants, Variant}
use Rattle.mp_ast.specs.PlainTrees.{PlainBlock, PlainDeclaration, PlainTypeDefinition, statements_of_part}
use Rattle.mp_ast.specs.Blocks.{is_block}
use Rattle.mp_tables.specs.declared.headings.Formal.{Formal}
use Rattle.mp_tables.specs.declared.headings.Heading.{Heading}
use Rattle.mp_tables.specs.declared.required.Required.{Required}
use Rattle.mp_tables.specs.declared.required.Required.TheVariants as name
use Rattle.mp_tables.specs.declared.declarations.Decl.{Decl}
use Rattle.mp_tables.specs.declared.declarations.Decl.TheVariants as decl
use Rattle.mp_tables.specs.declared.tables.Entry.{Entry}
use Rattle.mp_tables.specs.RequiredNames.{standard_file}
use Rattle.mp_tables.specs.StatementWalks.{controls_in, label_name, standing_of}

-- ---- the constants of the enumerations in a denoter
abbrev mutual
  pub enumerated : PlainDenoter → List Identifier
  enumerated (Enumeration at constants) = constants
  enumerated (Array at packed indices component) = enumerated_indices indices ++ enumerated component
  enumerated (Record at packed fields) = enumerated fields
  enumerated (Set at packed base) = enumerated base
  enumerated (File at file component) = enumerated component
  enumerated (Fields fixed) = enumerated_sections fixed
  enumerated (FieldsWithVariants fixed at tag of variants) = enumerated_sections fixed ++ enumerated_variants variants
  enumerated (Named name) = []
  enumerated (Subrange first last) = []
  enumerated (Pointer at domain) = []

  pub enumerated_indices : PlainIndices → List Identifier
  enumerated_indices NoIndices = []
  enumerated_indices (Index at d more) = enumerated d ++ enumerated_indices more

  pub enumerated_sections : PlainSections → List Identifier
  enumerated_sections NoSections = []
  enumerated_sections (Section names d more) = enumerated d ++ enumerated_sections more

  pub enumerated_variants : PlainVariants → List Identifier
  enumerated_variants NoVariants = []
  enumerated_variants (Variant constants d more) = enumerated d ++ enumerated_variants more

-- ---- procedures and functions, and which heading each block has (6.6.1, 6.6.2)

abbrev pub is_function : HeadingKind → Bool
is_function heading_kind.Procedure = false
is_function (heading_kind.Function result) = true

abbrev pub same_bool : Bool → Bool → Bool
same_bool true b = b
same_bool false b = not b

abbrev pub name_of : PlainDeclaration → List ℕ
name_of d = d.heading.name.name

-- the same name and kind
abbrev pub alike : PlainDeclaration → PlainDeclaration → Bool
alike d e = bytes_eq (name_of d) (name_of e) && same_bool (is_function d.heading.kind) (is_function e.heading.kind)

-- The ordinal of the name of the heading that a declaration has, among those before it, the nearest first: where the nearest
-- one of its name and kind is a `forward` heading, it completes that one.
abbrev pub origin : PlainDeclaration → List PlainDeclaration → ℕ
origin d [] = d.heading.name.at
origin d (e ∷ earlier) =
    if alike d e then (if is_block e.body then d.heading.name.at else origin e earlier)
    else origin d earlier

abbrev pub completes : PlainDeclaration → List PlainDeclaration → Bool
completes d earlier = not (nat_eq (origin d earlier) d.heading.name.at)

-- a block's step from its enclosing block, behind these declarations
abbrev pub step_of : PlainDeclaration → List PlainDeclaration → PathStep
step_of d earlier = record { name = name_of d; nth = count_by (λ e. is_block e.body && bytes_eq (name_of d) (name_of e)) earlier + 1 }

-- The path of the block of what a declaration declares, behind these and before those: its own, or that of the one which
-- completes it.
abbrev pub block_path : List PathStep → PlainDeclaration → List PlainDeclaration → List PlainDeclaration → Option (List PathStep)
block_path path d earlier later = if is_block d.body then Some (path ++ step_of d earlier ∷ []) else completing earlier later
  where
    completing : List PlainDeclaration → List PlainDeclaration → Option (List PathStep)
    completing before [] = None
    completing before (e ∷ more) =
        if alike d e && is_block e.body then Some (path ++ step_of e before ∷ [])
        else completing (e ∷ before) more

-- ---- defining points

-- a name with its declaration; a name of several defining points stands in the list as often
abbrev pub Points : Type 0
Points = List (List ℕ × Entry)

abbrev pub point : List ℕ → ℕ → ℕ → Decl → List ℕ × Entry
point n at last d = (n, record { decl = d; at = at; last = last })

-- What a defining point declares that is not read yet: no use finds it but in a tree whose ordinals are out of order, and then it is refused.
abbrev pub not_read : Decl
not_read = decl.Required name.Real

-- the name that tells whether the program's heading names a file, whatever else has the file's name: no identifier is spelled so
abbrev pub mark_of : List ℕ → List ℕ
mark_of n = codes "0" ++ n

abbrev pub file_points : Identifier → Option Required → Points
file_points x None = []
file_points x (Some r) = point x.name x.at x.at (decl.Required r) ∷ point (mark_of x.name) x.at x.at (decl.Required r) ∷ []

-- `input` and `output`, where the program's heading names them
abbrev pub program_points : Option ProgramHeading → Points
program_points None = []
program_points (Some h) = flat_map (λ x. file_points x (standard_file x.name)) h.parameters

-- a parameter has no token in its own block
abbrev pub parameter_point : List ℕ → Decl → List ℕ × Entry
parameter_point n d = point n 0 0 d

-- the parameters of the block itself
abbrev pub own_formals : Heading → List Formal
own_formals h = filter (λ f. nat_eq f.depth 0) h.formals

-- what is known of a block before its declarations are read: its path, its tree, and its heading
pub record Declaring : Type 0 where
  pub path : List PathStep
  pub own : PlainBlock
  pub heading : Heading

abbrev pub label_point : Declaring → Number → List ℕ × Entry
label_point b n = point (label_name n.value) n.at n.at (decl.Label b.path (standing_of (statements_of_part b.own.statements) n.value))

abbrev pub constant_point : Declaring → ConstantDefinition → List ℕ × Entry
constant_point b d = point d.name.name d.name.at (d.semicolon - 1) not_read

abbrev pub enumeration_points : Declaring → PlainDenoter → Points
enumeration_points b d = map (λ x. point x.name x.at x.at not_read) (enumerated d)

abbrev pub type_points : Declaring → PlainTypeDefinition → Points
type_points b d = point d.name.name d.name.at (d.semicolon - 1) not_read ∷ enumeration_points b d.of

abbrev pub is_control : Declaring → List ℕ → Bool
is_control b n = list_any (bytes_eq n) (controls_in (statements_of_part b.own.statements))

abbrev pub variable_point : Declaring → Identifier → List ℕ × Entry
variable_point b x = point x.name x.at x.at not_read

abbrev pub variable_points : Declaring → PlainSections → Points
variable_points b NoSections = []
variable_points b (Section names d more) = map (variable_point b) names ++ enumeration_points b d ++ variable_points b more

-- a procedure or function with this heading, and with so many cells of parameters
abbrev pub routine : Declaring → PlainDeclaration → List PlainDeclaration → List PlainDeclaration → Heading → ℕ → Decl
routine b d earlier later h cells = by_kind d.heading.kind
  where
    by_kind : HeadingKind → Decl
    by_kind heading_kind.Procedure = decl.Proc b.path (record { heading = h; block = block_path b.path d earlier later })
    by_kind (heading_kind.Function result) = decl.Func b.path (record { heading = h; block = block_path b.path d earlier later }) cells

-- a heading that completes another is no defining point
abbrev pub routine_points : Declaring → List PlainDeclaration → List PlainDeclaration → Points
routine_points b earlier [] = []
routine_points b earlier (d ∷ later) =
    (if completes d earlier then [] else point (name_of d) d.heading.name.at d.heading.name.at not_read ∷ [])
    ++ routine_points b (d ∷ earlier) later

-- the defining points of a block before its declarations, with these of its parameters: a second one of a name is an error of
-- the heading
abbrev pub given_points : Declaring → Points → Points
given_points b parameters = program_points b.own.program ++ parameters

abbrev pub label_points : Declaring → Points
label_points b = map (label_point b) b.own.labels

abbrev pub declared_points : Declaring → Points
declared_points b =
    map (constant_point b) b.own.constants
    ++ flat_map (type_points b) b.own.types
    ++ variable_points b b.own.variables
    ++ routine_points b [] b.own.declarations

-- ---- the first defining point of each name counts

abbrev pub is_known : List ℕ → Points → Bool
is_known n known = is_some (lookup (bytes_eq n) known)

abbrev pub with_point : Points → List ℕ × Entry → Points
with_point known (n, e) = if is_known n known then known else known ++ (n, e) ∷ []

abbrev pub with_points : Points → Points → Points
with_points known [] = known
with_points known (p ∷ points) = with_points (with_point known p) points

-- the defining points of names that were known
abbrev pub repeated : Points → Points → List ℕ
repeated known [] = []
repeated known ((n, e) ∷ points) = (if is_known n known then e.at ∷ [] else []) ++ repeated (with_point known (n, e)) points

-- what a name declares, where this is its first defining point
abbrev pub filled : List ℕ → ℕ → Decl → Points → Points
filled n at d known = map (λ p. if bytes_eq n p.0 && nat_eq p.1.at at then point n at p.1.last d else p) known
