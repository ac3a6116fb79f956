-- What a block declares, and the errors of its declarations (ISO 7185, 6.2.1, 6.2.2, 6.10).
use Rattle.std.specs.Prelude.{ℕ, Bool, true, false, not, ◌&&◌, ◌||◌, List, [], ◌∷◌, ◌++◌, Option, Some, None, map, flat_map, find, bytes_eq, nat_eq, nat_lt, is_some, option_map, unwrap_or, if◌then◌else◌}
use Rattle.std.specs.List.{list_any}
use Rattle.std.specs.Map.{lookup}
use Rattle.mp_base.specs.declared.path.PathStep.{PathStep}
use Rattle.mp_ast.specs.declared.leaves.Identifier.{Identifier}
use Rattle.mp_ast.specs.declared.leaves.Number.{Number}
use Rattle.mp_ast.specs.declared.blocks.ProgramHeading.{ProgramHeading}
use Rattle.mp_ast.specs.declared.blocks.ConstantDefinition.{ConstantDefinition}
use Rattle.mp_ast.specs.PlainHeadings.{NoFormals}
use Rattle.mp_ast.specs.PlainTypes.{PlainDenoter, Named, Enumeration, Subrange, Pointer, Array, Record, Set, File, Fields, FieldsWithVariants, PlainIndices, NoIndices, Index, PlainSections, NoSections, Section, PlainVariants, NoVariants, Variant}
use Rattle.mp_ast.specs.PlainHeadings.{PlainFormals}
use Rattle.mp_ast.specs.PlainTrees.{PlainBlock, PlainDeclaration, PlainTypeDefinition, statements_of_part}
use Rattle.mp_ast.specs.Blocks.{is_block}
use Rattle.mp_tables.specs.declared.types.TypeId.{TypeId}
use Rattle.mp_tables.specs.declared.types.TypeId.TheVariants as type
use Rattle.mp_tables.specs.declared.types.Shape.TheVariants as shape
use Rattle.mp_tables.specs.declared.headings.FormalKind.{FormalKind}
use Rattle.mp_tables.specs.declared.headings.FormalKind.TheVariants as formal
use Rattle.mp_tables.specs.declared.headings.Heading.{Heading}
use Rattle.mp_tables.specs.declared.declarations.Decl.{Decl}
use Rattle.mp_tables.specs.declared.declarations.Decl.TheVariants as decl
use Rattle.mp_tables.specs.declared.tables.Entry.{Entry}
use Rattle.mp_tables.specs.declared.tables.Elaborated.{Elaborated}
use Rattle.mp_tables.specs.declared.tables.Shaped.{Shaped}
use Rattle.mp_tables.specs.declared.typed_statements.FrameKind.{FrameKind}
use Rattle.mp_tables.specs.declared.typed_statements.FrameKind.TheVariants as frame_kind
use Rattle.mp_tables.specs.declared.typed_statements.FrameSlot.{FrameSlot}
use Rattle.mp_tables.specs.Asks.{Asks, heading as ask_heading}
use Rattle.mp_tables.specs.Asks.{◌>>=◌ as ◌>>=ᵃ◌, pure as pureᵃ}
use Rattle.mp_tables.specs.Reports.{Rule, pure, ◌>>=◌, ◌>>◌, each, report, report_if}
use Rattle.mp_tables.specs.RequiredNames.{standard_file}
use Rattle.mp_tables.specs.TypeRelations.{same}
use Rattle.mp_tables.specs.Sizes.{sum_of}
use Rattle.mp_tables.specs.Seen.{no_heading}
use Rattle.mp_tables.specs.StatementWalks.{has_value, assigned_in}
use Rattle.mp_tables.specs.Constants.{constant}
use Rattle.mp_tables.specs.DefiningPoints.{Points, Declaring, parameter_point, given_points, label_points, declared_points, with_points, repeated, routine, is_function, is_control, name_of, alike, origin, completes, step_of}
use Rattle.mp_tables.specs.Denoters.{Known, Headed, Elaboration, by_rule, change, fill, looking, look_at, type_use, typed_here_if, size_of, denote}
use Rattle.mp_tables.specs.Headings.{FormalParameter, heading, parameters_in, named_result}

-- ---- frames: the parameters, a function's result, the variables, in this order

abbrev pub frame_cells : List FrameSlot → ℕ
frame_cells slots = sum_of (map (λ s. s.cells) slots)

abbrev pub add_slot : List ℕ → FrameKind → Option TypeId → ℕ → Elaboration (Unit {0})
add_slot n kind id cells =
    change (λ k. record k { frame = k.frame ++ record { name = n; kind = kind; of = id; offset = frame_cells k.frame; cells = cells } ∷ [] })

-- a value parameter has the cells of its type; a variable or procedural one has a single cell
abbrev pub parameter_cells : List PathStep → FormalParameter → Elaboration ℕ
parameter_cells path p = by_kind p.formal.kind
  where
    by_kind : FormalKind → Elaboration ℕ
    by_kind formal.Value = typed_here_if path p.formal.of >>= (λ t. pure (size_of t))
    by_kind _ = pure 1

-- the type of a value or variable parameter
abbrev pub parameter_type : FormalParameter → Option TypeId
parameter_type p = by_kind p.formal.kind
  where
    by_kind : FormalKind → Option TypeId
    by_kind formal.Value = p.formal.of
    by_kind formal.Variable = p.formal.of
    by_kind _ = None

abbrev pub parameter_slots : List PathStep → List FormalParameter → Elaboration (Unit {0})
parameter_slots path [] = pure tt
parameter_slots path (p ∷ more) = do
  cells ← parameter_cells path p
  add_slot p.formal.name (frame_kind.Parameter p.formal.kind) (parameter_type p) cells
  parameter_slots path more

-- the cells of all parameters
abbrev pub cells_of_parameters : List PathStep → List FormalParameter → Elaboration ℕ
cells_of_parameters path [] = pure 0
cells_of_parameters path (p ∷ more) =
    parameter_cells path p >>= (λ n. cells_of_parameters path more >>= (λ m. pure (sum_of (n ∷ m ∷ []))))

abbrev pub result_slot : List ℕ → Option TypeId → Elaboration (Unit {0})
result_slot n None = pure tt
result_slot n (Some id) = add_slot n frame_kind.Result (Some id) 1

-- ---- parameters as names of their block

abbrev pub parameter_points : List PathStep → List FormalParameter → List FrameSlot → Points
parameter_points path [] slots = []
parameter_points path (p ∷ more) [] = []
parameter_points path (p ∷ more) (s ∷ slots) =
    parameter_point p.formal.name (decl.Param path (record { kind = p.formal.kind; of = parameter_type p; offset = s.offset; own = p.own }))
    ∷ parameter_points path more slots

-- ---- labels (6.1.6, 6.2.2)

-- 311: a label above 9999. At the label.
abbrev pub label_range : Number → Rule (Unit {0})
label_range n = report_if (nat_lt 9999 n.value) 311 n.at

-- 307: the label part has this value already. At the later label.
abbrev pub labels : List Number → List Number → Rule (Unit {0})
labels earlier [] = pure tt
labels earlier (n ∷ more) = do
  label_range n
  report_if (list_any (has_value n.value) earlier) 307 n.at
  labels (n ∷ earlier) more

-- ---- defining points

-- 304: the block has the name already, or its parameters, or the program's heading has the file. At the later name.
abbrev pub repeated_names : List ℕ → Rule (Unit {0})
repeated_names points = each (report 304) points

-- all names of a block, first without what they declare
abbrev pub points : Declaring → Points → Points
points b parameters = with_points (with_points [] (given_points b parameters)) (label_points b ++ declared_points b)

-- ---- definitions (6.3, 6.4.1, 6.5.1)

abbrev pub constant_definition : Declaring → ConstantDefinition → Elaboration (Unit {0})
constant_definition b d =
    looking b.path (λ look. constant look d.value) >>= (λ v. fill d.name.name d.name.at (decl.Const b.path v))

-- the `;` that ends the last definition of the type part
abbrev pub type_part_end : List PlainTypeDefinition → ℕ
type_part_end [] = 0
type_part_end (d ∷ []) = d.semicolon
type_part_end (d ∷ e ∷ more) = type_part_end (e ∷ more)

abbrev pub type_definition : Declaring → PlainTypeDefinition → Elaboration (Unit {0})
type_definition b d =
    denote (record { path = b.path; type_part_end = Some (type_part_end b.own.types) }) d.of
    >>= (λ t. fill d.name.name d.name.at (decl.Sort b.path t))

abbrev pub variables : Declaring → Option TypeId → ℕ → List Identifier → Elaboration (Unit {0})
variables b t cells [] = pure tt
variables b t cells (x ∷ xs) = do
  start ← λ k. pureᵃ (frame_cells k.frame, k)
  fill x.name x.at (decl.Var b.path (record { of = t; offset = start; control = is_control b x.name }))
  add_slot x.name frame_kind.Variable t cells
  variables b t cells xs

abbrev pub variable_part : Declaring → PlainSections → Elaboration (Unit {0})
variable_part b NoSections = pure tt
variable_part b (Section names d more) = do
  t ← denote (record { path = b.path; type_part_end = None }) d
  s ← typed_here_if b.path t
  variables b t (size_of s) names
  variable_part b more

-- ---- domain types, which are looked up at the end of the type part (6.4.4)

-- a pointer type: the ordinal of its denoter, and its domain type
pub record PointerType : Type 0 where
  pub at : ℕ
  pub domain : Identifier

abbrev mutual
  pub pointers : PlainDenoter → List PointerType
  pointers (Pointer at x) = record { at = at; domain = x } ∷ []
  pointers (Array at packed indices d) = index_pointers indices ++ pointers d
  pointers (Record at packed fields) = pointers fields
  pointers (Set at packed base) = pointers base
  pointers (File at file d) = pointers d
  pointers (Fields fixed) = section_pointers fixed
  pointers (FieldsWithVariants fixed at tag of vs) = section_pointers fixed ++ variant_pointers vs
  pointers (Named x) = []
  pointers (Enumeration at xs) = []
  pointers (Subrange first last) = []

  pub index_pointers : PlainIndices → List PointerType
  index_pointers NoIndices = []
  index_pointers (Index at d more) = pointers d ++ index_pointers more

  pub section_pointers : PlainSections → List PointerType
  section_pointers NoSections = []
  section_pointers (Section names d more) = pointers d ++ section_pointers more

  pub variant_pointers : PlainVariants → List PointerType
  variant_pointers NoVariants = []
  variant_pointers (Variant constants d more) = pointers d ++ variant_pointers more

abbrev pub pointing : ℕ → Option TypeId → Shaped → Shaped
pointing at d s = if nat_eq s.at at then record { at = at; shape = shape.Ptr d } else s

abbrev pub domain_type : Declaring → ℕ → PointerType → Elaboration (Unit {0})
domain_type b end p = do
  d ← λ k. by_rule (look_at b.path k.names p.domain.at p.domain.name end >>= type_use p.domain.at) k
  change (λ k. record k { shapes = map (pointing p.at d) k.shapes })

abbrev pub domain_types : Declaring → Elaboration (Unit {0})
domain_types b = each (domain_type b (type_part_end b.own.types)) (flat_map (λ d. pointers d.of) b.own.types)

-- ---- procedures and functions (6.6.1, 6.6.2)

abbrev pub has_formals : PlainFormals → Bool
has_formals NoFormals = false
has_formals _ = true

-- 313: a heading that completes a forward one has parameters or a result. At its name.
abbrev pub completing_heading : PlainDeclaration → Rule (Unit {0})
completing_heading d = report_if (has_formals d.heading.formals || is_some (named_result d.heading.kind)) 313 d.heading.name.at

-- 314: a function without a result, which completes no forward function. At its name.
abbrev pub first_heading : PlainDeclaration → Rule (Unit {0})
first_heading d = report_if (is_function d.heading.kind && not (is_some (named_result d.heading.kind))) 314 d.heading.name.at

-- 312: no later heading of the block completes a forward one. At its name.
abbrev pub forward_heading : PlainDeclaration → List PlainDeclaration → Rule (Unit {0})
forward_heading d later = report_if (not (is_block d.body) && not (list_any (alike d) later)) 312 d.heading.name.at

abbrev pub headed : List Headed → ℕ → Heading
headed headings at = unwrap_or (option_map (λ h. h.heading) (find (λ h. nat_eq h.at at) headings)) no_heading

-- a name's first heading, of these that stand before it and behind it
abbrev pub define_routine : Declaring → PlainDeclaration → List PlainDeclaration → List PlainDeclaration → Heading → Elaboration (Unit {0})
define_routine b d earlier later h = do
  by_rule (first_heading d)
  change (λ k. record k { headings = record { at = d.heading.name.at; heading = h } ∷ k.headings })
  cells ← cells_of_parameters b.path (parameters_in h.formals)
  fill (name_of d) d.heading.name.at (routine b d earlier later h cells)

abbrev pub nest : PlainDeclaration → List PlainDeclaration → Known → Known
nest d earlier k =
    if is_block d.body then
    record k { nested = k.nested ++ record { step = step_of d earlier; heading = headed k.headings (origin d earlier); function = is_function d.heading.kind; semicolon = d.semicolon } ∷ [] }
    else k

abbrev pub routine_declarations : Declaring → List PlainDeclaration → List PlainDeclaration → Elaboration (Unit {0})
routine_declarations b earlier [] = pure tt
routine_declarations b earlier (d ∷ later) = do
  h ← heading b.path d.heading
  if completes d earlier then by_rule (completing_heading d) else define_routine b d earlier later h
  by_rule (forward_heading d later)
  change (nest d earlier)
  routine_declarations b (d ∷ earlier) later

-- ---- program parameters (6.10)

abbrev pub is_text : Option TypeId → Bool
is_text None = true
is_text (Some id) = same type.Text id

abbrev pub is_text_variable : Option Entry → Bool
is_text_variable None = false
is_text_variable (Some e) = by_decl e.decl
  where
    by_decl : Decl → Bool
    by_decl (decl.Var path v) = is_text v.of
    by_decl _ = false

-- 304: the program's heading has the name already. 326: it is neither input nor output, and no variable of type text of the
-- program's block. At the parameter.
abbrev pub program_parameters : Points → List Identifier → List Identifier → Rule (Unit {0})
program_parameters known earlier [] = pure tt
program_parameters known earlier (x ∷ xs) = do
  report_if (list_any (λ y. bytes_eq x.name y.name) earlier) 304 x.at
  report_if (not (is_some (standard_file x.name)) && not (is_text_variable (lookup (bytes_eq x.name) known))) 326 x.at
  program_parameters known (x ∷ earlier) xs

abbrev pub program_heading : Option ProgramHeading → Elaboration (Unit {0})
program_heading None = pure tt
program_heading (Some h) = λ k. by_rule (program_parameters k.names [] h.parameters) k

-- ---- a block

-- its parameters and its result
abbrev pub given : Declaring → List ℕ → Elaboration (Unit {0})
given b n = parameter_slots b.path (parameters_in b.heading.formals) >> result_slot n b.heading.result

abbrev pub names_set : Declaring → Elaboration (Unit {0})
names_set b = λ k.
    let params = parameter_points b.path (parameters_in b.heading.formals) k.frame in
    let errors = repeated (with_points [] (given_points b params)) (declared_points b) in
    (by_rule (repeated_names errors) >> change (λ j. record j { names = points b params })) k

abbrev pub declarations : Declaring → List ℕ → Elaboration (Unit {0})
declarations b n = do
  given b n
  names_set b
  by_rule (labels [] b.own.labels)
  each (constant_definition b) b.own.constants
  each (type_definition b) b.own.types
  domain_types b
  variable_part b b.own.variables
  routine_declarations b [] b.own.declarations
  program_heading b.own.program

abbrev pub nothing_known : Known
nothing_known = record { names = []; shapes = []; headings = []; nested = []; frame = []; errors = [] }

-- the name of a block's function
abbrev pub name_at : List PathStep → List ℕ
name_at [] = []
name_at (s ∷ []) = s.name
name_at (s ∷ t ∷ path) = name_at (t ∷ path)

abbrev pub elaborated : List PathStep → PlainBlock → Known → Elaborated
elaborated path own k =
    record {
      table = record { path = path; names = k.names; nested = k.nested; shapes = k.shapes; assigned = assigned_in (statements_of_part own.statements) };
      frame = k.frame;
      errors = k.errors;
    }

-- the declarations of a block, by a scope that knows the blocks around it
abbrev pub elaborate : List PathStep → PlainBlock → Asks Elaborated
elaborate path own =
    ask_heading path
    >>=ᵃ (λ h. declarations (record { path = path; own = own; heading = h }) (name_at path) nothing_known >>=ᵃ (λ p. pureᵃ (elaborated path own p.1)))
