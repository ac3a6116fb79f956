-- What the rules of declarations leave as it is: they report errors, make types, and fill definitions in. An invariant that these
-- keep holds behind each rule. So errors only grow, and only the variable part makes slots of variables.
use Rattle.std.proofs.Common.{◌≡◌, ℕ, ◌+◌, pos, Bool, true, false, cond, not, ◌&&◌, ◌||◌, List, [], ◌∷◌, ◌++◌, Option, Some, None, map, length, nat_lt, is_some, is_none}
use Rattle.std.specs.Prelude.{bytes_eq, flat_map, if◌then◌else◌}
use Rattle.std.specs.Map.{lookup}
use Rattle.std.specs.List.{list_any}
use Rattle.mp_base.specs.declared.path.PathStep.{PathStep}
use Rattle.mp_ast.specs.declared.leaves.Identifier.{Identifier}
use Rattle.mp_ast.specs.declared.leaves.Number.{Number}
use Rattle.mp_ast.specs.declared.leaves.Constant.{Constant}
use Rattle.mp_ast.specs.declared.leaves.Constant.TheVariants as constants
use Rattle.mp_ast.specs.declared.leaves.Sign.{Sign}
use Rattle.mp_ast.specs.declared.headings.HeadingKind.{HeadingKind}
use Rattle.mp_ast.specs.declared.headings.HeadingKind.TheVariants as heading_kind
use Rattle.mp_ast.specs.declared.blocks.ProgramHeading.{ProgramHeading}
use Rattle.mp_ast.specs.declared.blocks.ConstantDefinition.{ConstantDefinition}
use Rattle.mp_ast.specs.PlainTypes.{PlainDenoter, Named, Enumeration, Subrange, Pointer, Array, Record, Set, File, Fields, FieldsWithVariants, PlainIndices, NoIndices, Index, PlainSections, NoSections, Section, PlainVariants, NoVariants, Variant}
use Rattle.mp_ast.specs.PlainHeadings.{PlainHeading, PlainFormals, NoFormals, Formal, PlainFormalSection, Values, Variables, Procedure, Function}
use Rattle.mp_ast.specs.PlainTrees.{PlainBlock, PlainDeclaration, PlainTypeDefinition}
use Rattle.mp_ast.specs.Blocks.{same_path, is_block}
use Rattle.mp_ast.specs.FirstTokens.{first_of_constant, first_of_denoter}
use Rattle.mp_tables.specs.declared.types.TypeId.{TypeId}
use Rattle.mp_tables.specs.declared.types.TypeId.TheVariants as type
use Rattle.mp_tables.specs.declared.types.Bounds.{Bounds}
use Rattle.mp_tables.specs.declared.types.Within.{Within as InVariant}
use Rattle.mp_tables.specs.declared.types.Shape.{Shape}
use Rattle.mp_tables.specs.declared.types.Shape.TheVariants as shape
use Rattle.mp_tables.specs.declared.types.Typed.{Typed}
use Rattle.mp_tables.specs.declared.headings.FormalKind.{FormalKind}
use Rattle.mp_tables.specs.declared.headings.FormalKind.TheVariants as formal
use Rattle.mp_tables.specs.declared.headings.Heading.{Heading}
use Rattle.mp_tables.specs.declared.required.Required.TheVariants as name
use Rattle.mp_tables.specs.declared.declarations.ConstantValue.{ConstantValue}
use Rattle.mp_tables.specs.declared.declarations.ConstantValue.TheVariants as value
use Rattle.mp_tables.specs.declared.declarations.Decl.{Decl}
use Rattle.mp_tables.specs.declared.declarations.Decl.TheVariants as decl
use Rattle.mp_tables.specs.declared.questions.Seen.{Seen}
use Rattle.mp_tables.specs.declared.questions.Seen.TheVariants as see
use Rattle.mp_tables.specs.declared.tables.Entry.{Entry}
use Rattle.mp_tables.specs.declared.tables.Nested.{Nested}
use Rattle.mp_tables.specs.Asks.{Answers, find as find_name}
use Rattle.mp_tables.specs.Reports.{Rule, pure, ◌>>=◌, ◌>>◌, each}
use Rattle.mp_tables.specs.RequiredNames.{standard_file}
use Rattle.mp_tables.specs.TypeRelations.{ordinal}
use Rattle.mp_tables.specs.Seen.{seen_entry}
use Rattle.mp_tables.specs.Names.{Use, Declared, Lookup, declared_use}
use Rattle.mp_tables.specs.Constants.{integer_constant, string_constant, signed, with_sign, constant_use, constant, constant_fits, same_constant, Selecting, numbers, selecting_by, selecting}
use Rattle.mp_tables.specs.Sizes.{slot_named, array_cells}
use Rattle.mp_tables.specs.Sizes.{sum_of}
use Rattle.mp_tables.specs.StatementWalks.{has_value}
use Rattle.mp_tables.specs.DefiningPoints.{Points, Declaring, filled, name_of, is_function, alike, step_of, origin, completes, routine}
use Rattle.mp_tables.specs.Headings.{value_type, simple_or_pointer, result_type, one, distinct, names_of, formals, section, named_result, result_if, heading, FormalParameter, parameters_in}
use Rattle.mp_tables.specs.Elaboration.{has_formals, completing_heading, is_text_variable, parameter_cells, cells_of_parameters, labels, constant_definition, type_part_end, type_definition, PointerType, pointers, pointing, domain_type, domain_types, headed, define_routine, nest, routine_declarations, program_parameters, program_heading}
use Rattle.mp_tables.specs.Denoters.{Headed, Known, Elaboration, by_rule, change, fill, TypePlace, look_by, look_at, look, looking, type_use, type_name, typed_here, typed_here_if, new_type, bounds_by, bounds, new_range, fill_constants, ordinal_by, ordinal_type, domain, base_by, IndexType, arrays, size_of, file_in, with_slot, free_name, tag_cell, with_part, host_of, tag_type, close_part, more_variants, empty_record, record_shape, RecordSoFar, field, fields_of, tag_slot, Reading, VariantsSoFar, denote, indices, field_list, fixed_fields, variants}
use Rattle.mp_tables.specs.declared.errors.RuleError.{RuleError}
use Rattle.mp_tables.specs.declared.tables.Shaped.{Shaped}
use Rattle.mp_tables.specs.Elaboration.{completing_heading, nest}
use Rattle.mp_tables.proofs.CleanLemmas.{Clean, Any, clean_pure, clean_report_if, clean_refuse, clean_lift, any_bind}

-- ---- errors only grow

pub clean_if : {A : Type 0} {a : Answers} {P : A → Type 0} {m n : Rule A} (x : Bool) → Clean a m P → Clean a n P → Clean a (cond x m n) P
clean_if true c d = c
clean_if false c d = d

module _ (a : Answers) where
  declared_any : (at : ℕ) (s : Seen) → Clean a (declared_use at s) Any
  declared_any at (see.Is (decl.Required name.Real)) = clean_refuse 303 at
  declared_any at (see.Is d) = clean_pure (Some (Declared d)) tt
  declared_any at see.NotYet = clean_refuse 302 at
  declared_any at see.Absent = clean_refuse 301 at

  look_by_any : (path : List PathStep) (at : ℕ) (n : List ℕ) (place : ℕ) (o : Option Entry) → Clean a (look_by path at n place o) Any
  look_by_any path at n place None = any_bind (clean_lift (find_name n (record { path = path; ordinal = place }))) (λ s. declared_any at s)
  look_by_any path at n place (Some e) = declared_any at (seen_entry place e)

  signed_any : (s : Option Sign) (v : Option ConstantValue) → Clean a (signed s v) Any
  signed_any None v = clean_pure v tt
  signed_any (Some s) None = clean_pure None tt
  signed_any (Some s) (Some (value.Ordinal type.Integer n)) = clean_pure (Some (value.Ordinal type.Integer (with_sign s.kind n))) tt
  signed_any (Some s) (Some v) = clean_refuse 322 s.at

  constant_use_any : (at : ℕ) (u : Option Use) → Clean a (constant_use at u) Any
  constant_use_any at None = clean_pure None tt
  constant_use_any at (Some (Declared (decl.Const q v))) = clean_pure v tt
  constant_use_any at (Some (Declared (decl.Required name.False))) = clean_pure _ tt
  constant_use_any at (Some (Declared (decl.Required name.True))) = clean_pure _ tt
  constant_use_any at (Some (Declared (decl.Required name.Maxint))) = clean_pure _ tt
  constant_use_any at (Some u) = clean_refuse 305 at

  type_use_any : (at : ℕ) (u : Option Use) → Clean a (type_use at u) Any
  type_use_any at None = clean_pure None tt
  type_use_any at (Some (Declared (decl.Sort q t))) = clean_pure t tt
  type_use_any at (Some (Declared (decl.Required name.Integer))) = clean_pure (Some type.Integer) tt
  type_use_any at (Some (Declared (decl.Required name.Boolean))) = clean_pure (Some type.Boolean) tt
  type_use_any at (Some (Declared (decl.Required name.Char))) = clean_pure (Some type.Char) tt
  type_use_any at (Some (Declared (decl.Required name.Text))) = clean_pure (Some type.Text) tt
  type_use_any at (Some u) = clean_refuse 305 at

  bounds_by_any : (at : ℕ) (x y : Option ConstantValue) → Clean a (bounds_by at x y) Any
  bounds_by_any at None y = clean_pure None tt
  bounds_by_any at (Some v) None = clean_pure None tt
  bounds_by_any at (Some (value.Ordinal h m)) (Some (value.Ordinal i n)) =
      clean_if _ (clean_refuse 317 at) (clean_if _ (clean_refuse 316 at) (clean_pure (Some (record { host = h; low = m; high = n })) tt))
  bounds_by_any at (Some v) (Some x) = clean_refuse 317 at

  pub ordinal_by_any : (at : ℕ) (o : Option Bounds) → Clean a (ordinal_by at o) Any
  ordinal_by_any at None = clean_refuse 318 at
  ordinal_by_any at (Some o) = clean_pure (Some o) tt

  pub base_by_any : (at : ℕ) (o : Option Bounds) → Clean a (base_by at o) Any
  base_by_any at None = clean_pure None tt
  base_by_any at (Some o) = clean_if _ (clean_pure (Some o) tt) (clean_refuse 319 at)

  module _ (find : Lookup) (f : (x : Identifier) → Clean a (find x) Any) where
    constant_any : (c : Constant) → Clean a (constant find c) Any
    constant_any (constants.Number s n) = signed_any s (Some (integer_constant n.value))
    constant_any (constants.Name s x) = any_bind (any_bind (f x) (λ u. constant_use_any x.at u)) (λ v. signed_any s v)
    constant_any (constants.Text s) = clean_pure (Some (string_constant s.characters)) tt

    bounds_any : (first last : Constant) → Clean a (bounds first last find) Any
    bounds_any first last = any_bind (constant_any first) (λ x. any_bind (constant_any last) (λ y. bounds_by_any (first_of_constant last) x y))

    selecting_by_any : (host : Option TypeId) (at : ℕ) (s : Selecting) (v : Option ConstantValue) → Clean a (selecting_by host at s v) Any
    selecting_by_any host at s None = clean_pure s tt
    selecting_by_any host at s (Some v) =
        any_bind (clean_report_if (not (constant_fits host v)) 324 at)
        (λ u. any_bind (clean_report_if (list_any (same_constant v) s.known) 325 at) (λ u. clean_pure (record { values = s.values ++ numbers v; known = v ∷ s.known }) tt))

    pub selecting_any : (host : Option TypeId) (cs : List Constant) (s : Selecting) → Clean a (selecting find host cs s) Any
    selecting_any host [] s = clean_pure s tt
    selecting_any host (c ∷ cs) s = any_bind (any_bind (constant_any c) (λ v. selecting_by_any host (first_of_constant c) s v)) (λ x. selecting_any host cs x)

  pub distinct_any : (names' : List (List ℕ)) (xs : List Identifier) → Clean a (distinct names' xs) Any
  distinct_any names' [] = clean_pure tt tt
  distinct_any names' (x ∷ xs) = any_bind (clean_report_if (list_any (bytes_eq x.name) names') 304 x.at) (λ u. distinct_any (x.name ∷ names') xs)

  pub labels_any : (earlier list : List Number) → Clean a (labels earlier list) Any
  labels_any earlier [] = clean_pure tt tt
  labels_any earlier (n ∷ more) =
      any_bind (clean_report_if (nat_lt 9999 n.value) 311 n.at)
      (λ u. any_bind (clean_report_if (list_any (has_value n.value) earlier) 307 n.at) (λ u. labels_any (n ∷ earlier) more))

  pub program_parameters_any : (known : Points) (earlier xs : List Identifier) → Clean a (program_parameters known earlier xs) Any
  program_parameters_any known earlier [] = clean_pure tt tt
  program_parameters_any known earlier (x ∷ xs) =
      any_bind (clean_report_if (list_any (λ y. bytes_eq x.name y.name) earlier) 304 x.at)
      (λ u. any_bind (clean_report_if (not (is_some (standard_file x.name)) && not (is_text_variable (lookup (bytes_eq x.name) known))) 326 x.at)
      (λ u. program_parameters_any known (x ∷ earlier) xs))

-- ---- what is kept

-- the declaration of no variable, no parameter and no label
abbrev pub IsOther : Decl → Type 0
IsOther (decl.Var q v) = ⊥
IsOther (decl.Param q p) = ⊥
IsOther (decl.Label q s) = ⊥
IsOther _ = Unit {0}

pub record IsKept (I : Known → Type 0) : Type 0 where
  pub errors : (k : Known) (es : List RuleError) → (es ≡ [] → k.errors ≡ []) → I k → I (record k { errors = es })
  pub shapes : (k : Known) (ss : List Shaped) → I k → I (record k { shapes = ss })
  pub headings : (k : Known) (hs : List Headed) → I k → I (record k { headings = hs })
  pub nested : (k : Known) (ns : List Nested) → I k → I (record k { nested = ns })
  pub fills : (k : Known) (n : List ℕ) (at : ℕ) (d : Decl) → IsOther d → I k → I (record k { names = filled n at d k.names })

pub record Stays {A : Type 0} (a : Answers) (I : Known → Type 0) (m : Elaboration A) : Type 0 where
  pub by : (k : Known) → I k → I ((m k).run a).1

pub stay : {A : Type 0} {a : Answers} {I : Known → Type 0} (x : A) → Stays a I (pure x)
stay x = record { by = λ k i. i }

infixl 10 ◌and◌
pub ◌and◌ : {A B : Type 0} {a : Answers} {I : Known → Type 0} {m : Elaboration A} {k : A → Elaboration B} → Stays a I m → ((x : A) → Stays a I (k x)) → Stays a I (m >>= k)
◌and◌ {a = a} {m = m} c d = record { by = λ s i. (d ((m s).run a).0).by ((m s).run a).1 (c.by s i) }

stay_if : {A : Type 0} {a : Answers} {I : Known → Type 0} {m n : Elaboration A} (x : Bool) → Stays a I m → Stays a I n → Stays a I (cond x m n)
stay_if true c d = c
stay_if false c d = d

pub stay_each : {X : Type 0} {a : Answers} {I : Known → Type 0} (f : X → Elaboration (Unit {0})) → ((x : X) → Stays a I (f x)) → (xs : List X) → Stays a I (each f xs)
stay_each f c [] = stay tt
stay_each f c (x ∷ xs) = c x and λ u. stay_each f c xs

module _ (a : Answers) (path : List PathStep) (I : Known → Type 0) (kept : IsKept I) where
  change_stays : (f : Known → Known) → ((k : Known) → I k → I (f k)) → Stays a I (change f)
  change_stays f c = record { by = λ k i. c k i }

  rule_stays : {A : Type 0} {P : A → Type 0} {m : Rule A} → Clean a m P → Stays a I (by_rule m)
  rule_stays {m = m} c = record { by = λ k i. kept.errors k ((m k.errors).run a).1 (λ e. (c.by k.errors e).0) i }

  look_stays : {A : Type 0} (m : Lookup → Rule A) → ((find : Lookup) → ((x : Identifier) → Clean a (find x) Any) → Clean a (m find) Any) → Stays a I (looking path m)
  look_stays m f = record { by = λ k i. (rule_stays (f (look path k.names) (λ x. look_by_any a path x.at x.name x.at (lookup (bytes_eq x.name) k.names)))).by k i }

  fill_stays : (n : List ℕ) (at : ℕ) (d : Decl) → IsOther d → Stays a I (fill n at d)
  fill_stays n at d o = record { by = λ k i. kept.fills k n at d o i }

  type_name_stays : (x : Identifier) → Stays a I (type_name path x)
  type_name_stays x = look_stays (λ find. find x >>= type_use x.at) (λ find f. any_bind (f x) (λ u. type_use_any a x.at u))

  typed_stays : (id : TypeId) → Stays a I (typed_here path id)
  typed_stays type.Integer = record { by = λ k i. i }
  typed_stays type.Boolean = record { by = λ k i. i }
  typed_stays type.Char = record { by = λ k i. i }
  typed_stays type.Text = record { by = λ k i. i }
  typed_stays (type.Own p at) = stay_if (same_path p path) (record { by = λ k i. i }) (record { by = λ k i. i })

  pub typed_if_stays : (id : Option TypeId) → Stays a I (typed_here_if path id)
  typed_if_stays None = stay None
  typed_if_stays (Some id) = typed_stays id and λ t. stay (Some t)

  new_type_stays : (at : ℕ) (s : Shape) → Stays a I (new_type path at s)
  new_type_stays at s =
      change_stays (λ k. record k { shapes = k.shapes ++ record { at = at; shape = s } ∷ [] }) (λ k i. kept.shapes k (k.shapes ++ record { at = at; shape = s } ∷ []) i)
      and λ u. stay (Some (type.Own path at))

  new_range_stays : (at : ℕ) (o : Option Bounds) → Stays a I (new_range path at o)
  new_range_stays at None = stay None
  new_range_stays at (Some o) = new_type_stays at (shape.Range o)

  constants_stay : (id : TypeId) (n : ℕ) (xs : List Identifier) → Stays a I (fill_constants path id n xs)
  constants_stay id n [] = stay tt
  constants_stay id n (x ∷ xs) = fill_stays x.name x.at (decl.Const path (Some (value.Ordinal id (pos n)))) tt and λ u. constants_stay id (n + 1) xs

  ordinal_stays : (at : ℕ) (id : Option TypeId) → Stays a I (ordinal_type path at id)
  ordinal_stays at None = stay None
  ordinal_stays at (Some id) = typed_stays id and λ t. rule_stays (ordinal_by_any a at (ordinal t))

  domain_stays : (end : Option ℕ) (x : Identifier) → Stays a I (domain (record { path = path; type_part_end = end }) x)
  domain_stays None x = type_name_stays x
  domain_stays (Some end) x = stay None

  arrays_stay : (packed : Bool) (is : List IndexType) (c : Option TypeId) → Stays a I (arrays path packed is c)
  arrays_stay packed [] c = stay c
  arrays_stay packed (i ∷ outer) c =
      typed_if_stays c
      and λ t. new_type_stays i.at
      (shape.Arr (record { packed = packed; index = i.bounds; component = c; size = size_of t; cells = array_cells i.bounds (size_of t); file = file_in t }))
      and λ x. arrays_stay packed outer x

  field_stays : (id : Option TypeId) (t : Option Typed) (in' : Option InVariant) (tags : Option ℕ) (r : RecordSoFar) (x : Identifier) → Stays a I (field id t in' tags r x)
  field_stays id t in' tags r x = rule_stays (clean_report_if (is_some (slot_named x.name r.slots)) 304 x.at) and λ u. stay (with_slot id t in' tags (free_name r.slots x.name) r)

  fields_stay : (id : Option TypeId) (t : Option Typed) (in' : Option InVariant) (r : RecordSoFar) (xs : List Identifier) → Stays a I (fields_of id t in' r xs)
  fields_stay id t in' r [] = stay r
  fields_stay id t in' r (x ∷ xs) = field_stays id t in' None r x and λ s. fields_stay id t in' s xs

  tag_stays : (id : Option TypeId) (n : ℕ) (in' : Option InVariant) (x : Option Identifier) (r : RecordSoFar) → Stays a I (tag_slot id n in' x r)
  tag_stays id n in' None r = stay (tag_cell id n in' None r)
  tag_stays id n in' (Some x) r = rule_stays (clean_report_if (is_some (slot_named x.name r.slots)) 304 x.at) and λ u. stay (tag_cell id n in' (free_name r.slots x.name) r)

  abbrev here : Option ℕ → TypePlace
  here end = record { path = path; type_part_end = end }

  mutual
    pub denote_stays : (end : Option ℕ) (d : PlainDenoter) → Stays a I (denote (here end) d)
    denote_stays end (Named x) = type_name_stays x
    denote_stays end (Enumeration at xs) = constants_stay (type.Own path at) 0 xs and λ u. new_type_stays at (shape.Names (map (λ x. x.name) xs))
    denote_stays end (Subrange first last) = look_stays (bounds first last) (λ find f. bounds_any a find f first last) and λ o. new_range_stays (first_of_constant first) o
    denote_stays end (Pointer at x) = domain_stays end x and λ d. new_type_stays at (shape.Ptr d)
    denote_stays end (Array at packed is d) = indices_stay end is and λ outer. denote_stays end d and λ c. arrays_stay packed outer c
    denote_stays end (Record at packed d) = field_list_stays end None d empty_record and λ r. new_type_stays at (record_shape packed r)
    denote_stays end (Set at packed d) = denote_stays end d and λ t. ordinal_stays (first_of_denoter d) t and λ o. rule_stays (base_by_any a (first_of_denoter d) o)
        and λ c. new_type_stays at (shape.SetOf (Some packed) c)
    denote_stays end (File at file d) = denote_stays end d and λ t. rule_stays {P = Any} (clean_refuse 321 file)
    denote_stays end (Fields fixed) = rule_stays {P = Any} (clean_refuse 321 0)
    denote_stays end (FieldsWithVariants fixed at tag of vs) = rule_stays {P = Any} (clean_refuse 321 at)

    pub indices_stay : (end : Option ℕ) (is : PlainIndices) → Stays a I (indices (here end) is)
    indices_stay end NoIndices = stay []
    indices_stay end (Index at d more) = denote_stays end d and λ t. ordinal_stays (first_of_denoter d) t and λ o. indices_stay end more
        and λ outer. stay (outer ++ record { at = at; bounds = o } ∷ [])

    pub field_list_stays : (end : Option ℕ) (in' : Option InVariant) (d : PlainDenoter) (r : RecordSoFar) → Stays a I (field_list (here end) in' d r)
    field_list_stays end in' (Fields fixed) r = fixed_stay end in' fixed r
    field_list_stays end in' (FieldsWithVariants fixed at tag of vs) r =
        fixed_stay end in' fixed r
        and λ s. type_name_stays of
        and λ id. ordinal_stays of.at id
        and λ o. tag_stays (tag_type id o) (length s.parts) in' tag (with_part (host_of o) in' (is_none tag) s)
        and λ u. variants_stay end (length s.parts) 0 (host_of o) vs (record { known = []; variants = [] }) (record { before = u; now = u })
    field_list_stays end in' d r = stay r

    pub fixed_stay : (end : Option ℕ) (in' : Option InVariant) (ss : PlainSections) (r : RecordSoFar) → Stays a I (fixed_fields (here end) in' ss r)
    fixed_stay end in' NoSections r = stay r
    fixed_stay end in' (Section xs d more) r = denote_stays end d and λ id. typed_if_stays id and λ t. fields_stay id t in' r xs and λ s. fixed_stay end in' more s

    pub variants_stay : (end : Option ℕ) (k n : ℕ) (host : Option TypeId) (vs : PlainVariants) (v : VariantsSoFar) (r : Reading) → Stays a I (variants (here end) k n host vs v r)
    variants_stay end k n host NoVariants v r = stay (close_part k v.variants r.before r.now)
    variants_stay end k n host (Variant cs d more) v r =
        look_stays (λ find. selecting find host cs (record { values = []; known = v.known })) (λ find f. selecting_any a find f host cs (record { values = []; known = v.known }))
        and λ s. field_list_stays end (Some (record { part = k; variant = n })) d r.now
        and λ u. variants_stay end k (n + 1) host more (more_variants v s) (record r { now = u })

  -- ---- headings

  value_type_stays : (x : Identifier) → Stays a I (value_type path x)
  value_type_stays x = type_name_stays x and λ id. typed_if_stays id and λ t. rule_stays {P = Any} (clean_if (file_in t) (clean_refuse 320 x.at) (clean_pure id tt))

  result_type_stays : (x : Identifier) → Stays a I (result_type path x)
  result_type_stays x = type_name_stays x and λ id. typed_if_stays id and λ t. rule_stays {P = Any} (clean_if (simple_or_pointer t) (clean_pure id tt) (clean_refuse 323 x.at))

  mutual
    formals_stay : (depth n : ℕ) (names' : List (List ℕ)) (fs : PlainFormals) → Stays a I (formals path depth n names' fs)
    formals_stay depth n names' NoFormals = stay []
    formals_stay depth n names' (Formal s more) =
        rule_stays (distinct_any a names' (names_of s))
        and λ u. section_stays depth n s
        and λ first. formals_stay depth (n + 1) (map (λ x. x.name) (names_of s) ++ names') more
        and λ rest. stay (first ++ rest)

    section_stays : (depth n : ℕ) (s : PlainFormalSection) → Stays a I (section path depth n s)
    section_stays depth n (Values xs of) = value_type_stays of and λ t. stay (map (one depth n formal.Value t) xs)
    section_stays depth n (Variables at xs of) = type_name_stays of and λ t. stay (map (one depth n formal.Variable t) xs)
    section_stays depth n (Procedure at x own) = formals_stay (depth + 1) 0 [] own and λ fs. stay (one depth n formal.Procedure None x ∷ fs)
    section_stays depth n (Function at x own result) = formals_stay (depth + 1) 0 [] own and λ fs. result_type_stays result and λ t. stay (one depth n formal.Function t x ∷ fs)

  result_if_stays : (x : Option Identifier) → Stays a I (result_if path x)
  result_if_stays None = stay None
  result_if_stays (Some x) = result_type_stays x

  heading_stays : (h : PlainHeading) → Stays a I (heading path h)
  heading_stays h = formals_stay 0 0 [] h.formals and λ fs. result_if_stays (named_result h.kind) and λ t. stay (record { formals = fs; result = t })

  -- ---- the parts of a block, but for its variables

  module _ (own : PlainBlock) (given_heading : Heading) where
    abbrev block : Declaring
    block = record { path = path; own = own; heading = given_heading }

    pub labels_stay : Stays a I (by_rule (labels [] own.labels))
    labels_stay = rule_stays (labels_any a [] own.labels)

    constant_stays : (d : ConstantDefinition) → Stays a I (constant_definition block d)
    constant_stays d = look_stays (λ find. constant find d.value) (λ find f. constant_any a find f d.value) and λ v. fill_stays d.name.name d.name.at (decl.Const path v) tt

    pub constants_part_stays : Stays a I (each (constant_definition block) own.constants)
    constants_part_stays = stay_each (constant_definition block) constant_stays own.constants

    type_stays : (d : PlainTypeDefinition) → Stays a I (type_definition block d)
    type_stays d = denote_stays (Some (type_part_end own.types)) d.of and λ t. fill_stays d.name.name d.name.at (decl.Sort path t) tt

    pub types_stay : Stays a I (each (type_definition block) own.types)
    types_stay = stay_each (type_definition block) type_stays own.types

    domain_type_stays : (end : ℕ) (p : PointerType) → Stays a I (domain_type block end p)
    domain_type_stays end p =
        looked and λ d. change_stays (λ k. record k { shapes = map (pointing p.at d) k.shapes }) (λ k i. kept.shapes k (map (pointing p.at d) k.shapes) i)
      where
        looked : Stays a I (λ k. by_rule (look_at path k.names p.domain.at p.domain.name end >>= type_use p.domain.at) k)
        looked =
            record {
              by = λ k i.
                  (rule_stays (any_bind (look_by_any a path p.domain.at p.domain.name end (lookup (bytes_eq p.domain.name) k.names)) (λ u. type_use_any a p.domain.at u))).by k i;
            }

    pub domain_types_stay : Stays a I (domain_types block)
    domain_types_stay = stay_each (domain_type block (type_part_end own.types)) (domain_type_stays (type_part_end own.types)) (flat_map (λ d. pointers d.of) own.types)

    pub parameter_cells_stay : (p : FormalParameter) (k : FormalKind) → Stays a I (parameter_cells path (record p { formal = record p.formal { kind = k } }))
    parameter_cells_stay p formal.Value = typed_if_stays p.formal.of and λ t. stay (size_of t)
    parameter_cells_stay p k = stay 1

    cells_stay : (ps : List FormalParameter) → Stays a I (cells_of_parameters path ps)
    cells_stay [] = stay 0
    cells_stay (p ∷ ps) = parameter_cells_stay p p.formal.kind and λ n. cells_stay ps and λ m. stay (sum_of (n ∷ m ∷ []))

    routine_other : (d : PlainDeclaration) (k : HeadingKind) (earlier later : List PlainDeclaration) (h : Heading) (cells : ℕ) →
        IsOther (routine block (record d { heading = record d.heading { kind = k } }) earlier later h cells)
    routine_other d heading_kind.Procedure earlier later h cells = tt
    routine_other d (heading_kind.Function x) earlier later h cells = tt

    define_stays : (d : PlainDeclaration) (earlier later : List PlainDeclaration) (h : Heading) → Stays a I (define_routine block d earlier later h)
    define_stays d earlier later h =
        rule_stays (clean_report_if (is_function d.heading.kind && not (is_some (named_result d.heading.kind))) 314 d.heading.name.at)
        and λ u. change_stays (λ k. record k { headings = record { at = d.heading.name.at; heading = h } ∷ k.headings })
        (λ k i. kept.headings k (record { at = d.heading.name.at; heading = h } ∷ k.headings) i)
        and λ u. cells_stay (parameters_in h.formals)
        and λ cells. fill_stays (name_of d) d.heading.name.at (routine block d earlier later h cells) (routine_other d d.heading.kind earlier later h cells)

    nest_stays : (d : PlainDeclaration) (earlier : List PlainDeclaration) → Stays a I (change (nest d earlier))
    nest_stays d earlier = record { by = λ k i. by (is_block d.body) k i }
      where
        by : (x : Bool) (k : Known) → I k →
            I (cond x
            (record k {
              nested =
                  k.nested ++ record {
                    step = step_of d earlier;
                    heading = headed k.headings (origin d earlier);
                    function = is_function d.heading.kind;
                    semicolon = d.semicolon;
                  } ∷ [];
            }) k)
        by true k i =
            kept.nested k
            (k.nested ++ record {
              step = step_of d earlier;
              heading = headed k.headings (origin d earlier);
              function = is_function d.heading.kind;
              semicolon = d.semicolon;
            } ∷ []) i
        by false k i = i

    routine_stays : (d : PlainDeclaration) (earlier later : List PlainDeclaration) (h : Heading) →
        Stays a I (if completes d earlier then by_rule (completing_heading d) else define_routine block d earlier later h)
    routine_stays d earlier later h =
        stay_if (completes d earlier) (rule_stays (clean_report_if (has_formals d.heading.formals || is_some (named_result d.heading.kind)) 313 d.heading.name.at))
        (define_stays d earlier later h)

    pub routines_stay : (earlier list : List PlainDeclaration) → Stays a I (routine_declarations block earlier list)
    routines_stay earlier [] = stay tt
    routines_stay earlier (d ∷ later) =
        heading_stays d.heading
        and λ h. routine_stays d earlier later h
        and λ u. rule_stays (clean_report_if (not (is_block d.body) && not (list_any (alike d) later)) 312 d.heading.name.at)
        and λ u. nest_stays d earlier
        and λ u. routines_stay (d ∷ earlier) later

    pub program_heading_stays : (h : Option ProgramHeading) → Stays a I (program_heading h)
    program_heading_stays None = stay tt
    program_heading_stays (Some h) = record { by = λ k i. (rule_stays (program_parameters_any a k.names [] h.parameters)).by k i }

    -- before the variable part, and behind it
    pub before_variables : Stays a I
        (by_rule (labels [] own.labels) >> (each (constant_definition block) own.constants >> (each (type_definition block) own.types >> domain_types block)))
    before_variables = labels_stay and λ u. constants_part_stays and λ u. types_stay and λ u. domain_types_stay

    pub behind_variables : Stays a I (routine_declarations block [] own.declarations >> program_heading own.program)
    behind_variables = routines_stay [] own.declarations and λ u. program_heading_stays own.program
