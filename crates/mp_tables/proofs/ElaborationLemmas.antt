-- Declarations ask only names that the block doesn't declare, shapes of the blocks around it, and its own heading: in two scopes
-- that agree on these, a block declares the same. What is found are types of the block and of blocks around it.
use Rattle.std.proofs.Common.{◌≡◌, ℕ, ◌+◌, pos, Bool, true, false, cond, not, ◌&&◌, ◌||◌, List, [], ◌∷◌, ◌++◌, Option, Some, None, refl, sym, ap, ◌∙◌, subst, map, length, append-nil, nat_eq, nat_lt, is_some, is_none}
use Rattle.std.specs.Prelude.{bytes_eq, flat_map, find, option_map, unwrap_or, if◌then◌else◌}
use Rattle.std.specs.Map.{lookup}
use Rattle.std.specs.List.{list_any}
use Rattle.std.proofs.lemmas.Slice.Eq.{bytes_eq-Decides}
use Rattle.mp_base.specs.declared.path.PathStep.{PathStep}
use Rattle.mp_ast.specs.declared.leaves.Identifier.{Identifier}
use Rattle.mp_ast.specs.declared.leaves.Number.{Number}
use Rattle.mp_ast.specs.declared.leaves.Constant.{Constant}
use Rattle.mp_ast.specs.declared.leaves.Constant.TheVariants as constants
use Rattle.mp_ast.specs.declared.leaves.Sign.{Sign}
use Rattle.mp_ast.specs.declared.headings.HeadingKind.{HeadingKind}
use Rattle.mp_ast.specs.declared.headings.HeadingKind.TheVariants as heading_kind
use Rattle.mp_ast.specs.declared.blocks.ProgramHeading.{ProgramHeading}
use Rattle.mp_ast.specs.declared.blocks.ConstantDefinition.{ConstantDefinition}
use Rattle.mp_ast.specs.PlainTypes.{PlainDenoter, Named, Enumeration, Subrange, Pointer, Array, Record, Set, File, Fields, FieldsWithVariants, PlainIndices, NoIndices, Index, PlainSections, NoSections, Section, PlainVariants, NoVariants, Variant}
use Rattle.mp_ast.specs.PlainHeadings.{PlainHeading, PlainFormals, NoFormals, Formal, PlainFormalSection, Values, Variables, Procedure, Function}
use Rattle.mp_ast.specs.PlainTrees.{PlainBlock, PlainDeclaration, PlainTypeDefinition}
use Rattle.mp_ast.specs.Blocks.{same_path, is_block}
use Rattle.mp_ast.specs.FirstTokens.{first_of_constant, first_of_denoter}
use Rattle.mp_tables.specs.declared.types.TypeId.{TypeId}
use Rattle.mp_tables.specs.declared.types.TypeId.TheVariants as type
use Rattle.mp_tables.specs.declared.types.Bounds.{Bounds}
use Rattle.mp_tables.specs.declared.types.Within.{Within as InVariant}
use Rattle.mp_tables.specs.declared.types.Shape.{Shape}
use Rattle.mp_tables.specs.declared.types.Shape.TheVariants as shape
use Rattle.mp_tables.specs.declared.types.Typed.{Typed}
use Rattle.mp_tables.specs.declared.headings.Formal.{Formal as DeclaredFormal}
use Rattle.mp_tables.specs.declared.headings.FormalKind.{FormalKind}
use Rattle.mp_tables.specs.declared.headings.FormalKind.TheVariants as formal
use Rattle.mp_tables.specs.declared.headings.Heading.{Heading}
use Rattle.mp_tables.specs.declared.required.Required.TheVariants as name
use Rattle.mp_tables.specs.declared.declarations.ConstantValue.{ConstantValue}
use Rattle.mp_tables.specs.declared.declarations.ConstantValue.TheVariants as value
use Rattle.mp_tables.specs.declared.declarations.Decl.{Decl}
use Rattle.mp_tables.specs.declared.declarations.Decl.TheVariants as decl
use Rattle.mp_tables.specs.declared.declarations.Variable.{Variable}
use Rattle.mp_tables.specs.declared.declarations.Routine.{Routine}
use Rattle.mp_tables.specs.declared.questions.Seen.{Seen}
use Rattle.mp_tables.specs.declared.questions.Seen.TheVariants as see
use Rattle.mp_tables.specs.declared.tables.Entry.{Entry}
use Rattle.mp_tables.specs.declared.tables.Nested.{Nested}
use Rattle.mp_tables.specs.Asks.{Answers, find as find_name, shape as ask_shape}
use Rattle.mp_tables.specs.Reports.{Rule, ◌>>=◌, ◌>>◌, each}
use Rattle.mp_tables.specs.RequiredNames.{standard_file}
use Rattle.mp_tables.specs.TypeRelations.{ordinal}
use Rattle.mp_tables.specs.Seen.{seen_entry, no_heading}
use Rattle.mp_tables.specs.Names.{Use, Declared, Lookup, declared_use, typed}
use Rattle.mp_tables.specs.Constants.{integer_constant, string_constant, signed, with_sign, constant_use, constant, constant_fits, same_constant, Selecting, numbers, selecting_by, selecting}
use Rattle.mp_tables.specs.Sizes.{slot_named, array_cells}
use Rattle.mp_tables.specs.Sizes.{sum_of}
use Rattle.mp_tables.specs.StatementWalks.{has_value}
use Rattle.mp_tables.specs.DefiningPoints.{Points, Declaring, filled, is_control, name_of, is_function, alike, step_of, origin, completes, block_path, routine}
use Rattle.mp_tables.specs.Headings.{value_type, simple_or_pointer, result_type, one, distinct, names_of, formals, section, named_result, result_if, heading, own_heading, FormalParameter, parameters_in}
use Rattle.mp_tables.specs.Elaboration.{has_formals, completing_heading, forward_heading, is_text_variable, frame_cells, add_slot, parameter_cells, cells_of_parameters, labels, constant_definition, type_part_end, type_definition, variables as variables', variable_part, PointerType, pointers, pointing, domain_type, domain_types, headed, define_routine, nest, routine_declarations, program_parameters, program_heading}
use Rattle.mp_tables.specs.declared.typed_statements.FrameKind.{FrameKind}
use Rattle.mp_tables.specs.declared.typed_statements.FrameKind.TheVariants as frame_kind
use Rattle.mp_tables.specs.Asks.{pure as pureᵃ}
use Rattle.mp_tables.specs.Denoters.{Headed, Known, Elaboration, by_rule, change, fill, TypePlace, look_by, look_at, look, looking, type_use, type_name, own_typed, typed_here, typed_here_if, new_type, bounds_by, bounds, new_range, fill_constants, ordinal_by, ordinal_type, domain, base_by, IndexType, arrays, size_of, file_in, with_slot, free_name, tag_cell, with_part, host_of, tag_type, close_part, more_variants, empty_record, record_shape, RecordSoFar, field, fields_of, tag_slot, Reading, VariantsSoFar, denote, indices, field_list, fixed_fields, variants}
use Rattle.mp_tables.specs.WithinBlocks.{Within, TypeWithin, TypeIfWithin, FormalsWithin, HeadingWithin, DeclWithin, SeenWithin, PointsWithin, AllNestedWithin}
use Rattle.mp_tables.proofs.CleanLemmas.{none_some, some_none, true_false, false_true}
use Rattle.mp_tables.proofs.SameLemmas.{Same, Any, same_pure, ◌next◌, same_lift, same_report_if, same_refuse, same_each, same_if}

-- ---- what is found

abbrev pub UseIfWithin : List PathStep → Option Use → Type 0
UseIfWithin path (Some (Declared d)) = DeclWithin path d
UseIfWithin path _ = Unit {0}

-- ---- rules that ask nothing

module _ (a b : Answers) where
  declared_same : (path : List PathStep) (at : ℕ) (s : Seen) → SeenWithin path s → Same a b Any (declared_use at s) (UseIfWithin path)
  declared_same path at (see.Is (decl.Required name.Real)) g = same_refuse 303 at tt
  declared_same path at (see.Is d) g = same_pure (Some (Declared d)) g
  declared_same path at see.NotYet g = same_refuse 302 at tt
  declared_same path at see.Absent g = same_refuse 301 at tt

  signed_same : (s : Option Sign) (v : Option ConstantValue) → Same a b Any (signed s v) Any
  signed_same None v = same_pure v tt
  signed_same (Some s) None = same_pure None tt
  signed_same (Some s) (Some (value.Ordinal type.Integer n)) = same_pure (Some (value.Ordinal type.Integer (with_sign s.kind n))) tt
  signed_same (Some s) (Some v) = same_refuse 322 s.at tt

  constant_use_same : (at : ℕ) (u : Option Use) → Same a b Any (constant_use at u) Any
  constant_use_same at None = same_pure None tt
  constant_use_same at (Some (Declared (decl.Const q v))) = same_pure v tt
  constant_use_same at (Some (Declared (decl.Required name.False))) = same_pure _ tt
  constant_use_same at (Some (Declared (decl.Required name.True))) = same_pure _ tt
  constant_use_same at (Some (Declared (decl.Required name.Maxint))) = same_pure _ tt
  constant_use_same at (Some u) = same_refuse 305 at tt

  type_use_same : (path : List PathStep) (at : ℕ) (u : Option Use) → UseIfWithin path u → Same a b Any (type_use at u) (TypeIfWithin path)
  type_use_same path at None g = same_pure None tt
  type_use_same path at (Some (Declared (decl.Sort q t))) g = same_pure t g
  type_use_same path at (Some (Declared (decl.Required name.Integer))) g = same_pure (Some type.Integer) tt
  type_use_same path at (Some (Declared (decl.Required name.Boolean))) g = same_pure (Some type.Boolean) tt
  type_use_same path at (Some (Declared (decl.Required name.Char))) g = same_pure (Some type.Char) tt
  type_use_same path at (Some (Declared (decl.Required name.Text))) g = same_pure (Some type.Text) tt
  type_use_same path at (Some u) g = same_refuse 305 at tt

  bounds_by_same : (at : ℕ) (x y : Option ConstantValue) → Same a b Any (bounds_by at x y) Any
  bounds_by_same at None y = same_pure None tt
  bounds_by_same at (Some v) None = same_pure None tt
  bounds_by_same at (Some (value.Ordinal h m)) (Some (value.Ordinal i n)) =
      same_if _ (same_refuse 317 at tt) (same_if _ (same_refuse 316 at tt) (same_pure (Some (record { host = h; low = m; high = n })) tt))
  bounds_by_same at (Some v) (Some x) = same_refuse 317 at tt

  ordinal_by_same : (at : ℕ) (o : Option Bounds) → Same a b Any (ordinal_by at o) Any
  ordinal_by_same at None = same_refuse 318 at tt
  ordinal_by_same at (Some o) = same_pure (Some o) tt

  base_by_same : (at : ℕ) (o : Option Bounds) → Same a b Any (base_by at o) Any
  base_by_same at None = same_pure None tt
  base_by_same at (Some o) = same_if _ (same_pure (Some o) tt) (same_refuse 319 at tt)

  -- ---- rules that look names up

  module _ (path : List PathStep) (find : Lookup) (f : (x : Identifier) → Same a b Any (find x) (UseIfWithin path)) where
    constant_same : (c : Constant) → Same a b Any (constant find c) Any
    constant_same (constants.Number s n) = signed_same s (Some (integer_constant n.value))
    constant_same (constants.Name s x) = (f x next λ u p. constant_use_same x.at u) next λ v p. signed_same s v
    constant_same (constants.Text s) = same_pure (Some (string_constant s.characters)) tt

    bounds_same : (first last : Constant) → Same a b Any (bounds first last find) Any
    bounds_same first last = constant_same first next λ x p. constant_same last next λ y q. bounds_by_same (first_of_constant last) x y

    selecting_by_same : (host : Option TypeId) (at : ℕ) (s : Selecting) (v : Option ConstantValue) → Same a b Any (selecting_by host at s v) Any
    selecting_by_same host at s None = same_pure s tt
    selecting_by_same host at s (Some v) =
        same_report_if (not (constant_fits host v)) 324 at next λ u p. same_report_if (list_any (same_constant v) s.known) 325 at
        next λ u p. same_pure (record { values = s.values ++ numbers v; known = v ∷ s.known }) tt

    selecting_same : (host : Option TypeId) (cs : List Constant) (s : Selecting) → Same a b Any (selecting find host cs s) Any
    selecting_same host [] s = same_pure s tt
    selecting_same host (c ∷ cs) s = (constant_same c next λ v p. selecting_by_same host (first_of_constant c) s v) next λ x p. selecting_same host cs x

-- ---- names that are filled

same_test : {A : Type 0} (test : List ℕ → Bool) (m n : List ℕ) (x y : A) (r s : Option A) → m ≡ n → is_some r ≡ is_some s →
    is_some (cond (test m) (Some x) r) ≡ is_some (cond (test n) (Some y) s)
same_test test m n x y r s e f = subst (λ k. is_some (cond (test m) (Some x) r) ≡ is_some (cond (test k) (Some y) s)) e (by (test m))
  where
    by : (t : Bool) → is_some (cond t (Some x) r) ≡ is_some (cond t (Some y) s)
    by true = refl
    by false = f

filled_keys : (n : List ℕ) (at : ℕ) (d : Decl) (m : List ℕ) (known : Points) → is_some (lookup (bytes_eq m) (filled n at d known)) ≡ is_some (lookup (bytes_eq m) known)
filled_keys n at d m [] = refl
filled_keys n at d m (p ∷ known) = by (bytes_eq n p.0) (nat_eq p.1.at at) refl (filled_keys n at d m known)
  where
    by : (x y : Bool) → bytes_eq n p.0 ≡ x → is_some (lookup (bytes_eq m) (filled n at d known)) ≡ is_some (lookup (bytes_eq m) known) →
        is_some (lookup (bytes_eq m) (cond (x && y) (n, record { decl = d; at = at; last = p.1.last }) p ∷ filled n at d known)) ≡ is_some (lookup (bytes_eq m) (p ∷ known))
    by true true e f =
        same_test (bytes_eq m) n p.0 (record { decl = d; at = at; last = p.1.last }) p.1 (lookup (bytes_eq m) (filled n at d known)) (lookup (bytes_eq m) known)
        ((bytes_eq-Decides n p.0).0 e) f
    by true false e f = same_test (bytes_eq m) p.0 p.0 p.1 p.1 (lookup (bytes_eq m) (filled n at d known)) (lookup (bytes_eq m) known) refl f
    by false y e f = same_test (bytes_eq m) p.0 p.0 p.1 p.1 (lookup (bytes_eq m) (filled n at d known)) (lookup (bytes_eq m) known) refl f

filled_within : (path : List PathStep) (n : List ℕ) (at : ℕ) (d : Decl) (known : Points) → DeclWithin path d → PointsWithin path known → PointsWithin path (filled n at d known)
filled_within path n at d [] g h = tt
filled_within path n at d (p ∷ known) g h = (by (bytes_eq n p.0 && nat_eq p.1.at at), filled_within path n at d known g h.1)
  where
    by : (x : Bool) → DeclWithin path (cond x (n, record { decl = d; at = at; last = p.1.last }) p).1.decl
    by true = g
    by false = h.0

none_by : {A B : Type 0} (x : Option A) (y : Option B) → is_some x ≡ is_some y → x ≡ None → y ≡ None
none_by x None e f = refl
none_by x (Some z) e f = true_false (sym e ∙ ap is_some f)

-- ---- what is kept

abbrev pub AllHeadedWithin : List PathStep → List Headed → Type 0
AllHeadedWithin path [] = Unit {0}
AllHeadedWithin path (h ∷ hs) = HeadingWithin path h.heading × AllHeadedWithin path hs

-- each declaration of these names
abbrev pub AllPoints : (Decl → Type 0) → Points → Type 0
AllPoints D [] = Unit {0}
AllPoints D (p ∷ points) = D p.1.decl × AllPoints D points

pub filled_all : (D : Decl → Type 0) (n : List ℕ) (at : ℕ) (d : Decl) (known : Points) → D d → AllPoints D known → AllPoints D (filled n at d known)
filled_all D n at d [] g h = tt
filled_all D n at d (p ∷ known) g h = (by (bytes_eq n p.0 && nat_eq p.1.at at), filled_all D n at d known g h.1)
  where
    by : (x : Bool) → D (cond x (n, record { decl = d; at = at; last = p.1.last }) p).1.decl
    by true = g
    by false = h.0

-- the block has the names that it was given, and types of blocks around it; D holds of its declarations
pub record Keeps (path : List PathStep) (ref : Points) (D : Decl → Type 0) (k : Known) : Type 0 where
  pub keys : (n : List ℕ) → is_some (lookup (bytes_eq n) k.names) ≡ is_some (lookup (bytes_eq n) ref)
  pub points : PointsWithin path k.names
  pub own : AllPoints D k.names
  pub headings : AllHeadedWithin path k.headings
  pub nested : AllNestedWithin path k.nested

itself_within : (path : List PathStep) → Within path path
itself_within path = ([], sym (append-nil path))

lookup_within : (path : List PathStep) (n : List ℕ) (known : Points) (e : Entry) → PointsWithin path known → lookup (bytes_eq n) known ≡ Some e → DeclWithin path e.decl
lookup_within path n [] e g h = none_some h
lookup_within path n (p ∷ known) e g h = by (bytes_eq n p.0) h (lookup_within path n known e g.1)
  where
    by : (x : Bool) → cond x (Some p.1) (lookup (bytes_eq n) known) ≡ Some e → (lookup (bytes_eq n) known ≡ Some e → DeclWithin path e.decl) → DeclWithin path e.decl
    by true q f = subst (λ y. DeclWithin path y.decl) (Rattle.mp_tables.proofs.CleanLemmas.some_inj q) g.0
    by false q f = f q

-- D holds of what a block with this path defines
pub record OfBlock (path : List PathStep) (D : Decl → Type 0) : Type 0 where
  pub constants : (v : Option ConstantValue) → D (decl.Const path v)
  pub types : (t : Option TypeId) → D (decl.Sort path t)
  pub variables : (v : Variable) → D (decl.Var path v)
  pub procedures : (x : Routine) → D (decl.Proc path x)
  pub functions : (x : Routine) (offset : ℕ) → D (decl.Func path x offset)

module _ (a b : Answers) (path : List PathStep) (shapes : (p : List PathStep) (at : ℕ) → Within p path → same_path p path ≡ false →
    b.shape (type.Own p at) ≡ a.shape (type.Own p at)) where
  -- ---- shapes that are asked, whatever is kept

  own_by : {Inv : Known → Type 0} (p : List PathStep) (at : ℕ) (x : Bool) → same_path p path ≡ x → Within p path →
      Same a b Inv (cond x (own_typed at (type.Own p at)) (typed (type.Own p at))) Any
  own_by p at true e g = record { by = λ k i. (refl, i, tt) }
  own_by p at false e g = same_lift {P = Any} (ask_shape (type.Own p at)) (shapes p at g e) tt next λ s q. same_pure (record { id = Some (type.Own p at); shape = s }) tt

  pub typed_here_same : {Inv : Known → Type 0} (id : TypeId) → TypeWithin path id → Same a b Inv (typed_here path id) Any
  typed_here_same type.Integer g = record { by = λ k i. (refl, i, tt) }
  typed_here_same type.Boolean g = record { by = λ k i. (refl, i, tt) }
  typed_here_same type.Char g = record { by = λ k i. (refl, i, tt) }
  typed_here_same type.Text g = record { by = λ k i. (refl, i, tt) }
  typed_here_same (type.Own p at) g = own_by p at (same_path p path) refl g

  pub typed_here_if_same : {Inv : Known → Type 0} (id : Option TypeId) → TypeIfWithin path id → Same a b Inv (typed_here_if path id) Any
  typed_here_if_same None g = same_pure None tt
  typed_here_if_same (Some id) g = typed_here_same id g next λ t p. same_pure (Some t) tt

  module _ (ref : Points)
      (names : (n : List ℕ) (o : ℕ) → lookup (bytes_eq n) ref ≡ None → b.name n (record { path = path; ordinal = o }) ≡ a.name n (record { path = path; ordinal = o }))
      (seen : (n : List ℕ) (o : ℕ) → SeenWithin path (a.name n (record { path = path; ordinal = o })))
      (D : Decl → Type 0) (is : OfBlock path D) where
    abbrev Kept : Known → Type 0
    Kept k = Keeps path ref D k

    abbrev Step : {A : Type 0} → Elaboration A → (A → Type 0) → Type 0
    Step m P = Same a b Kept m P

    rule_same : {A : Type 0} {P : A → Type 0} {m : Rule A} → Same a b Any m P → Same a b Kept (by_rule m) P
    rule_same c =
        record {
          by = λ k i. let r = c.by k.errors tt in
              (ap (λ p. (p.0, record k { errors = p.1 })) r.0, record { keys = i.keys; points = i.points; own = i.own; headings = i.headings; nested = i.nested }, r.2);
        }

    look_same : (k : Known) → Kept k → (at : ℕ) (n : List ℕ) (place : ℕ) → Same a b Any (look_at path k.names at n place) (UseIfWithin path)
    look_same k i at n place = by (lookup (bytes_eq n) k.names) refl
      where
        entry : (e : Entry) (x : Bool) → DeclWithin path e.decl → SeenWithin path (cond x (see.Is e.decl) see.NotYet)
        entry e true g = g
        entry e false g = tt

        by : (o : Option Entry) → lookup (bytes_eq n) k.names ≡ o → Same a b Any (look_by path at n place o) (UseIfWithin path)
        by None e =
            same_lift (find_name n (record { path = path; ordinal = place })) (names n place (none_by (lookup (bytes_eq n) k.names) (lookup (bytes_eq n) ref) (i.keys n) e))
            (seen n place)
            next λ s g. declared_same a b path at s g
        by (Some x) e = declared_same a b path at (seen_entry place x) (entry x _ (lookup_within path n k.names x i.points e))

    looking_same : {A : Type 0} {P : A → Type 0} (m : Lookup → Rule A) →
        ((find : Lookup) → ((x : Identifier) → Same a b Any (find x) (UseIfWithin path)) → Same a b Any (m find) P) → Same a b Kept (looking path m) P
    looking_same m f = record { by = λ k i. (rule_same (f (look path k.names) (λ x. look_same k i x.at x.name x.at))).by k i }

    change_same : (f : Known → Known) → ((k : Known) → Kept k → Kept (f k)) → Same a b Kept (change f) Any
    change_same f c = record { by = λ k i. (refl, c k i, tt) }

    fill_same : (n : List ℕ) (at : ℕ) (d : Decl) → DeclWithin path d → D d → Same a b Kept (fill n at d) Any
    fill_same n at d g e =
        change_same (λ k. record k { names = filled n at d k.names })
        (λ k i. record {
          keys = λ m. filled_keys n at d m k.names
              ∙ i.keys m;
          points = filled_within path n at d k.names g i.points;
          own = filled_all D n at d k.names e i.own;
          headings = i.headings;
          nested = i.nested;
        })

    type_name_same : (x : Identifier) → Same a b Kept (type_name path x) (TypeIfWithin path)
    type_name_same x = looking_same (λ find. find x >>= type_use x.at) (λ find f. f x next λ u g. type_use_same a b path x.at u g)

    new_type_same : (at : ℕ) (s : Shape) → Same a b Kept (new_type path at s) (TypeIfWithin path)
    new_type_same at s =
        change_same (λ k. record k { shapes = k.shapes ++ record { at = at; shape = s } ∷ [] })
        (λ k i. record { keys = i.keys; points = i.points; own = i.own; headings = i.headings; nested = i.nested })
        next λ u p. same_pure (Some (type.Own path at)) (itself_within path)

    new_range_same : (at : ℕ) (o : Option Bounds) → Same a b Kept (new_range path at o) (TypeIfWithin path)
    new_range_same at None = same_pure None tt
    new_range_same at (Some o) = new_type_same at (shape.Range o)

    fill_constants_same : (id : TypeId) (n : ℕ) (xs : List Identifier) → Same a b Kept (fill_constants path id n xs) Any
    fill_constants_same id n [] = same_pure tt tt
    fill_constants_same id n (x ∷ xs) = fill_same x.name x.at (decl.Const path (Some (value.Ordinal id (pos n)))) tt (is.constants (Some (value.Ordinal id (pos n))))
        next λ u p. fill_constants_same id (n + 1) xs

    ordinal_type_same : (at : ℕ) (id : Option TypeId) → TypeIfWithin path id → Same a b Kept (ordinal_type path at id) Any
    ordinal_type_same at None g = same_pure None tt
    ordinal_type_same at (Some id) g = typed_here_same id g next λ t p. rule_same (ordinal_by_same a b at (ordinal t))

    domain_same : (end : Option ℕ) (x : Identifier) → Same a b Kept (domain (record { path = path; type_part_end = end }) x) (TypeIfWithin path)
    domain_same None x = type_name_same x
    domain_same (Some end) x = same_pure None tt

    arrays_same : (packed : Bool) (is : List IndexType) (c : Option TypeId) → TypeIfWithin path c → Same a b Kept (arrays path packed is c) (TypeIfWithin path)
    arrays_same packed [] c g = same_pure c g
    arrays_same packed (i ∷ outer) c g = typed_here_if_same c g
        next λ t p. new_type_same i.at
        (shape.Arr (record { packed = packed; index = i.bounds; component = c; size = size_of t; cells = array_cells i.bounds (size_of t); file = file_in t }))
        next λ x h. arrays_same packed outer x h

    field_same : (id : Option TypeId) (t : Option Typed) (in' : Option InVariant) (tags : Option ℕ) (r : RecordSoFar) (x : Identifier) →
        Same a b Kept (field id t in' tags r x) Any
    field_same id t in' tags r x = rule_same (same_report_if (is_some (slot_named x.name r.slots)) 304 x.at)
        next λ u p. same_pure (with_slot id t in' tags (free_name r.slots x.name) r) tt

    fields_same : (id : Option TypeId) (t : Option Typed) (in' : Option InVariant) (r : RecordSoFar) (xs : List Identifier) → Same a b Kept (fields_of id t in' r xs) Any
    fields_same id t in' r [] = same_pure r tt
    fields_same id t in' r (x ∷ xs) = field_same id t in' None r x next λ s p. fields_same id t in' s xs

    tag_same : (id : Option TypeId) (n : ℕ) (in' : Option InVariant) (x : Option Identifier) (r : RecordSoFar) → Same a b Kept (tag_slot id n in' x r) Any
    tag_same id n in' None r = same_pure (tag_cell id n in' None r) tt
    tag_same id n in' (Some x) r = rule_same (same_report_if (is_some (slot_named x.name r.slots)) 304 x.at)
        next λ u p. same_pure (tag_cell id n in' (free_name r.slots x.name) r) tt

    abbrev here : Option ℕ → TypePlace
    here end = record { path = path; type_part_end = end }

    mutual
      pub denote_same : (end : Option ℕ) (d : PlainDenoter) → Same a b Kept (denote (here end) d) (TypeIfWithin path)
      denote_same end (Named x) = type_name_same x
      denote_same end (Enumeration at xs) = fill_constants_same (type.Own path at) 0 xs next λ u p. new_type_same at (shape.Names (map (λ x. x.name) xs))
      denote_same end (Subrange first last) = looking_same (bounds first last) (λ find f. bounds_same a b path find f first last)
          next λ o p. new_range_same (first_of_constant first) o
      denote_same end (Pointer at x) = domain_same end x next λ d g. new_type_same at (shape.Ptr d)
      denote_same end (Array at packed is d) = indices_same end is next λ outer p. denote_same end d next λ c g. arrays_same packed outer c g
      denote_same end (Record at packed d) = field_list_same end None d empty_record next λ r p. new_type_same at (record_shape packed r)
      denote_same end (Set at packed d) = denote_same end d next λ t g. ordinal_type_same (first_of_denoter d) t g
          next λ o p. rule_same (base_by_same a b (first_of_denoter d) o) next λ c p. new_type_same at (shape.SetOf (Some packed) c)
      denote_same end (File at file d) = denote_same end d next λ t g. rule_same (same_refuse 321 file tt)
      denote_same end (Fields fixed) = rule_same (same_refuse 321 0 tt)
      denote_same end (FieldsWithVariants fixed at tag of vs) = rule_same (same_refuse 321 at tt)

      pub indices_same : (end : Option ℕ) (is : PlainIndices) → Same a b Kept (indices (here end) is) Any
      indices_same end NoIndices = same_pure [] tt
      indices_same end (Index at d more) = denote_same end d next λ t g. ordinal_type_same (first_of_denoter d) t g next λ o p. indices_same end more
          next λ outer p. same_pure (outer ++ record { at = at; bounds = o } ∷ []) tt

      pub field_list_same : (end : Option ℕ) (in' : Option InVariant) (d : PlainDenoter) (r : RecordSoFar) → Same a b Kept (field_list (here end) in' d r) Any
      field_list_same end in' (Fields fixed) r = fixed_same end in' fixed r
      field_list_same end in' (FieldsWithVariants fixed at tag of vs) r =
          fixed_same end in' fixed r
          next λ s p. type_name_same of
          next λ id g. ordinal_type_same of.at id g
          next λ o p. tag_same (tag_type id o) (length s.parts) in' tag (with_part (host_of o) in' (is_none tag) s)
          next λ u p. variants_same end (length s.parts) 0 (host_of o) vs (record { known = []; variants = [] }) (record { before = u; now = u })
      field_list_same end in' d r = same_pure r tt

      pub fixed_same : (end : Option ℕ) (in' : Option InVariant) (ss : PlainSections) (r : RecordSoFar) → Same a b Kept (fixed_fields (here end) in' ss r) Any
      fixed_same end in' NoSections r = same_pure r tt
      fixed_same end in' (Section xs d more) r =
          denote_same end d next λ id g. typed_here_if_same id g next λ t p. fields_same id t in' r xs next λ s p. fixed_same end in' more s

      pub variants_same : (end : Option ℕ) (k n : ℕ) (host : Option TypeId) (vs : PlainVariants) (v : VariantsSoFar) (r : Reading) →
          Same a b Kept (variants (here end) k n host vs v r) Any
      variants_same end k n host NoVariants v r = same_pure (close_part k v.variants r.before r.now) tt
      variants_same end k n host (Variant cs d more) v r =
          looking_same (λ find. selecting find host cs (record { values = []; known = v.known }))
          (λ find f. selecting_same a b path find f host cs (record { values = []; known = v.known }))
          next λ s p. field_list_same end (Some (record { part = k; variant = n })) d r.now
          next λ u p. variants_same end k (n + 1) host more (more_variants v s) (record r { now = u })

    -- ---- headings

    value_type_same : (x : Identifier) → Same a b Kept (value_type path x) (TypeIfWithin path)
    value_type_same x = type_name_same x next λ id g. typed_here_if_same id g next λ t p. rule_same (same_if (file_in t) (same_refuse 320 x.at tt) (same_pure id g))

    result_type_same : (x : Identifier) → Same a b Kept (result_type path x) (TypeIfWithin path)
    result_type_same x = type_name_same x next λ id g. typed_here_if_same id g next λ t p. rule_same (same_if (simple_or_pointer t) (same_pure id g) (same_refuse 323 x.at tt))

    distinct_same : (names' : List (List ℕ)) (xs : List Identifier) → Same a b Any (distinct names' xs) Any
    distinct_same names' [] = same_pure tt tt
    distinct_same names' (x ∷ xs) = same_report_if (list_any (bytes_eq x.name) names') 304 x.at next λ u p. distinct_same (x.name ∷ names') xs

    ones_within : (depth n : ℕ) (kind : FormalKind) (t : Option TypeId) (xs : List Identifier) → TypeIfWithin path t → FormalsWithin path (map (one depth n kind t) xs)
    ones_within depth n kind t [] g = tt
    ones_within depth n kind t (x ∷ xs) g = (g, ones_within depth n kind t xs g)

    append_within : (fs gs : List DeclaredFormal) → FormalsWithin path fs → FormalsWithin path gs → FormalsWithin path (fs ++ gs)
    append_within [] gs g h = h
    append_within (f ∷ fs) gs g h = (g.0, append_within fs gs g.1 h)

    mutual
      formals_same : (depth n : ℕ) (names' : List (List ℕ)) (fs : PlainFormals) → Same a b Kept (formals path depth n names' fs) (FormalsWithin path)
      formals_same depth n names' NoFormals = same_pure [] tt
      formals_same depth n names' (Formal s more) =
          rule_same (distinct_same names' (names_of s))
          next λ u p. section_same depth n s
          next λ first g. formals_same depth (n + 1) (map (λ x. x.name) (names_of s) ++ names') more
          next λ rest h. same_pure (first ++ rest) (append_within first rest g h)

      section_same : (depth n : ℕ) (s : PlainFormalSection) → Same a b Kept (section path depth n s) (FormalsWithin path)
      section_same depth n (Values xs of) = value_type_same of next λ t g. same_pure (map (one depth n formal.Value t) xs) (ones_within depth n formal.Value t xs g)
      section_same depth n (Variables at xs of) = type_name_same of next λ t g. same_pure (map (one depth n formal.Variable t) xs) (ones_within depth n formal.Variable t xs g)
      section_same depth n (Procedure at x own) = formals_same (depth + 1) 0 [] own next λ fs g. same_pure (one depth n formal.Procedure None x ∷ fs) (tt, g)
      section_same depth n (Function at x own result) = formals_same (depth + 1) 0 [] own next λ fs g. result_type_same result
          next λ t h. same_pure (one depth n formal.Function t x ∷ fs) (h, g)

    result_if_same : (x : Option Identifier) → Same a b Kept (result_if path x) (TypeIfWithin path)
    result_if_same None = same_pure None tt
    result_if_same (Some x) = result_type_same x

    heading_same : (h : PlainHeading) → Same a b Kept (heading path h) (HeadingWithin path)
    heading_same h = formals_same 0 0 [] h.formals next λ fs g. result_if_same (named_result h.kind) next λ t k. same_pure (record { formals = fs; result = t }) (g, k)

    -- ---- labels, constants, types, variables

    labels_same : (earlier list : List Number) → Same a b Any (labels earlier list) Any
    labels_same earlier [] = same_pure tt tt
    labels_same earlier (n ∷ more) =
        same_report_if (nat_lt 9999 n.value) 311 n.at next λ u p. same_report_if (list_any (has_value n.value) earlier) 307 n.at next λ u p. labels_same (n ∷ earlier) more

    module _ (own : PlainBlock) (given_heading : Heading) where
      abbrev block : Declaring
      block = record { path = path; own = own; heading = given_heading }

      constant_definition_same : (d : ConstantDefinition) → Same a b Kept (constant_definition block d) Any
      constant_definition_same d = looking_same (λ find. constant find d.value) (λ find f. constant_same a b path find f d.value)
          next λ v p. fill_same d.name.name d.name.at (decl.Const path v) tt (is.constants v)

      type_definition_same : (d : PlainTypeDefinition) → Same a b Kept (type_definition block d) Any
      type_definition_same d = denote_same (Some (type_part_end own.types)) d.of next λ t g. fill_same d.name.name d.name.at (decl.Sort path t) g (is.types t)

      add_slot_same : (n : List ℕ) (kind : FrameKind) (id : Option TypeId) (cells : ℕ) → Same a b Kept (add_slot n kind id cells) Any
      add_slot_same n kind id cells =
          change_same (λ k. record k { frame = k.frame ++ record { name = n; kind = kind; of = id; offset = frame_cells k.frame; cells = cells } ∷ [] })
          (λ k i. record { keys = i.keys; points = i.points; own = i.own; headings = i.headings; nested = i.nested })

      start_same : Same a b Kept (λ k. pureᵃ (frame_cells k.frame, k)) Any
      start_same = record { by = λ k i. (refl, i, tt) }

      variables_same : (t : Option TypeId) (cells : ℕ) (xs : List Identifier) → Same a b Kept (variables' block t cells xs) Any
      variables_same t cells [] = same_pure tt tt
      variables_same t cells (x ∷ xs) =
          start_same
          next λ start p. fill_same x.name x.at (decl.Var path (record { of = t; offset = start; control = is_control block x.name })) tt
          (is.variables (record { of = t; offset = start; control = is_control block x.name }))
          next λ u p. add_slot_same x.name frame_kind.Variable t cells
          next λ u p. variables_same t cells xs

      variable_part_same : (ss : PlainSections) → Same a b Kept (variable_part block ss) Any
      variable_part_same NoSections = same_pure tt tt
      variable_part_same (Section xs d more) =
          denote_same None d next λ t g. typed_here_if_same t g next λ s p. variables_same t (size_of s) xs next λ u p. variable_part_same more

      domain_type_same : (end : ℕ) (p : PointerType) → Same a b Kept (domain_type block end p) Any
      domain_type_same end p =
          looked
          next λ d g. change_same (λ k. record k { shapes = map (pointing p.at d) k.shapes })
          (λ k i. record { keys = i.keys; points = i.points; own = i.own; headings = i.headings; nested = i.nested })
        where
          looked : Same a b Kept (λ k. by_rule (look_at path k.names p.domain.at p.domain.name end >>= type_use p.domain.at) k) Any
          looked =
              record { by = λ k i. let r = (rule_same (look_same k i p.domain.at p.domain.name end next λ u g. type_use_same a b path p.domain.at u g)).by k i in (r.0, r.1, tt) }

      domain_types_same : Same a b Kept (domain_types block) Any
      domain_types_same = same_each (domain_type block (type_part_end own.types)) (domain_type_same (type_part_end own.types)) (flat_map (λ d. pointers d.of) own.types)

      -- ---- procedures and functions

      headed_within : (hs : List Headed) (at : ℕ) → AllHeadedWithin path hs → HeadingWithin path (headed hs at)
      headed_within [] at g = (tt, tt)
      headed_within (h ∷ hs) at g = by (nat_eq h.at at) (headed_within hs at g.1)
        where
          by : (x : Bool) → HeadingWithin path (unwrap_or (option_map (λ y. y.heading) (find (λ y. nat_eq y.at at) hs)) no_heading) →
              HeadingWithin path (unwrap_or (option_map (λ y. y.heading) (cond x (Some h) (find (λ y. nat_eq y.at at) hs))) no_heading)
          by true f = g.0
          by false f = f

      parameters_cells_same : (p : FormalParameter) (k : FormalKind) → TypeIfWithin path p.formal.of →
          Same a b Kept (parameter_cells path (record p { formal = record p.formal { kind = k } })) Any
      parameters_cells_same p formal.Value g = typed_here_if_same p.formal.of g next λ t q. same_pure (size_of t) tt
      parameters_cells_same p k g = same_pure 1 tt

      cells_same : (fs : List DeclaredFormal) → FormalsWithin path fs → Same a b Kept (cells_of_parameters path (parameters_in fs)) Any
      cells_same [] g = same_pure 0 tt
      cells_same (f ∷ fs) g = by (nat_eq f.depth 0) (cells_same fs g.1)
        where
          by : (x : Bool) → Same a b Kept (cells_of_parameters path (parameters_in fs)) Any →
              Same a b Kept (cells_of_parameters path (cond x (record { formal = f; own = own_heading f fs } ∷ parameters_in fs) (parameters_in fs))) Any
          by true c = parameters_cells_same (record { formal = f; own = own_heading f fs }) f.kind g.0 next λ n p. c next λ m q. same_pure (sum_of (n ∷ m ∷ [])) tt
          by false c = c

      routine_within : (d : PlainDeclaration) (k : HeadingKind) (earlier later : List PlainDeclaration) (h : Heading) (cells : ℕ) →
          DeclWithin path (routine block (record d { heading = record d.heading { kind = k } }) earlier later h cells)
      routine_within d heading_kind.Procedure earlier later h cells = tt
      routine_within d (heading_kind.Function x) earlier later h cells = tt

      routine_is : (d : PlainDeclaration) (k : HeadingKind) (earlier later : List PlainDeclaration) (h : Heading) (cells : ℕ) →
          D (routine block (record d { heading = record d.heading { kind = k } }) earlier later h cells)
      routine_is d heading_kind.Procedure earlier later h cells =
          is.procedures (record { heading = h; block = block_path path (record d { heading = record d.heading { kind = heading_kind.Procedure } }) earlier later })
      routine_is d (heading_kind.Function x) earlier later h cells =
          is.functions (record { heading = h; block = block_path path (record d { heading = record d.heading { kind = heading_kind.Function x } }) earlier later }) cells

      define_same : (d : PlainDeclaration) (earlier later : List PlainDeclaration) (h : Heading) → HeadingWithin path h →
          Same a b Kept (define_routine block d earlier later h) Any
      define_same d earlier later h g =
          rule_same (same_report_if (is_function d.heading.kind && not (is_some (named_result d.heading.kind))) 314 d.heading.name.at)
          next λ u p. change_same (λ k. record k { headings = record { at = d.heading.name.at; heading = h } ∷ k.headings })
          (λ k i. record { keys = i.keys; points = i.points; own = i.own; headings = (g, i.headings); nested = i.nested })
          next λ u p. cells_same h.formals g.0
          next λ cells p. fill_same (name_of d) d.heading.name.at (routine block d earlier later h cells) (routine_within d d.heading.kind earlier later h cells)
          (routine_is d d.heading.kind earlier later h cells)

      nested_append : (xs : List Nested) (x : Nested) → AllNestedWithin path xs → HeadingWithin path x.heading → AllNestedWithin path (xs ++ x ∷ [])
      nested_append [] x g h = (h, tt)
      nested_append (y ∷ xs) x g h = (g.0, nested_append xs x g.1 h)

      nest_kept : (d : PlainDeclaration) (earlier : List PlainDeclaration) (k : Known) (x : Bool) → Kept k →
          Kept (cond x
          (record k {
            nested =
                k.nested ++ record {
                  step = step_of d earlier;
                  heading = headed k.headings (origin d earlier);
                  function = is_function d.heading.kind;
                  semicolon = d.semicolon;
                } ∷ [];
          }) k)
      nest_kept d earlier k true i =
          record {
            keys = i.keys;
            points = i.points;
            own = i.own;
            headings = i.headings;
            nested =
                nested_append k.nested
                (record { step = step_of d earlier; heading = headed k.headings (origin d earlier); function = is_function d.heading.kind; semicolon = d.semicolon }) i.nested
                (headed_within k.headings (origin d earlier) i.headings);
          }
      nest_kept d earlier k false i = i

      completing_same : (d : PlainDeclaration) → Same a b Any (completing_heading d) Any
      completing_same d = same_report_if (has_formals d.heading.formals || is_some (named_result d.heading.kind)) 313 d.heading.name.at

      forward_same : (d : PlainDeclaration) (later : List PlainDeclaration) → Same a b Any (forward_heading d later) Any
      forward_same d later = same_report_if (not (is_block d.body) && not (list_any (alike d) later)) 312 d.heading.name.at

      one_routine_same : (d : PlainDeclaration) (earlier later : List PlainDeclaration) (h : Heading) → HeadingWithin path h →
          Same a b Kept (if completes d earlier then by_rule (completing_heading d) else define_routine block d earlier later h) Any
      one_routine_same d earlier later h g = same_if (completes d earlier) (rule_same (completing_same d)) (define_same d earlier later h g)

      nest_same : (d : PlainDeclaration) (earlier : List PlainDeclaration) → Same a b Kept (change (nest d earlier)) Any
      nest_same d earlier = change_same (nest d earlier) (λ k i. nest_kept d earlier k (is_block d.body) i)

      routines_same : (earlier list : List PlainDeclaration) → Same a b Kept (routine_declarations block earlier list) Any
      routines_same earlier [] = same_pure tt tt
      routines_same earlier (d ∷ later) =
          heading_same d.heading
          next λ h g. one_routine_same d earlier later h g
          next λ u p. rule_same (forward_same d later)
          next λ u p. nest_same d earlier
          next λ u p. routines_same (d ∷ earlier) later

      program_parameters_same : (known : Points) (earlier xs : List Identifier) → Same a b Any (program_parameters known earlier xs) Any
      program_parameters_same known earlier [] = same_pure tt tt
      program_parameters_same known earlier (x ∷ xs) = same_report_if (list_any (λ y. bytes_eq x.name y.name) earlier) 304 x.at
          next λ u p. same_report_if (not (is_some (standard_file x.name)) && not (is_text_variable (lookup (bytes_eq x.name) known))) 326 x.at
          next λ u p. program_parameters_same known (x ∷ earlier) xs

      program_heading_same : (h : Option ProgramHeading) → Same a b Kept (program_heading h) Any
      program_heading_same None = same_pure tt tt
      program_heading_same (Some h) = record { by = λ k i. (rule_same (program_parameters_same k.names [] h.parameters)).by k i }

      -- what follows the names of the block
      pub definitions_same : Same a b Kept
          (by_rule (labels [] own.labels) >>
          (each (constant_definition block) own.constants >>
          (each (type_definition block) own.types >>
          (domain_types block >> (variable_part block own.variables >> (routine_declarations block [] own.declarations >> program_heading own.program)))))) Any
      definitions_same =
          rule_same (labels_same [] own.labels)
          next λ u p. same_each (constant_definition block) constant_definition_same own.constants
          next λ u p. same_each (type_definition block) type_definition_same own.types
          next λ u p. domain_types_same
          next λ u p. variable_part_same own.variables
          next λ u p. routines_same [] own.declarations
          next λ u p. program_heading_same own.program
