-- Declarations that report nothing have their parts: constants their values, types, variables and results their types.
use Rattle.std.proofs.Common.{◌≡◌, ℕ, ◌+◌, pos, Bool, true, false, cond, not, ◌&&◌, ◌||◌, List, [], ◌∷◌, ◌++◌, Option, Some, None, refl, sym, ap, ◌∙◌, subst, map, length, append-nil, nat_eq, nat_lt, is_some, is_none}
use Rattle.std.specs.Prelude.{bytes_eq, flat_map, find, option_map, unwrap_or, if◌then◌else◌}
use Rattle.std.specs.Map.{lookup}
use Rattle.std.specs.List.{list_any}
use Rattle.std.proofs.lemmas.Slice.Eq.{bytes_eq-Decides}
use Rattle.mp_base.specs.declared.path.PathStep.{PathStep}
use Rattle.mp_ast.specs.declared.leaves.Identifier.{Identifier}
use Rattle.mp_ast.specs.declared.leaves.Number.{Number}
use Rattle.mp_ast.specs.declared.leaves.Constant.{Constant}
use Rattle.mp_ast.specs.declared.leaves.Constant.TheVariants as constants
use Rattle.mp_ast.specs.declared.leaves.Sign.{Sign}
use Rattle.mp_ast.specs.declared.headings.HeadingKind.{HeadingKind}
use Rattle.mp_ast.specs.declared.headings.HeadingKind.TheVariants as heading_kind
use Rattle.mp_ast.specs.declared.blocks.ProgramHeading.{ProgramHeading}
use Rattle.mp_ast.specs.declared.blocks.ConstantDefinition.{ConstantDefinition}
use Rattle.mp_ast.specs.PlainTypes.{PlainDenoter, Named, Enumeration, Subrange, Pointer, Array, Record, Set, File, Fields, FieldsWithVariants, PlainIndices, NoIndices, Index, PlainSections, NoSections, Section, PlainVariants, NoVariants, Variant}
use Rattle.mp_ast.specs.PlainHeadings.{PlainHeading, PlainFormals, NoFormals, Formal, PlainFormalSection, Values, Variables, Procedure, Function}
use Rattle.mp_ast.specs.PlainTrees.{PlainBlock, PlainDeclaration, PlainTypeDefinition}
use Rattle.mp_ast.specs.Blocks.{same_path, is_block}
use Rattle.mp_ast.specs.FirstTokens.{first_of_constant, first_of_denoter}
use Rattle.mp_tables.specs.declared.types.TypeId.{TypeId}
use Rattle.mp_tables.specs.declared.types.TypeId.TheVariants as type
use Rattle.mp_tables.specs.declared.types.Bounds.{Bounds}
use Rattle.mp_tables.specs.declared.types.Within.{Within as InVariant}
use Rattle.mp_tables.specs.declared.types.Shape.{Shape}
use Rattle.mp_tables.specs.declared.types.Shape.TheVariants as shape
use Rattle.mp_tables.specs.declared.types.Typed.{Typed}
use Rattle.mp_tables.specs.declared.headings.Formal.{Formal as DeclaredFormal}
use Rattle.mp_tables.specs.declared.headings.FormalKind.{FormalKind}
use Rattle.mp_tables.specs.declared.headings.FormalKind.TheVariants as formal
use Rattle.mp_tables.specs.declared.headings.Heading.{Heading}
use Rattle.mp_tables.specs.declared.required.Required.TheVariants as name
use Rattle.mp_tables.specs.declared.declarations.ConstantValue.{ConstantValue}
use Rattle.mp_tables.specs.declared.declarations.ConstantValue.TheVariants as value
use Rattle.mp_tables.specs.declared.declarations.Decl.{Decl}
use Rattle.mp_tables.specs.declared.declarations.Decl.TheVariants as decl
use Rattle.mp_tables.specs.declared.declarations.Variable.{Variable}
use Rattle.mp_tables.specs.declared.declarations.Routine.{Routine}
use Rattle.mp_tables.specs.declared.questions.Seen.{Seen}
use Rattle.mp_tables.specs.declared.questions.Seen.TheVariants as see
use Rattle.mp_tables.specs.declared.tables.Entry.{Entry}
use Rattle.mp_tables.specs.declared.tables.Nested.{Nested}
use Rattle.mp_tables.specs.Asks.{Answers, find as find_name, shape as ask_shape}
use Rattle.mp_tables.specs.RequiredNames.{standard_file}
use Rattle.mp_tables.specs.TypeRelations.{ordinal}
use Rattle.mp_tables.specs.Seen.{seen_entry, no_heading}
use Rattle.mp_tables.specs.Constants.{integer_constant, string_constant, signed, with_sign, constant_use, constant, constant_fits, same_constant, Selecting, numbers, selecting_by, selecting}
use Rattle.mp_tables.specs.Sizes.{slot_named, array_cells}
use Rattle.mp_tables.specs.Sizes.{sum_of}
use Rattle.mp_tables.specs.StatementWalks.{has_value}
use Rattle.mp_tables.specs.DefiningPoints.{label_point, not_read, Points, Declaring, filled, is_control, name_of, is_function, alike, step_of, origin, completes, block_path, routine}
use Rattle.mp_tables.specs.Headings.{value_type, simple_or_pointer, result_type, one, distinct, names_of, formals, section, named_result, result_if, heading, own_heading, FormalParameter, parameters_in}
use Rattle.mp_tables.specs.Elaboration.{elaborate, name_at, has_formals, completing_heading, forward_heading, is_text_variable, frame_cells, add_slot, parameter_cells, cells_of_parameters, labels, constant_definition, type_part_end, type_definition, variables as variables', variable_part, PointerType, pointers, pointing, domain_type, domain_types, headed, define_routine, nest, routine_declarations, program_parameters, program_heading}
use Rattle.mp_tables.specs.declared.typed_statements.FrameKind.{FrameKind}
use Rattle.mp_tables.specs.declared.typed_statements.FrameKind.TheVariants as frame_kind
use Rattle.mp_tables.specs.Asks.{pure as pureᵃ}
use Rattle.mp_tables.specs.Denoters.{Headed, Known, Elaboration, by_rule, change, fill, TypePlace, look_by, look_at, look, looking, type_use, type_name, own_typed, typed_here, typed_here_if, new_type, bounds_by, bounds, new_range, fill_constants, ordinal_by, ordinal_type, domain, base_by, IndexType, arrays, size_of, file_in, with_slot, free_name, tag_cell, with_part, host_of, tag_type, close_part, more_variants, empty_record, record_shape, RecordSoFar, field, fields_of, tag_slot, Reading, VariantsSoFar, denote, indices, field_list, fixed_fields, variants}
use Rattle.mp_tables.proofs.StableLemmas.{points_all}
use Rattle.mp_tables.proofs.FrameLemmas.{after_names, after_given}
use Rattle.mp_tables.specs.Reports.{Threads, Rule, pure, ◌>>=◌, ◌>>◌, lift, each, report, report_if, refuse}
use Rattle.mp_tables.specs.Names.{Use, OpenField, Declared, Lookup, declared_use, looked_up, typed}
use Rattle.mp_tables.specs.Parts.{NamedDecl, SeenNamed, PartsAreThere}
use Rattle.mp_tables.specs.Complete.{IsNamed, AreNamed, NamedHeading}
use Rattle.mp_tables.proofs.CleanLemmas.{Clean, Any, clean_pure, ◌then◌, ◌so◌, weaken, clean_report, clean_report_if, clean_refuse, clean_lift, clean_each, any_bind, true_false, false_true, none_some, some_inj}
use Rattle.mp_tables.proofs.ElaborationLemmas.{AllPoints, filled_all}
use Rattle.mp_tables.proofs.StaysLemmas.{clean_if, ordinal_by_any, base_by_any, selecting_any, distinct_any, labels_any, program_parameters_any}

-- ---- what has its parts

abbrev pub UseNamed : Option Use → Type 0
UseNamed (Some (Declared d)) = NamedDecl d
UseNamed (Some (OpenField k f)) = Unit {0}
UseNamed None = ⊥

abbrev IsSome : {A : Type 0} → Option A → Type 0
IsSome o = is_some o ≡ true

-- ---- rules

module _ (a : Answers) where
  declared_named : (at : ℕ) (s : Seen) → Clean a (declared_use at s) (λ u. SeenNamed s → UseNamed u)
  declared_named at (see.Is (decl.Required name.Real)) = clean_refuse 303 at
  declared_named at (see.Is d) = clean_pure (Some (Declared d)) (λ g. g)
  declared_named at see.NotYet = clean_refuse 302 at
  declared_named at see.Absent = clean_refuse 301 at

  signed_named : (s : Option Sign) (v : Option ConstantValue) → Clean a (signed s v) (λ x. IsSome v → IsSome x)
  signed_named None v = clean_pure v (λ g. g)
  signed_named (Some s) None = clean_pure None (λ g. g)
  signed_named (Some s) (Some (value.Ordinal type.Integer n)) = clean_pure (Some (value.Ordinal type.Integer (with_sign s.kind n))) (λ g. refl)
  signed_named (Some s) (Some v) = clean_refuse 322 s.at

  constant_use_named : (at : ℕ) (u : Option Use) → Clean a (constant_use at u) (λ v. UseNamed u → IsSome v)
  constant_use_named at None = clean_pure None (λ g. absurd g)
  constant_use_named at (Some (Declared (decl.Const q v))) = clean_pure v (λ g. g)
  constant_use_named at (Some (Declared (decl.Required name.False))) = clean_pure _ (λ g. refl)
  constant_use_named at (Some (Declared (decl.Required name.True))) = clean_pure _ (λ g. refl)
  constant_use_named at (Some (Declared (decl.Required name.Maxint))) = clean_pure _ (λ g. refl)
  constant_use_named at (Some u) = clean_refuse 305 at

  type_use_named : (at : ℕ) (u : Option Use) → Clean a (type_use at u) (λ t. UseNamed u → IsSome t)
  type_use_named at None = clean_pure None (λ g. absurd g)
  type_use_named at (Some (Declared (decl.Sort q t))) = clean_pure t (λ g. g)
  type_use_named at (Some (Declared (decl.Required name.Integer))) = clean_pure (Some type.Integer) (λ g. refl)
  type_use_named at (Some (Declared (decl.Required name.Boolean))) = clean_pure (Some type.Boolean) (λ g. refl)
  type_use_named at (Some (Declared (decl.Required name.Char))) = clean_pure (Some type.Char) (λ g. refl)
  type_use_named at (Some (Declared (decl.Required name.Text))) = clean_pure (Some type.Text) (λ g. refl)
  type_use_named at (Some u) = clean_refuse 305 at

  bounds_by_named : (at : ℕ) (x y : Option ConstantValue) → Clean a (bounds_by at x y) (λ o. IsSome x → IsSome y → IsSome o)
  bounds_by_named at None y = clean_pure None (λ g h. g)
  bounds_by_named at (Some v) None = clean_pure None (λ g h. h)
  bounds_by_named at (Some (value.Ordinal h m)) (Some (value.Ordinal i n)) =
      clean_if _ (clean_refuse 317 at) (clean_if _ (clean_refuse 316 at) (clean_pure (Some (record { host = h; low = m; high = n })) (λ g h. refl)))
  bounds_by_named at (Some v) (Some x) = clean_refuse 317 at

  module _ (F : Type 0) (find : Lookup) (f : (x : Identifier) → Clean a (find x) (λ u. F → UseNamed u)) where
    constant_named : (c : Constant) → Clean a (constant find c) (λ v. F → IsSome v)
    constant_named (constants.Number s n) = signed_named s (Some (integer_constant n.value)) so λ v g p. g refl
    constant_named (constants.Name s x) = used x then λ v. signed_named s v so λ y g h p. g (h p)
      where
        used : (x : Identifier) → Clean a (find x >>= constant_use x.at) (λ v. F → IsSome v)
        used x = f x then λ u. constant_use_named x.at u so λ v g h p. g (h p)
    constant_named (constants.Text s) = clean_pure (Some (string_constant s.characters)) (λ p. refl)

    bounds_named : (first last : Constant) → Clean a (bounds first last find) (λ o. F → IsSome o)
    bounds_named first last = constant_named first then λ x. constant_named last then λ y. bounds_by_named (first_of_constant last) x y so λ o g h k p. g (k p) (h p)

    type_named : (x : Identifier) → Clean a (find x >>= type_use x.at) (λ t. F → IsSome t)
    type_named x = f x then λ u. type_use_named x.at u so λ t g h p. g (h p)

-- ---- declarations

pub record Sound {A : Type 0} (a : Answers) (F : Type 0) (m : Elaboration A) (P : A → Type 0) : Type 0 where
  pub by : (k : Known) → ((m k).run a).1.errors ≡ [] → (k.errors ≡ []) × (F → AllPoints NamedDecl k.names → AllPoints NamedDecl ((m k).run a).1.names × P ((m k).run a).0)

infixl 10 ◌thus◌
pub ◌thus◌ :
    {A B : Type 0} {a : Answers} {F : Type 0} {P : A → Type 0} {Q : B → Type 0} {m : Elaboration A} {k : A → Elaboration B} →
    Sound a F m P → ((x : A) → Sound a (F × P x) (k x) Q) → Sound a F (m >>= k) Q
◌thus◌ {a = a} {m = m} c d =
    record {
      by = λ s e.
          let r = (d ((m s).run a).0).by ((m s).run a).1 e in
          let f = c.by s r.0 in
          (f.0, λ p i. let g = f.1 p i in r.1 (p, g.1) g.0);
    }

found_named : (n : List ℕ) (ps : Points) (e : Entry) → AllPoints NamedDecl ps → lookup (bytes_eq n) ps ≡ Some e → NamedDecl e.decl
found_named n [] e g h = none_some h
found_named n (p ∷ ps) e g h = by (bytes_eq n p.0) h (found_named n ps e g.1)
  where
    by : (b : Bool) → cond b (Some p.1) (lookup (bytes_eq n) ps) ≡ Some e → (lookup (bytes_eq n) ps ≡ Some e → NamedDecl e.decl) → NamedDecl e.decl
    by true q f = subst (λ y. NamedDecl y.decl) (some_inj q) g.0
    by false q f = f q

module _ (a : Answers) (path : List PathStep) (asked : (n : List ℕ) (o : ℕ) → SeenNamed (a.name n (record { path = path; ordinal = o }))) where
  give : {A : Type 0} {F : Type 0} {P : A → Type 0} (x : A) → (F → P x) → Sound a F (pure x) P
  give x f = record { by = λ k e. (e, λ p i. (i, f p)) }

  look_named : (at : ℕ) (n : List ℕ) (place : ℕ) (ps : Points) → Clean a (look_at path ps at n place) (λ u. AllPoints NamedDecl ps → UseNamed u)
  look_named at n place ps = by (lookup (bytes_eq n) ps) refl
    where
      entry : (e : Entry) (x : Bool) → NamedDecl e.decl → SeenNamed (cond x (see.Is e.decl) see.NotYet)
      entry e true g = g
      entry e false g = tt

      by : (o : Option Entry) → lookup (bytes_eq n) ps ≡ o → Clean a (look_by path at n place o) (λ u. AllPoints NamedDecl ps → UseNamed u)
      by None q = clean_lift (find_name n (record { path = path; ordinal = place })) then λ s. declared_named a at s so λ u g e p. g (subst SeenNamed (sym e) (asked n place))
      by (Some x) q = declared_named a at (seen_entry place x) so λ u g p. g (entry x _ (found_named n ps x p q))

  looks : {A : Type 0} {F : Type 0} {P : A → Type 0} (m : Lookup → Rule A) →
      ((G : Type 0) (find : Lookup) → ((x : Identifier) → Clean a (find x) (λ u. G → UseNamed u)) → Clean a (m find) (λ x. G → P x)) → Sound a F (looking path m) P
  looks m f =
      record { by = λ k e. let r = (f (AllPoints NamedDecl k.names) (look path k.names) (λ x. look_named x.at x.name x.at k.names)).by k.errors e in (r.0, λ p i. (i, r.1 i)) }

  ruled : {A : Type 0} {F : Type 0} {P : A → Type 0} {m : Rule A} → Clean a m (λ x. F → P x) → Sound a F (by_rule m) P
  ruled c = record { by = λ k e. let r = c.by k.errors e in (r.0, λ p i. (i, r.1 p)) }

  fills : {F : Type 0} (n : List ℕ) (at : ℕ) (d : Decl) → (F → NamedDecl d) → Sound a F (fill n at d) Any
  fills n at d g = record { by = λ k e. (e, λ p i. (filled_all NamedDecl n at d k.names (g p) i, tt)) }

  named_type : {F : Type 0} (x : Identifier) → Sound a F (type_name path x) IsSome
  named_type x = looks (λ find. find x >>= type_use x.at) (λ G find f. type_named a G find f x)

  named_typed : {F : Type 0} (id : TypeId) → Sound a F (typed_here path id) Any
  named_typed type.Integer = record { by = λ k e. (e, λ p i. (i, tt)) }
  named_typed type.Boolean = record { by = λ k e. (e, λ p i. (i, tt)) }
  named_typed type.Char = record { by = λ k e. (e, λ p i. (i, tt)) }
  named_typed type.Text = record { by = λ k e. (e, λ p i. (i, tt)) }
  named_typed (type.Own p at) = by (same_path p path)
    where
      by : {F : Type 0} (x : Bool) → Sound a F (cond x (own_typed at (type.Own p at)) (typed (type.Own p at))) Any
      by true = record { by = λ k e. (e, λ p i. (i, tt)) }
      by false = record { by = λ k e. (e, λ p i. (i, tt)) }

  named_typed_if : {F : Type 0} (id : Option TypeId) → Sound a F (typed_here_if path id) Any
  named_typed_if None = give None (λ p. tt)
  named_typed_if (Some id) = named_typed id thus λ t. give (Some t) (λ p. tt)

  makes : {F : Type 0} (at : ℕ) (s : Shape) → Sound a F (new_type path at s) IsSome
  makes at s = record { by = λ k e. (e, λ p i. (i, refl)) }

  at_any : {A : Type 0} {F : Type 0} {P : A → Type 0} {m : Elaboration A} → Sound a (Unit {0}) m P → Sound a F m P
  at_any c = record { by = λ k e. let r = c.by k e in (r.0, λ p i. r.1 tt i) }

  any_of : {A : Type 0} {F : Type 0} {P : A → Type 0} {m : Elaboration A} → Sound a F m P → Sound a F m Any
  any_of c = record { by = λ k e. let r = c.by k e in (r.0, λ p i. ((r.1 p i).0, tt)) }

  range_named : {F : Type 0} (at : ℕ) (o : Option Bounds) → (F → IsSome o) → Sound a F (new_range path at o) IsSome
  range_named at None g = give None g
  range_named at (Some o) g = makes at (shape.Range o)

  constants_named : {F : Type 0} (id : TypeId) (n : ℕ) (xs : List Identifier) → Sound a F (fill_constants path id n xs) Any
  constants_named id n [] = give tt (λ p. tt)
  constants_named id n (x ∷ xs) = fills x.name x.at (decl.Const path (Some (value.Ordinal id (pos n)))) (λ p. refl) thus λ u. constants_named id (n + 1) xs

  ordinal_named : {F : Type 0} (at : ℕ) (id : Option TypeId) → Sound a F (ordinal_type path at id) Any
  ordinal_named at None = give None (λ p. tt)
  ordinal_named at (Some id) = named_typed id thus λ t. any_of (ruled {P = Any} (weaken (λ x p q. tt) (ordinal_by_any a at (ordinal t))))

  domain_named : {F : Type 0} (end : Option ℕ) (x : Identifier) → Sound a F (domain (record { path = path; type_part_end = end }) x) Any
  domain_named None x = any_of (named_type x)
  domain_named (Some end) x = give None (λ p. tt)

  arrays_named : {F : Type 0} (packed : Bool) (is : List IndexType) (c : Option TypeId) → (F → IsSome c) → Sound a F (arrays path packed is c) IsSome
  arrays_named packed [] c g = give c g
  arrays_named packed (i ∷ outer) c g =
      named_typed_if c
      thus λ t. makes i.at (shape.Arr (record { packed = packed; index = i.bounds; component = c; size = size_of t; cells = array_cells i.bounds (size_of t); file = file_in t }))
      thus λ x. arrays_named packed outer x (λ p. p.1)

  reported_named : {F : Type 0} (b : Bool) (code at : ℕ) → Sound a F (by_rule (report_if b code at)) Any
  reported_named b code at = ruled (weaken (λ x p q. tt) (clean_report_if b code at))

  field_named : {F : Type 0} (id : Option TypeId) (t : Option Typed) (in' : Option InVariant) (tags : Option ℕ) (r : RecordSoFar) (x : Identifier) →
      Sound a F (field id t in' tags r x) Any
  field_named id t in' tags r x = reported_named (is_some (slot_named x.name r.slots)) 304 x.at thus λ u. give (with_slot id t in' tags (free_name r.slots x.name) r) (λ p. tt)

  fields_named : {F : Type 0} (id : Option TypeId) (t : Option Typed) (in' : Option InVariant) (r : RecordSoFar) (xs : List Identifier) → Sound a F (fields_of id t in' r xs) Any
  fields_named id t in' r [] = give r (λ p. tt)
  fields_named id t in' r (x ∷ xs) = field_named id t in' None r x thus λ s. fields_named id t in' s xs

  tag_named : {F : Type 0} (id : Option TypeId) (n : ℕ) (in' : Option InVariant) (x : Option Identifier) (r : RecordSoFar) → Sound a F (tag_slot id n in' x r) Any
  tag_named id n in' None r = give (tag_cell id n in' None r) (λ p. tt)
  tag_named id n in' (Some x) r = reported_named (is_some (slot_named x.name r.slots)) 304 x.at thus λ u. give (tag_cell id n in' (free_name r.slots x.name) r) (λ p. tt)

  abbrev here : Option ℕ → TypePlace
  here end = record { path = path; type_part_end = end }

  mutual
    pub denote_named : (end : Option ℕ) (d : PlainDenoter) → Sound a (Unit {0}) (denote (here end) d) IsSome
    denote_named end (Named x) = named_type x
    denote_named end (Enumeration at xs) = constants_named (type.Own path at) 0 xs thus λ u. makes at (shape.Names (map (λ x. x.name) xs))
    denote_named end (Subrange first last) =
        looks (bounds first last) (λ G find f. bounds_named a G find f first last) thus λ o. range_named (first_of_constant first) o (λ p. p.1)
    denote_named end (Pointer at x) = domain_named end x thus λ d. makes at (shape.Ptr d)
    denote_named end (Array at packed is d) = indices_named end is thus λ outer. at_any (denote_named end d) thus λ c. arrays_named packed outer c (λ p. p.1)
    denote_named end (Record at packed d) = field_list_named end None d empty_record thus λ r. makes at (record_shape packed r)
    denote_named end (Set at packed d) =
        denote_named end d thus λ t. ordinal_named (first_of_denoter d) t thus λ o. any_of
        (ruled {P = Any} (weaken (λ x p q. tt) (base_by_any a (first_of_denoter d) o))) thus λ c. makes at (shape.SetOf (Some packed) c)
    denote_named end (File at file d) = denote_named end d thus λ t. ruled (clean_refuse 321 file)
    denote_named end (Fields fixed) = ruled (clean_refuse 321 0)
    denote_named end (FieldsWithVariants fixed at tag of vs) = ruled (clean_refuse 321 at)

    pub indices_named : (end : Option ℕ) (is : PlainIndices) → Sound a (Unit {0}) (indices (here end) is) Any
    indices_named end NoIndices = give [] (λ p. tt)
    indices_named end (Index at d more) =
        denote_named end d thus λ t. ordinal_named (first_of_denoter d) t thus λ o. at_any (indices_named end more) thus λ outer. give
        (outer ++ record { at = at; bounds = o } ∷ []) (λ p. tt)

    pub field_list_named : (end : Option ℕ) (in' : Option InVariant) (d : PlainDenoter) (r : RecordSoFar) → Sound a (Unit {0}) (field_list (here end) in' d r) Any
    field_list_named end in' (Fields fixed) r = fixed_named end in' fixed r
    field_list_named end in' (FieldsWithVariants fixed at tag of vs) r =
        fixed_named end in' fixed r
        thus λ s. named_type of
        thus λ id. ordinal_named of.at id
        thus λ o. tag_named (tag_type id o) (length s.parts) in' tag (with_part (host_of o) in' (is_none tag) s)
        thus λ u. at_any (variants_named end (length s.parts) 0 (host_of o) vs (record { known = []; variants = [] }) (record { before = u; now = u }))
    field_list_named end in' d r = give r (λ p. tt)

    pub fixed_named : (end : Option ℕ) (in' : Option InVariant) (ss : PlainSections) (r : RecordSoFar) → Sound a (Unit {0}) (fixed_fields (here end) in' ss r) Any
    fixed_named end in' NoSections r = give r (λ p. tt)
    fixed_named end in' (Section xs d more) r = denote_named end d thus λ id. named_typed_if id thus λ t. fields_named id t in' r xs thus λ s. at_any (fixed_named end in' more s)

    pub variants_named : (end : Option ℕ) (k n : ℕ) (host : Option TypeId) (vs : PlainVariants) (v : VariantsSoFar) (r : Reading) →
        Sound a (Unit {0}) (variants (here end) k n host vs v r) Any
    variants_named end k n host NoVariants v r = give (close_part k v.variants r.before r.now) (λ p. tt)
    variants_named end k n host (Variant cs d more) v r =
        looks {P = Any} (λ find. selecting find host cs (record { values = []; known = v.known }))
        (λ G find f. weaken {Q = λ x. G →
        Unit {0}} (λ x p q. tt) (selecting_any a find (λ x. weaken {Q = Any} (λ y p. tt) (f x)) host cs (record { values = []; known = v.known })))
        thus λ s. at_any (field_list_named end (Some (record { part = k; variant = n })) d r.now)
        thus λ u. at_any (variants_named end k (n + 1) host more (more_variants v s) (record r { now = u }))

  -- ---- headings

  value_named : (x : Identifier) → Sound a (Unit {0}) (value_type path x) IsSome
  value_named x = named_type x thus λ id. named_typed_if id thus λ t. ruled (clean_if (file_in t) (clean_refuse 320 x.at) (clean_pure id (λ p. p.0.1)))

  result_named : (x : Identifier) → Sound a (Unit {0}) (result_type path x) IsSome
  result_named x = named_type x thus λ id. named_typed_if id thus λ t. ruled (clean_if (simple_or_pointer t) (clean_pure id (λ p. p.0.1)) (clean_refuse 323 x.at))

  ones_named : (depth n : ℕ) (kind : FormalKind) (t : Option TypeId) (xs : List Identifier) → IsNamed kind t → AreNamed (map (one depth n kind t) xs)
  ones_named depth n kind t [] g = tt
  ones_named depth n kind t (x ∷ xs) g = (g, ones_named depth n kind t xs g)

  append_named : (fs gs : List DeclaredFormal) → AreNamed fs → AreNamed gs → AreNamed (fs ++ gs)
  append_named [] gs g h = h
  append_named (f ∷ fs) gs g h = (g.0, append_named fs gs g.1 h)

  mutual
    formals_named : (depth n : ℕ) (names' : List (List ℕ)) (fs : PlainFormals) → Sound a (Unit {0}) (formals path depth n names' fs) AreNamed
    formals_named depth n names' NoFormals = give [] (λ p. tt)
    formals_named depth n names' (Formal s more) =
        any_of (ruled {P = Any} (weaken (λ x p q. tt) (distinct_any a names' (names_of s))))
        thus λ u. at_any (section_named depth n s)
        thus λ first. at_any (formals_named depth (n + 1) (map (λ x. x.name) (names_of s) ++ names') more)
        thus λ rest. give (first ++ rest) (λ p. append_named first rest p.0.1 p.1)

    section_named : (depth n : ℕ) (s : PlainFormalSection) → Sound a (Unit {0}) (section path depth n s) AreNamed
    section_named depth n (Values xs of) = value_named of thus λ t. give (map (one depth n formal.Value t) xs) (λ p. ones_named depth n formal.Value t xs p.1)
    section_named depth n (Variables at xs of) = named_type of thus λ t. give (map (one depth n formal.Variable t) xs) (λ p. ones_named depth n formal.Variable t xs p.1)
    section_named depth n (Procedure at x own) = formals_named (depth + 1) 0 [] own thus λ fs. give (one depth n formal.Procedure None x ∷ fs) (λ p. (refl, p.1))
    section_named depth n (Function at x own result) =
        formals_named (depth + 1) 0 [] own thus λ fs. at_any (result_named result) thus λ t. give (one depth n formal.Function t x ∷ fs) (λ p. (p.1, p.0.1))

  -- what a heading's kind says of its result
  abbrev ResultIs : HeadingKind → Option TypeId → Type 0
  ResultIs heading_kind.Procedure r = r ≡ None
  ResultIs (heading_kind.Function None) r = Unit {0}
  ResultIs (heading_kind.Function (Some x)) r = IsSome r

  result_if_named : (k : HeadingKind) → Sound a (Unit {0}) (result_if path (named_result k)) (ResultIs k)
  result_if_named heading_kind.Procedure = give None (λ p. refl)
  result_if_named (heading_kind.Function None) = give None (λ p. tt)
  result_if_named (heading_kind.Function (Some x)) = result_named x

  heading_named : (h : PlainHeading) → Sound a (Unit {0}) (heading path h) (λ x. AreNamed x.formals × ResultIs h.kind x.result)
  heading_named h = formals_named 0 0 [] h.formals thus λ fs. at_any (result_if_named h.kind) thus λ t. give (record { formals = fs; result = t }) (λ p. (p.0.1, p.1))

  -- ---- the parts of a block

  each_named : {X : Type 0} (f : X → Elaboration (Unit {0})) → ((x : X) → Sound a (Unit {0}) (f x) Any) → (xs : List X) → Sound a (Unit {0}) (each f xs) Any
  each_named f c [] = give tt (λ p. tt)
  each_named f c (x ∷ xs) = c x thus λ u. at_any (each_named f c xs)

  change_named : {F : Type 0} (f : Known → Known) → ((k : Known) → (f k).errors ≡ k.errors) → ((k : Known) → (f k).names ≡ k.names) → Sound a F (change f) Any
  change_named f g h = record { by = λ k e. (sym (g k) ∙ e, λ p i. (subst (AllPoints NamedDecl) (sym (h k)) i, tt)) }

  module _ (own : PlainBlock) (given_heading : Heading) where
    abbrev block : Declaring
    block = record { path = path; own = own; heading = given_heading }

    constant_part : (d : ConstantDefinition) → Sound a (Unit {0}) (constant_definition block d) Any
    constant_part d = looks (λ find. constant find d.value) (λ G find f. constant_named a G find f d.value) thus λ v. fills d.name.name d.name.at (decl.Const path v) (λ p. p.1)

    type_part : (d : PlainTypeDefinition) → Sound a (Unit {0}) (type_definition block d) Any
    type_part d = denote_named (Some (type_part_end own.types)) d.of thus λ t. fills d.name.name d.name.at (decl.Sort path t) (λ p. p.1)

    domain_part : (end : ℕ) (p : PointerType) → Sound a (Unit {0}) (domain_type block end p) Any
    domain_part end p =
        looked thus λ d. change_named (λ k. record k { shapes = map (pointing p.at d) k.shapes }) (λ k. refl) (λ k. refl)
      where
        looked : Sound a (Unit {0}) (λ k. by_rule (look_at path k.names p.domain.at p.domain.name end >>= type_use p.domain.at) k) Any
        looked =
            record {
              by = λ k e.
                  let r = (any_bind (look_named p.domain.at p.domain.name end k.names) (λ u. weaken (λ x q. tt) (type_use_named a p.domain.at u))).by k.errors e in
                  (r.0, λ q i. (i, tt));
            }

    names_part : {F : Type 0} (t : Option TypeId) (cells : ℕ) (xs : List Identifier) → (F → IsSome t) → Sound a F (variables' block t cells xs) Any
    names_part t cells [] g = give tt (λ p. tt)
    names_part t cells (x ∷ xs) g =
        record {
          by = λ k e.
              let m : Variable = record { of = t; offset = frame_cells k.frame; control = is_control block x.name } in
              let r = (names_part t cells xs g).by
              (record k {
                names = filled x.name x.at (decl.Var path m) k.names;
                frame = k.frame ++ record { name = x.name; kind = frame_kind.Variable; of = t; offset = frame_cells k.frame; cells = cells } ∷ [];
              }) e in
              (r.0, λ p i. r.1 p (filled_all NamedDecl x.name x.at (decl.Var path m) k.names (g p) i));
        }

    variables_part : (ss : PlainSections) → Sound a (Unit {0}) (variable_part block ss) Any
    variables_part NoSections = give tt (λ p. tt)
    variables_part (Section xs d more) =
        denote_named None d thus λ t. named_typed_if t thus λ s. names_part t (size_of s) xs (λ p. p.0.1) thus λ u. at_any (variables_part more)

    cells_named : {F : Type 0} (p : FormalParameter) (k : FormalKind) → Sound a F (parameter_cells path (record p { formal = record p.formal { kind = k } })) Any
    cells_named p formal.Value = named_typed_if p.formal.of thus λ t. give (size_of t) (λ q. tt)
    cells_named p k = give 1 (λ q. tt)

    all_cells : {F : Type 0} (ps : List FormalParameter) → Sound a F (cells_of_parameters path ps) Any
    all_cells [] = give 0 (λ q. tt)
    all_cells (p ∷ ps) = cells_named p p.formal.kind thus λ n. all_cells ps thus λ m. give (sum_of (n ∷ m ∷ [])) (λ q. tt)

    routine_named : (d : PlainDeclaration) (k : HeadingKind) (earlier later : List PlainDeclaration) (h : Heading) (cells : ℕ) →
        (is_function k && not (is_some (named_result k))) ≡ false → AreNamed h.formals × ResultIs k h.result →
        NamedDecl (routine block (record d { heading = record d.heading { kind = k } }) earlier later h cells)
    routine_named d heading_kind.Procedure earlier later h cells e g = g
    routine_named d (heading_kind.Function None) earlier later h cells e g = true_false e
    routine_named d (heading_kind.Function (Some x)) earlier later h cells e g = g

    define_part : (d : PlainDeclaration) (earlier later : List PlainDeclaration) (h : Heading) →
        Sound a (AreNamed h.formals × ResultIs d.heading.kind h.result) (define_routine block d earlier later h) Any
    define_part d earlier later h =
        first
        thus λ u. change_named (λ k. record k { headings = record { at = d.heading.name.at; heading = h } ∷ k.headings }) (λ k. refl) (λ k. refl)
        thus λ u. all_cells (parameters_in h.formals)
        thus λ cells. fills (name_of d) d.heading.name.at (routine block d earlier later h cells) (λ p. routine_named d d.heading.kind earlier later h cells p.0.0.1 p.0.0.0)
      where
        first : {F : Type 0} →
            Sound a F (by_rule (Rattle.mp_tables.specs.Elaboration.first_heading d)) (λ u. (is_function d.heading.kind && not (is_some (named_result d.heading.kind))) ≡ false)
        first = ruled (weaken (λ x e p. e) (clean_report_if (is_function d.heading.kind && not (is_some (named_result d.heading.kind))) 314 d.heading.name.at))

    sound_if : {F : Type 0} {m n : Elaboration (Unit {0})} (x : Bool) → Sound a F m Any → Sound a F n Any → Sound a F (cond x m n) Any
    sound_if true c d = c
    sound_if false c d = d

    nest_part : {F : Type 0} (d : PlainDeclaration) (earlier : List PlainDeclaration) → Sound a F (change (nest d earlier)) Any
    nest_part d earlier = change_named (nest d earlier) (λ k. errors (is_block d.body) k) (λ k. names (is_block d.body) k)
      where
        errors : (x : Bool) (k : Known) →
            (cond x (record k {
              nested =
                  k.nested ++ record {
                    step = step_of d earlier;
                    heading = headed k.headings (origin d earlier);
                    function = is_function d.heading.kind;
                    semicolon = d.semicolon;
                  } ∷ [];
            }) k).errors ≡ k.errors
        errors true k = refl
        errors false k = refl

        names : (x : Bool) (k : Known) →
            (cond x (record k {
              nested =
                  k.nested ++ record {
                    step = step_of d earlier;
                    heading = headed k.headings (origin d earlier);
                    function = is_function d.heading.kind;
                    semicolon = d.semicolon;
                  } ∷ [];
            }) k).names ≡ k.names
        names true k = refl
        names false k = refl

    routine_part : (d : PlainDeclaration) (earlier later : List PlainDeclaration) (h : Heading) →
        Sound a (AreNamed h.formals × ResultIs d.heading.kind h.result) (if completes d earlier
        then by_rule (completing_heading d) else define_routine block d earlier later h) Any
    routine_part d earlier later h =
        sound_if (completes d earlier) (reported_named (has_formals d.heading.formals || is_some (named_result d.heading.kind)) 313 d.heading.name.at)
        (define_part d earlier later h)

    under : {A F G : Type 0} {P : A → Type 0} {m : Elaboration A} → (F → G) → Sound a G m P → Sound a F m P
    under f c = record { by = λ k e. let r = c.by k e in (r.0, λ p i. r.1 (f p) i) }

    routines_part : (earlier list : List PlainDeclaration) → Sound a (Unit {0}) (routine_declarations block earlier list) Any
    routines_part earlier [] = give tt (λ p. tt)
    routines_part earlier (d ∷ later) =
        heading_named d.heading
        thus λ h. under (λ p. p.1) (routine_part d earlier later h)
        thus λ u. reported_named (not (is_block d.body) && not (list_any (alike d) later)) 312 d.heading.name.at
        thus λ u. nest_part d earlier
        thus λ u. at_any (routines_part (d ∷ earlier) later)

    heading_part : (h : Option ProgramHeading) → Sound a (Unit {0}) (program_heading h) Any
    heading_part None = give tt (λ p. tt)
    heading_part (Some h) = record { by = λ k e. let r = (program_parameters_any a k.names [] h.parameters).by k.errors e in (r.0, λ p i. (i, tt)) }

    -- all that follows the names of the block
    pub definitions_named : Sound a (Unit {0})
        (by_rule (labels [] own.labels) >>
        (each (constant_definition block) own.constants >>
        (each (type_definition block) own.types >>
        (domain_types block >> (variable_part block own.variables >> (routine_declarations block [] own.declarations >> program_heading own.program)))))) Any
    definitions_named =
        any_of (ruled {P = Any} (weaken (λ x p q. tt) (labels_any a [] own.labels)))
        thus λ u. at_any (each_named (constant_definition block) constant_part own.constants)
        thus λ u. at_any (each_named (type_definition block) type_part own.types)
        thus λ u. at_any (each_named (domain_type block (type_part_end own.types)) (domain_part (type_part_end own.types)) (flat_map (λ d. pointers d.of) own.types))
        thus λ u. at_any (variables_part own.variables)
        thus λ u. at_any (routines_part [] own.declarations)
        thus λ u. at_any (heading_part own.program)

-- ---- a block

labels_named : (b : Declaring) (ns : List Number) → AllPoints NamedDecl (map (label_point b) ns)
labels_named b [] = tt
labels_named b (n ∷ ns) = (tt, labels_named b ns)

-- The declarations of a block without errors have their parts, where those of the blocks around it have theirs.
pub block_named :
    (a : Answers) (path : List PathStep) (own : PlainBlock) → ((n : List ℕ) (o : ℕ) → SeenNamed (a.name n (record { path = path; ordinal = o }))) →
    ((elaborate path own).run a).errors ≡ [] →
    AllPoints NamedDecl ((elaborate path own).run a).table.names
block_named a path own asked e =
    let b : Declaring = record { path = path; own = own; heading = a.heading path } in
    let k = after_names a b (name_at path) in
    let first : AllPoints NamedDecl k.names =
    points_all path NamedDecl (λ x. tt) (λ x. tt) own (a.heading path) (labels_named b own.labels) (after_given a b (name_at path)).frame
    (parameters_in (a.heading path).formals) in
    (((definitions_named a path asked own (a.heading path)).by k e).1 tt first).0

pub parts_are_there : PartsAreThere
parts_are_there a path own asked none n e l = found_named n ((elaborate path own).run a).table.names e (block_named a path own asked none) l
