-- The table of a block is the same by the tables of the blocks before it and by all tables of the program: its declarations ask
-- only what the tables of the blocks around it say.
use Rattle.std.proofs.Common.{◌≡◌, ℕ, ◌+◌, Bool, true, false, cond, ◌&&◌, ◌||◌, List, [], ◌∷◌, ◌++◌, Option, Some, None, refl, sym, ap, ◌∙◌, subst, map, append-nil, append_assoc, nat_eq, nat_lt, is_some, eq-eqb}
use Rattle.std.specs.Prelude.{bytes_eq, flat_map, find, option_map, option_and_then, unwrap_or}
use Rattle.std.specs.Map.{lookup}
use Rattle.std.specs.List.{AllByRecursion, IsDistinct, list_any}
use Rattle.std.proofs.lemmas.Slice.Eq.{bytes_eq-Decides}
use Rattle.mp_base.specs.declared.path.PathStep.{PathStep}
use Rattle.mp_ast.specs.declared.leaves.Identifier.{Identifier}
use Rattle.mp_ast.specs.declared.leaves.Number.{Number}
use Rattle.mp_ast.specs.declared.blocks.ProgramHeading.{ProgramHeading}
use Rattle.mp_ast.specs.PlainTypes.{PlainSections, NoSections, Section, PlainDenoter}
use Rattle.mp_ast.specs.PlainTrees.{PlainBlock, PlainDeclaration, PlainTree, PlainTrees, TreeOf, NoTrees, Beside, statements_of_part}
use Rattle.mp_ast.specs.Blocks.{same_step, same_path, PlacedBlock, blocks, blocks_from, blocks_inside, nested_in, tokens_of}
use Rattle.mp_ast.specs.Blocks.{Nested as NestedBlock}
use Rattle.mp_ast.proofs.PathLemmas.{paths_differ}
use Rattle.mp_tables.specs.declared.types.TypeId.{TypeId}
use Rattle.mp_tables.specs.declared.types.TypeId.TheVariants as type
use Rattle.mp_tables.specs.declared.types.Shape.TheVariants as shape
use Rattle.mp_tables.specs.declared.headings.Formal.{Formal}
use Rattle.mp_tables.specs.declared.headings.FormalKind.{FormalKind}
use Rattle.mp_tables.specs.declared.headings.FormalKind.TheVariants as formal
use Rattle.mp_tables.specs.declared.headings.Heading.{Heading}
use Rattle.mp_tables.specs.declared.required.Required.{Required}
use Rattle.mp_tables.specs.declared.required.Required.TheVariants as name
use Rattle.mp_tables.specs.declared.declarations.Decl.{Decl}
use Rattle.mp_tables.specs.declared.declarations.Decl.TheVariants as decl
use Rattle.mp_tables.specs.declared.declarations.Variable.{Variable}
use Rattle.mp_tables.specs.declared.declarations.Parameter.{Parameter}
use Rattle.mp_tables.specs.declared.declarations.Routine.{Routine}
use Rattle.mp_tables.specs.declared.questions.Seen.{Seen}
use Rattle.mp_tables.specs.declared.questions.Seen.TheVariants as see
use Rattle.mp_tables.specs.declared.tables.Entry.{Entry}
use Rattle.mp_tables.specs.declared.tables.Nested.{Nested}
use Rattle.mp_tables.specs.declared.tables.Table.{Table}
use Rattle.mp_tables.specs.declared.typed_statements.FrameKind.{FrameKind}
use Rattle.mp_tables.specs.declared.typed_statements.FrameKind.TheVariants as frame_kind
use Rattle.mp_tables.specs.declared.typed_statements.FrameSlot.{FrameSlot}
use Rattle.mp_tables.specs.Asks.{Asks, Answers, ◌>>=◌ as ◌>>=ᵃ◌}
use Rattle.mp_tables.specs.Reports.{Threads, ◌>>◌, each, report}
use Rattle.mp_tables.specs.RequiredNames.{required_name, standard_file}
use Rattle.mp_tables.specs.Seen.{table_at, seen_entry, here, nested_in as nested_of_table, semicolon_of, declared_or, seen_from, around_program, seen, own_shape, shape_of, or_else, no_heading, nested_at, heading_or_none, heading_of, answers_of}
use Rattle.mp_tables.specs.Growth.{HasTable, AroundFrom, Around, Silent}
use Rattle.mp_tables.specs.StatementWalks.{has_value, standing_of}
use Rattle.mp_tables.specs.DefiningPoints.{Points, Declaring, point, not_read, file_points, program_points, parameter_point, label_point, constant_point, enumerated, enumeration_points, type_points, variable_point, variable_points, routine, routine_points, completes, block_path, name_of, given_points, label_points, declared_points, is_known, with_point, with_points, repeated, is_control, is_function}
use Rattle.mp_tables.specs.Denoters.{Known, by_rule, size_of}
use Rattle.mp_tables.specs.Headings.{FormalParameter, parameters_in, own_heading}
use Rattle.mp_tables.specs.Elaboration.{add_slot, parameter_cells, parameter_type, parameter_slots, result_slot, parameter_points, repeated_names, points, given, names_set, declarations, nothing_known, name_at, elaborated, elaborate, labels, constant_definition, type_definition, domain_types, variable_part, routine_declarations, program_heading}
use Rattle.mp_tables.specs.ProgramErrors.{table_after, tables_from, tables_of, TablesAreStable}
use Rattle.mp_tables.specs.WithinBlocks.{Within, TypeWithin, TypeIfWithin, FormalsWithin, HeadingWithin, DeclWithin, SeenWithin, PointsWithin, AllNestedWithin, TablesWithin}
use Rattle.mp_tables.proofs.CleanLemmas.{none_some, some_none, some_inj, true_false}
use Rattle.mp_tables.proofs.GrowthLemmas.{outer_names_stay, headings_stay}
use Rattle.mp_tables.proofs.SortLemmas.{same_path-eq}
use Rattle.mp_tables.proofs.SameLemmas.{Same, Any, same_pure, ◌next◌, same_report, same_each}
use Rattle.mp_tables.proofs.ElaborationLemmas.{AllPoints, OfBlock, Keeps, typed_here_if_same, definitions_same}

-- ---- the defining points of a block

-- what a declaration of this block says of itself: it has the block's path, and a label is one that the block declares
abbrev pub OwnDecl : List PathStep → PlainBlock → Decl → Type 0
OwnDecl path own (decl.Const q v) = q ≡ path
OwnDecl path own (decl.Sort q t) = q ≡ path
OwnDecl path own (decl.Var q v) = q ≡ path
OwnDecl path own (decl.Param q p) = q ≡ path
OwnDecl path own (decl.Proc q r) = q ≡ path
OwnDecl path own (decl.Func q r offset) = q ≡ path
OwnDecl path own (decl.Label q s) = (q ≡ path) × ((v : ℕ) × (list_any (has_value v) own.labels ≡ true) × (s ≡ standing_of (statements_of_part own.statements) v))
OwnDecl path own (decl.Required r) = Unit {0}

own_of_block : (path : List PathStep) (own : PlainBlock) → OfBlock path (OwnDecl path own)
own_of_block path own = record { constants = λ v. refl; types = λ t. refl; variables = λ v. refl; procedures = λ x. refl; functions = λ x o. refl }

-- D holds of the defining points, before anything is read
module _ (path : List PathStep) (D : Decl → Type 0) (required : (x : Required) → D (decl.Required x)) (parameters : (x : Parameter) → D (decl.Param path x)) where
  points_append : (xs ys : Points) → AllPoints D xs → AllPoints D ys → AllPoints D (xs ++ ys)
  points_append [] ys g h = h
  points_append (x ∷ xs) ys g h = (g.0, points_append xs ys g.1 h)

  points_map : {X : Type 0} (f : X → List ℕ × Entry) → ((x : X) → D (f x).1.decl) → (xs : List X) → AllPoints D (map f xs)
  points_map f g [] = tt
  points_map f g (x ∷ xs) = (g x, points_map f g xs)

  points_flat : {X : Type 0} (f : X → Points) → ((x : X) → AllPoints D (f x)) → (xs : List X) → AllPoints D (flat_map f xs)
  points_flat f g [] = tt
  points_flat f g (x ∷ xs) = points_append (f x) (flat_map f xs) (g x) (points_flat f g xs)

  with_all : (known ps : Points) → AllPoints D known → AllPoints D ps → AllPoints D (with_points known ps)
  with_all known [] g h = g
  with_all known (p ∷ ps) g h = with_all (with_point known p) ps (by (is_known p.0 known)) h.1
    where
      by : (x : Bool) → AllPoints D (cond x known (known ++ (p.0, p.1) ∷ []))
      by true = g
      by false = points_append known ((p.0, p.1) ∷ []) g (h.0, tt)

  file_all : (x : Identifier) (r : Option Required) → AllPoints D (file_points x r)
  file_all x None = tt
  file_all x (Some r) = (required r, (required r, tt))

  program_all : (h : Option ProgramHeading) → AllPoints D (program_points h)
  program_all None = tt
  program_all (Some h) = points_flat (λ x. file_points x (standard_file x.name)) (λ x. file_all x (standard_file x.name)) h.parameters

  parameters_all : (ps : List FormalParameter) (slots : List FrameSlot) → AllPoints D (parameter_points path ps slots)
  parameters_all [] slots = tt
  parameters_all (p ∷ ps) [] = tt
  parameters_all (p ∷ ps) (s ∷ slots) = (parameters (record { kind = p.formal.kind; of = parameter_type p; offset = s.offset; own = p.own }), parameters_all ps slots)

  module _ (own : PlainBlock) (h : Heading) (labelled : AllPoints D (label_points (record { path = path; own = own; heading = h }))) where
    abbrev of_block : Declaring
    of_block = record { path = path; own = own; heading = h }

    enumeration_all : (d : PlainDenoter) → AllPoints D (enumeration_points of_block d)
    enumeration_all d = points_map (λ x. point x.name x.at x.at not_read) (λ x. required name.Real) (enumerated d)

    variables_all : (ss : PlainSections) → AllPoints D (variable_points of_block ss)
    variables_all NoSections = tt
    variables_all (Section xs d more) =
        points_append (map (variable_point of_block) xs ++ enumeration_points of_block d) (variable_points of_block more)
        (points_append (map (variable_point of_block) xs) (enumeration_points of_block d) (points_map (variable_point of_block) (λ x. required name.Real) xs)
        (enumeration_all d)) (variables_all more)

    routines_all : (earlier list : List PlainDeclaration) → AllPoints D (routine_points of_block earlier list)
    routines_all earlier [] = tt
    routines_all earlier (d ∷ later) = points_append _ (routine_points of_block (d ∷ earlier) later) (by (completes d earlier)) (routines_all (d ∷ earlier) later)
      where
        by : (x : Bool) → AllPoints D (cond x [] (point (name_of d) d.heading.name.at d.heading.name.at not_read ∷ []))
        by true = tt
        by false = (required name.Real, tt)

    declared_all : AllPoints D (declared_points of_block)
    declared_all =
        let cs = map (constant_point of_block) own.constants in
        let ts = flat_map (type_points of_block) own.types in
        points_append (cs ++ ts ++ variable_points of_block own.variables) (routine_points of_block [] own.declarations)
        (points_append (cs ++ ts) (variable_points of_block own.variables)
        (points_append cs ts (points_map (constant_point of_block) (λ x. required name.Real) own.constants)
        (points_flat (type_points of_block) (λ d. (required name.Real, enumeration_all d.of)) own.types))
        (variables_all own.variables))
        (routines_all [] own.declarations)

    pub points_all : (slots : List FrameSlot) (ps : List FormalParameter) → AllPoints D (points of_block (parameter_points path ps slots))
    points_all slots ps =
        with_all (with_points [] (given_points of_block (parameter_points path ps slots))) (label_points of_block ++ declared_points of_block)
        (with_all [] (given_points of_block (parameter_points path ps slots)) tt
        (points_append (program_points own.program) (parameter_points path ps slots) (program_all own.program) (parameters_all ps slots)))
        (points_append (label_points of_block) (declared_points of_block) labelled declared_all)

-- the labels of a block are declared in it
labels_own : (path : List PathStep) (own : PlainBlock) (h : Heading) (ns : List Number) →
    ((v : ℕ) → list_any (has_value v) ns ≡ true → list_any (has_value v) own.labels ≡ true) →
    AllPoints (OwnDecl path own) (map (label_point (record { path = path; own = own; heading = h })) ns)
labels_own path own h [] f = tt
labels_own path own h (n ∷ ns) f = (
  (refl, (n.value, f n.value (ap (λ x. x || list_any (has_value n.value) ns) (eq-eqb n.value n.value refl)), refl)),
  labels_own path own h ns (λ v e. f v (or_true (has_value v n) e)),
)
  where
    or_true : (x : Bool) {y : Bool} → y ≡ true → (x || y) ≡ true
    or_true true e = refl
    or_true false e = e

labels_within : (path q : List PathStep) (own : PlainBlock) (h : Heading) (ns : List Number) →
    AllPoints (DeclWithin q) (map (label_point (record { path = path; own = own; heading = h })) ns)
labels_within path q own h [] = tt
labels_within path q own h (n ∷ ns) = (tt, labels_within path q own h ns)

-- ---- the parameters, before the names of the block are known

pub record Empty (k : Known) : Type 0 where
  pub names : k.names ≡ []
  pub headings : k.headings ≡ []
  pub nested : k.nested ≡ []

module _ (a b : Answers) (path : List PathStep) (shapes : (p : List PathStep) (at : ℕ) → Within p path → same_path p path ≡ false →
    b.shape (type.Own p at) ≡ a.shape (type.Own p at)) where
  slot_same : (n : List ℕ) (kind : FrameKind) (id : Option TypeId) (cells : ℕ) → Same a b Empty (add_slot n kind id cells) Any
  slot_same n kind id cells = record { by = λ k i. (refl, record { names = i.names; headings = i.headings; nested = i.nested }, tt) }

  cells_same : (p : FormalParameter) (k : FormalKind) → TypeIfWithin path p.formal.of →
      Same a b Empty (parameter_cells path (record p { formal = record p.formal { kind = k } })) Any
  cells_same p formal.Value g = typed_here_if_same a b path shapes p.formal.of g next λ t q. same_pure (size_of t) tt
  cells_same p k g = same_pure 1 tt

  slots_same : (fs : List Formal) → FormalsWithin path fs → Same a b Empty (parameter_slots path (parameters_in fs)) Any
  slots_same [] g = same_pure tt tt
  slots_same (f ∷ fs) g = by (nat_eq f.depth 0) (slots_same fs g.1)
    where
      by : (x : Bool) → Same a b Empty (parameter_slots path (parameters_in fs)) Any →
          Same a b Empty (parameter_slots path (cond x (record { formal = f; own = own_heading f fs } ∷ parameters_in fs) (parameters_in fs))) Any
      by true c =
          cells_same (record { formal = f; own = own_heading f fs }) f.kind g.0
          next λ n p. slot_same f.name (frame_kind.Parameter f.kind) (parameter_type (record { formal = f; own = own_heading f fs })) n
          next λ u p. c
      by false c = c

  result_slot_same : (n : List ℕ) (id : Option TypeId) → Same a b Empty (result_slot n id) Any
  result_slot_same n None = same_pure tt tt
  result_slot_same n (Some id) = slot_same n frame_kind.Result (Some id) 1

  repeated_same : (xs : List ℕ) → Same a b Any (repeated_names xs) Any
  repeated_same xs = same_each (report 304) (λ x. same_report 304 x tt) xs

  module _ (own : PlainBlock) (h : Heading) (within : HeadingWithin path h) where
    abbrev block : Declaring
    block = record { path = path; own = own; heading = h }

    given_same : (n : List ℕ) → Same a b Empty (given block n) Any
    given_same n = slots_same h.formals within.0 next λ u p. result_slot_same n h.result

    empty_known : Empty nothing_known
    empty_known = record { names = refl; headings = refl; nested = refl }

    -- what the parameters come to
    abbrev after_given : List ℕ → Known
    after_given n = ((given block n nothing_known).run a).1

    -- the names of the block
    abbrev own_points : List ℕ → Points
    own_points n = points block (parameter_points path (parameters_in h.formals) (after_given n).frame)

    module _ (n : List ℕ)
        (names : (m : List ℕ) (o : ℕ) → lookup (bytes_eq m) (own_points n) ≡ None →
        b.name m (record { path = path; ordinal = o }) ≡ a.name m (record { path = path; ordinal = o }))
        (seen : (m : List ℕ) (o : ℕ) → SeenWithin path (a.name m (record { path = path; ordinal = o }))) where
      names_known : (k : Known) → Empty k → k.frame ≡ (after_given n).frame → ((names_set block k).run b ≡ (names_set block k).run a)
          × Keeps path (own_points n) (OwnDecl path own) ((names_set block k).run a).1
      names_known k i f =
          let errors =
          repeated (with_points [] (Rattle.mp_tables.specs.DefiningPoints.given_points block (parameter_points path (parameters_in h.formals) k.frame)))
          (declared_points block) in
          let r = (repeated_same errors).by k.errors tt in
          let same_points : points block (parameter_points path (parameters_in h.formals) k.frame) ≡ own_points n =
          ap (λ fr. points block (parameter_points path (parameters_in h.formals) fr)) f in (
            ap (λ p. (tt, record k { errors = p.1; names = points block (parameter_points path (parameters_in h.formals) k.frame) })) r.0,
            record {
              keys = λ m. ap (λ ps. is_some (lookup (bytes_eq m) ps)) same_points;
              points = points_all path (DeclWithin path) (λ v. tt) (λ v. tt) own h (labels_within path path own h own.labels) k.frame (parameters_in h.formals);
              own = points_all path (OwnDecl path own) (λ v. tt) (λ v. refl) own h (labels_own path own h own.labels (λ v e. e)) k.frame (parameters_in h.formals);
              headings = subst (λ y. Rattle.mp_tables.proofs.ElaborationLemmas.AllHeadedWithin path y) (sym i.headings) tt;
              nested = subst (λ y. AllNestedWithin path y) (sym i.nested) tt;
            },
          )

      abbrev Declares : Type 0
      Declares = ((declarations block n nothing_known).run b ≡ (declarations block n nothing_known).run a)
          × Keeps path (own_points n) (OwnDecl path own) ((declarations block n nothing_known).run a).1

      declarations_same : Declares
      declarations_same =
          let g = (given_same n).by nothing_known empty_known in
          let s = names_known (after_given n) g.1 refl in
          let d = (definitions_same a b path shapes (own_points n) names seen (OwnDecl path own) (own_of_block path own) own h).by
          ((names_set block (after_given n)).run a).1 s.1 in
          (ap (λ p. ((names_set block p.1 >>=ᵗ rest).run b)) g.0 ∙ ap (λ p. (rest p.1).run b) s.0 ∙ d.0, d.1)
        where
          rest : Threads Known (Unit {0})
          rest = by_rule (labels [] own.labels) >>
              (each (constant_definition block) own.constants >>
              (each (type_definition block) own.types >>
              (domain_types block >> (variable_part block own.variables >> (routine_declarations block [] own.declarations >> program_heading own.program)))))

          infixl 10 ◌>>=ᵗ◌
          ◌>>=ᵗ◌ : Asks ((Unit {0}) × Known) → Threads Known (Unit {0}) → Asks ((Unit {0}) × Known)
          m >>=ᵗ t = m >>=ᵃ (λ p. t p.1)

-- ---- paths

same_path_refl : (p : List PathStep) → same_path p p ≡ true
same_path_refl [] = refl
same_path_refl (s ∷ p) =
    ap (λ x. (x && nat_eq s.nth s.nth) && same_path p p) ((bytes_eq-Decides s.name s.name).1 refl) ∙ ap (λ x. x && same_path p p) (eq-eqb s.nth s.nth refl) ∙ same_path_refl p

within_trans : (p q path : List PathStep) → Within p q → Within q path → Within p path
within_trans p q path g h = (g.0 ++ h.0, h.1 ∙ ap (λ x. x ++ h.0) g.1 ∙ append_assoc p g.0 h.0)

type_wider : (q path : List PathStep) → Within q path → (t : TypeId) → TypeWithin q t → TypeWithin path t
type_wider q path w (type.Own p at) g = within_trans p q path g w
type_wider q path w t g = tt

type_if_wider : (q path : List PathStep) → Within q path → (t : Option TypeId) → TypeIfWithin q t → TypeIfWithin path t
type_if_wider q path w None g = tt
type_if_wider q path w (Some t) g = type_wider q path w t g

decl_wider : (q path : List PathStep) → Within q path → (d : Decl) → DeclWithin q d → DeclWithin path d
decl_wider q path w (decl.Sort r t) g = type_if_wider q path w t g
decl_wider q path w d g = tt

formals_wider : (q path : List PathStep) → Within q path → (fs : List Formal) → FormalsWithin q fs → FormalsWithin path fs
formals_wider q path w [] g = tt
formals_wider q path w (f ∷ fs) g = (type_if_wider q path w f.of g.0, formals_wider q path w fs g.1)

heading_wider : (q path : List PathStep) → Within q path → (h : Heading) → HeadingWithin q h → HeadingWithin path h
heading_wider q path w h g = (formals_wider q path w h.formals g.0, type_if_wider q path w h.result g.1)

-- the blocks around a block have tables
around_has : (tables : List Table) (before q : List PathStep) (s : PathStep) (r : List PathStep) → AroundFrom tables before (q ++ s ∷ r) → HasTable tables (before ++ q)
around_has tables before [] s r g = subst (HasTable tables) (sym (append-nil before)) g.0
around_has tables before (x ∷ q) s r g = subst (HasTable tables) (append_assoc before (x ∷ []) q) (around_has tables (before ++ x ∷ []) q s r g.1)

-- ---- what tables say

found_test : {X : Type 0} (test : X → Bool) (xs : List X) (x : X) → find test xs ≡ Some x → test x ≡ true
found_test test [] x e = none_some e
found_test test (y ∷ xs) x e = by (test y) refl e (found_test test xs x)
  where
    by : (t : Bool) → test y ≡ t → cond t (Some y) (find test xs) ≡ Some x → (find test xs ≡ Some x → test x ≡ true) → test x ≡ true
    by true p q f = subst (λ z. test z ≡ true) (some_inj q) p
    by false p q f = f q

table_within : (tables : List Table) (path : List PathStep) (t : Table) → TablesWithin tables → table_at tables path ≡ Some t → PointsWithin path t.names
    × AllNestedWithin path t.nested
table_within tables path t g e =
    subst (λ p. PointsWithin p t.names × AllNestedWithin p t.nested) (sym (same_path-eq path t.path (found_test (λ x. same_path path x.path) tables t e))) (all tables g e)
  where
    all : (ts : List Table) → TablesWithin ts → find (λ x. same_path path x.path) ts ≡ Some t → PointsWithin t.path t.names × AllNestedWithin t.path t.nested
    all [] g e = none_some e
    all (x ∷ ts) g e = by (same_path path x.path) e (all ts g.1)
      where
        by : (y : Bool) → cond y (Some x) (find (λ z. same_path path z.path) ts) ≡ Some t →
            (find (λ z. same_path path z.path) ts ≡ Some t → PointsWithin t.path t.names × AllNestedWithin t.path t.nested) → PointsWithin t.path t.names
            × AllNestedWithin t.path t.nested
        by true q f = subst (λ z. PointsWithin z.path z.names × AllNestedWithin z.path z.nested) (some_inj q) g.0
        by false q f = f q

module _ (tables : List Table) (inside : TablesWithin tables) where
  lookup_within : (path : List PathStep) (n : List ℕ) (ps : Points) (e : Entry) → PointsWithin path ps → lookup (bytes_eq n) ps ≡ Some e → DeclWithin path e.decl
  lookup_within path n [] e g h = none_some h
  lookup_within path n (p ∷ ps) e g h = by (bytes_eq n p.0) h (lookup_within path n ps e g.1)
    where
      by : (x : Bool) → cond x (Some p.1) (lookup (bytes_eq n) ps) ≡ Some e → (lookup (bytes_eq n) ps ≡ Some e → DeclWithin path e.decl) → DeclWithin path e.decl
      by true q f = subst (λ y. DeclWithin path y.decl) (some_inj q) g.0
      by false q f = f q

  here_within : (path whole : List PathStep) (at : ℕ) (n : List ℕ) (outer : Seen) → Within path whole → SeenWithin whole outer →
      SeenWithin whole (declared_or outer (here tables path at n))
  here_within path whole at n outer w g = by (table_at tables path) refl
    where
      seen_by : (e : Entry) (x : Bool) → DeclWithin whole e.decl → SeenWithin whole (cond x (see.Is e.decl) see.NotYet)
      seen_by e true h = h
      seen_by e false h = tt

      entry : (t : Table) (o : Option Entry) → table_at tables path ≡ Some t → lookup (bytes_eq n) t.names ≡ o →
          SeenWithin whole (declared_or outer (option_map (seen_entry at) o))
      entry t None p e = g
      entry t (Some x) p e = seen_by x (nat_lt x.last at) (decl_wider path whole w x.decl (lookup_within path n t.names x (table_within tables path t inside p).0 e))

      by : (t : Option Table) → table_at tables path ≡ t → SeenWithin whole (declared_or outer (option_map (seen_entry at) (option_and_then (λ y. lookup (bytes_eq n) y.names) t)))
      by None p = g
      by (Some t) p = entry t (lookup (bytes_eq n) t.names) p refl

  from_within : (outer : Seen) (path inward whole : List PathStep) (at : ℕ) (n : List ℕ) → whole ≡ path ++ inward → SeenWithin whole outer →
      SeenWithin whole (seen_from tables outer path inward at n)
  from_within outer path [] whole at n e g = here_within path whole at n outer ([], e) g
  from_within outer path (s ∷ inward) whole at n e g =
      from_within (declared_or outer (here tables path (semicolon_of (nested_of_table tables path s)) n)) (path ++ s ∷ []) inward whole at n (e
      ∙ sym (append_assoc path (s ∷ []) inward))
      (here_within path whole (semicolon_of (nested_of_table tables path s)) n outer (s ∷ inward, e) g)

  around_within : (path : List PathStep) (r : Option Required) → SeenWithin path (around_program r)
  around_within path None = tt
  around_within path (Some r) = tt

  pub seen_within : (path : List PathStep) (n : List ℕ) (o : ℕ) → SeenWithin path (seen tables n (record { path = path; ordinal = o }))
  seen_within path n o = from_within (around_program (required_name n)) [] path path o n refl (around_within path (required_name n))

  -- the heading that the enclosing block has
  nested_found : (path : List PathStep) (xs : List Nested) (s : PathStep) (x : Nested) → AllNestedWithin path xs → find (λ y. same_step s y.step) xs ≡ Some x →
      HeadingWithin path x.heading
  nested_found path [] s x g e = none_some e
  nested_found path (y ∷ xs) s x g e = by (same_step s y.step) e (nested_found path xs s x g.1)
    where
      by : (t : Bool) → cond t (Some y) (find (λ z. same_step s z.step) xs) ≡ Some x → (find (λ z. same_step s z.step) xs ≡ Some x → HeadingWithin path x.heading) →
          HeadingWithin path x.heading
      by true q f = subst (λ z. HeadingWithin path z.heading) (some_inj q) g.0
      by false q f = f q

  nested_in_within : (path whole : List PathStep) (s : PathStep) → Within path whole → HeadingWithin whole (heading_or_none (nested_of_table tables path s))
  nested_in_within path whole s w = by (table_at tables path) refl
    where
      entry : (t : Table) (o : Option Nested) → table_at tables path ≡ Some t → find (λ y. same_step s y.step) t.nested ≡ o → HeadingWithin whole (heading_or_none o)
      entry t None p e = (tt, tt)
      entry t (Some x) p e = heading_wider path whole w x.heading (nested_found path t.nested s x (table_within tables path t inside p).1 e)

      by : (t : Option Table) → table_at tables path ≡ t → HeadingWithin whole (heading_or_none (option_and_then (λ y. find (λ z. same_step s z.step) y.nested) t))
      by None p = (tt, tt)
      by (Some t) p = entry t (find (λ y. same_step s y.step) t.nested) p refl

  nested_at_within : (path inward whole : List PathStep) → whole ≡ path ++ inward → HeadingWithin whole (heading_or_none (nested_at tables path inward))
  nested_at_within path [] whole e = (tt, tt)
  nested_at_within path (s ∷ []) whole e = nested_in_within path whole s (s ∷ [], e)
  nested_at_within path (s ∷ t ∷ inward) whole e = nested_at_within (path ++ s ∷ []) (t ∷ inward) whole (e ∙ sym (append_assoc path (s ∷ []) (t ∷ inward)))

  pub heading_within : (path : List PathStep) → HeadingWithin path (heading_of tables path)
  heading_within path = nested_at_within [] path path refl

-- ---- one block

-- the table of the block with this path is the first one
table_here : (tables : List Table) (t : Table) (more : List Table) → table_at tables t.path ≡ None → table_at (tables ++ t ∷ more) t.path ≡ Some t
table_here [] t more e = ap (λ x. cond x (Some t) (find (λ y. same_path t.path y.path) more)) (same_path_refl t.path)
table_here (x ∷ tables) t more e = by (same_path t.path x.path) e (table_here tables t more)
  where
    by : (y : Bool) → cond y (Some x) (table_at tables t.path) ≡ None → (table_at tables t.path ≡ None → table_at (tables ++ t ∷ more) t.path ≡ Some t) →
        cond y (Some x) (table_at (tables ++ t ∷ more) t.path) ≡ Some t
    by true q f = some_none q
    by false q f = f q

table_same : (tables more : List Table) (path : List PathStep) → HasTable tables path → table_at (tables ++ more) path ≡ table_at tables path
table_same tables more path h = front tables h.1 ∙ sym h.1
  where
    front : (ts : List Table) → table_at ts path ≡ Some h.0 → table_at (ts ++ more) path ≡ Some h.0
    front [] e = none_some e
    front (x ∷ ts) e = by (same_path path x.path) e (front ts)
      where
        by : (y : Bool) → cond y (Some x) (table_at ts path) ≡ Some h.0 → (table_at ts path ≡ Some h.0 → table_at (ts ++ more) path ≡ Some h.0) →
            cond y (Some x) (table_at (ts ++ more) path) ≡ Some h.0
        by true q f = q
        by false q f = f q

shape_same : (tables more : List Table) (path p : List PathStep) (at : ℕ) → Around tables path → Within p path → same_path p path ≡ false →
    (answers_of (tables ++ more)).shape (type.Own p at) ≡ (answers_of tables).shape (type.Own p at)
shape_same tables more path p at around w e = by w.0 w.1
  where
    by : (r : List PathStep) → path ≡ p ++ r → (answers_of (tables ++ more)).shape (type.Own p at) ≡ (answers_of tables).shape (type.Own p at)
    by [] q = true_false (sym (same_path_refl p) ∙ ap (same_path p) (sym (append-nil p)) ∙ ap (same_path p) (sym q) ∙ e)
    by (s ∷ r) q =
        ap (λ t. unwrap_or (or_else None (option_and_then (λ x. Rattle.mp_tables.specs.Seen.shape_in x.shapes at) t)) (shape.Ptr None))
        (table_same tables more p (around_has tables [] p s r (subst (AroundFrom tables []) q around)))

module _ (tables : List Table) (inside : TablesWithin tables) (path : List PathStep) (own : PlainBlock) (around : Around tables path) (free : table_at tables path ≡ None) where
  abbrev here_answers : Answers
  here_answers = answers_of tables

  abbrev own_table : Table
  own_table = ((elaborate path own).run here_answers).table

  abbrev own_heading_here : Heading
  own_heading_here = heading_of tables path

  no_change : (p : List PathStep) (at : ℕ) → Within p path → same_path p path ≡ false → here_answers.shape (type.Own p at) ≡ here_answers.shape (type.Own p at)
  no_change p at w e = refl

  abbrev names_here : Points
  names_here = own_points here_answers here_answers path no_change own own_heading_here (heading_within tables inside path) (name_at path)

  -- by the tables before the block
  kept_here : Declares here_answers here_answers path no_change own own_heading_here (heading_within tables inside path) (name_at path) (λ m o e. refl)
      (seen_within tables inside path)
  kept_here =
      declarations_same here_answers here_answers path no_change own own_heading_here (heading_within tables inside path) (name_at path) (λ m o e. refl)
      (seen_within tables inside path)

  pub own_within : PointsWithin own_table.path own_table.names × AllNestedWithin own_table.path own_table.nested
  own_within = (kept_here.1.points, kept_here.1.nested)

  pub own_declared : AllPoints (OwnDecl path own) own_table.names
  own_declared = kept_here.1.own

  silent_by : {A B : Type 0} (x : Option A) (y : Option B) → is_some x ≡ is_some y → y ≡ None → x ≡ None
  silent_by None y e f = refl
  silent_by (Some z) y e f = true_false (e ∙ ap is_some f)

  module _ (more : List Table) where
    abbrev later_answers : Answers
    later_answers = answers_of (tables ++ own_table ∷ more)

    names_agree : (m : List ℕ) (o : ℕ) → lookup (bytes_eq m) names_here ≡ None →
        later_answers.name m (record { path = path; ordinal = o }) ≡ here_answers.name m (record { path = path; ordinal = o })
    names_agree m o e =
        outer_names_stay tables (own_table ∷ more) m (record { path = path; ordinal = o }) around free
        (subst (Silent m) (sym (table_here tables own_table more free)) (silent_by (lookup (bytes_eq m) own_table.names) (lookup (bytes_eq m) names_here) (kept_here.1.keys m) e))

    later_same : (p : List PathStep) (at : ℕ) → Within p path → same_path p path ≡ false → later_answers.shape (type.Own p at) ≡ here_answers.shape (type.Own p at)
    later_same p at w e = shape_same tables (own_table ∷ more) path p at around w e

    declared_later :
        ((declarations (record { path = path; own = own; heading = own_heading_here }) (name_at path) nothing_known).run later_answers ≡
        (declarations (record { path = path; own = own; heading = own_heading_here }) (name_at path) nothing_known).run here_answers)
    declared_later =
        (declarations_same here_answers later_answers path later_same own own_heading_here (heading_within tables inside path) (name_at path) names_agree
        (seen_within tables inside path)).0

    pub elaborated_later : (elaborate path own).run later_answers ≡ (elaborate path own).run here_answers
    elaborated_later =
        ap (λ h. elaborated path own ((declarations (record { path = path; own = own; heading = h }) (name_at path) nothing_known).run later_answers).1)
        (headings_stay tables (own_table ∷ more) path around)
        ∙ ap (λ p. elaborated path own p.1) declared_later

-- ---- all blocks

-- The tables that blocks add stand behind those before them.
extends : (tables : List Table) (bs : List PlacedBlock) → (more : List Table) × (tables_from tables bs ≡ tables ++ more)
extends tables [] = ([], sym (append-nil tables))
extends tables (b ∷ bs) = let e = extends (tables ++ table_after tables b ∷ []) bs in (table_after tables b ∷ e.0, e.1 ∙ append_assoc tables (table_after tables b ∷ []) e.0)

within_append : (tables : List Table) (t : Table) → TablesWithin tables → PointsWithin t.path t.names × AllNestedWithin t.path t.nested → TablesWithin (tables ++ t ∷ [])
within_append [] t g h = (h, tt)
within_append (x ∷ tables) t g h = (g.0, within_append tables t g.1 h)

-- each block comes behind those around it
abbrev AroundAll : List Table → List PlacedBlock → Type 0
AroundAll tables [] = Unit {0}
AroundAll tables (b ∷ bs) = Around tables b.path × AroundAll (tables ++ table_after tables b ∷ []) bs

-- and before any other with its path
abbrev FreeAll : List Table → List PlacedBlock → Type 0
FreeAll tables [] = Unit {0}
FreeAll tables (b ∷ bs) = (table_at tables b.path ≡ None) × FreeAll (tables ++ table_after tables b ∷ []) bs

stable_from : (whole tables : List Table) (bs : List PlacedBlock) → whole ≡ tables_from tables bs → TablesWithin tables → AroundAll tables bs → FreeAll tables bs →
    AllByRecursion (λ b. table_at whole b.path ≡ Some (table_after whole b)) bs
stable_from whole tables [] e g a f = tt
stable_from whole tables (b ∷ bs) e g a f =
    let t : Table = table_after tables b in
    let x = extends (tables ++ t ∷ []) bs in
    let same_tables : whole ≡ tables ++ t ∷ x.0 = e ∙ x.1 ∙ append_assoc tables (t ∷ []) x.0 in
    let at : table_at (tables ++ t ∷ x.0) b.path ≡ Some t = table_here tables t x.0 f.0 in
    let table : table_after (tables ++ t ∷ x.0) b ≡ t = ap (λ y. y.table) (elaborated_later tables g b.path b.own a.0 f.0 x.0) in (
      subst (λ y. table_at y b.path ≡ Some (table_after y b)) (sym same_tables) (at ∙ ap Some (sym table)),
      stable_from whole (tables ++ t ∷ []) bs e (within_append tables t g (own_within tables g b.path b.own a.0 f.0)) a.1 f.1,
    )

-- ---- paths of blocks differ

same_path_swap : (p q : List PathStep) → same_path p q ≡ false → same_path q p ≡ false
same_path_swap p q e = by (same_path q p) refl
  where
    by : (x : Bool) → same_path q p ≡ x → x ≡ false
    by true h = true_false (sym (same_path_refl p) ∙ ap (same_path p) (sym (same_path-eq q p h)) ∙ e)
    by false h = refl

free_append : (tables : List Table) (t : Table) (path : List PathStep) → table_at tables path ≡ None → same_path path t.path ≡ false → table_at (tables ++ t ∷ []) path ≡ None
free_append [] t path e f = ap (λ x. cond x (Some t) None) f
free_append (x ∷ tables) t path e f = by (same_path path x.path) e (free_append tables t path)
  where
    by : (y : Bool) → cond y (Some x) (table_at tables path) ≡ None → (table_at tables path ≡ None → same_path path t.path ≡ false → table_at (tables ++ t ∷ []) path ≡ None) →
        cond y (Some x) (table_at (tables ++ t ∷ []) path) ≡ None
    by true q g = some_none q
    by false q g = g q f

all_free : (tables : List Table) (t : Table) (bs : List PlacedBlock) → AllByRecursion (λ c. table_at tables c.path ≡ None) bs →
    AllByRecursion (λ c. same_path t.path c.path ≡ false) bs → AllByRecursion (λ c. table_at (tables ++ t ∷ []) c.path ≡ None) bs
all_free tables t [] g h = tt
all_free tables t (c ∷ bs) g h = (free_append tables t c.path g.0 (same_path_swap t.path c.path h.0), all_free tables t bs g.1 h.1)

free_from : (tables : List Table) (bs : List PlacedBlock) → AllByRecursion (λ c. table_at tables c.path ≡ None) bs → IsDistinct (λ x y. same_path x.path y.path) bs →
    FreeAll tables bs
unfolding IsDistinct
free_from tables [] g d = tt
free_from tables (b ∷ bs) g d = (g.0, free_from (tables ++ table_after tables b ∷ []) bs (all_free tables (table_after tables b) bs g.1 d.0) d.1)

none_yet : (bs : List PlacedBlock) → AllByRecursion (λ c. table_at [] c.path ≡ None) bs
none_yet [] = tt
none_yet (b ∷ bs) = (refl, none_yet bs)

-- ---- blocks come behind those around them

has_more : (tables more : List Table) (path : List PathStep) → HasTable tables path → HasTable (tables ++ more) path
has_more tables more path h = (h.0, table_same tables more path h ∙ h.1)

around_more : (tables more : List Table) (before inward : List PathStep) → AroundFrom tables before inward → AroundFrom (tables ++ more) before inward
around_more tables more before [] g = tt
around_more tables more before (s ∷ inward) g = (has_more tables more before g.0, around_more tables more (before ++ s ∷ []) inward g.1)

has_last : (tables : List Table) (t : Table) → HasTable (tables ++ t ∷ []) t.path
has_last tables t = by (table_at tables t.path) refl
  where
    by : (o : Option Table) → table_at tables t.path ≡ o → HasTable (tables ++ t ∷ []) t.path
    by None e = (t, table_here tables t [] e)
    by (Some x) e = has_more tables (t ∷ []) t.path (x, e)

around_step : (tables : List Table) (before inward : List PathStep) (s : PathStep) → AroundFrom tables before inward → HasTable tables (before ++ inward) →
    AroundFrom tables before (inward ++ s ∷ [])
around_step tables before [] s g h = (subst (HasTable tables) (append-nil before) h, tt)
around_step tables before (x ∷ inward) s g h = (g.0, around_step tables (before ++ x ∷ []) inward s g.1 (subst (HasTable tables) (sym (append_assoc before (x ∷ []) inward)) h))

around_all_append : (tables : List Table) (xs ys : List PlacedBlock) → AroundAll tables xs → AroundAll (tables_from tables xs) ys → AroundAll tables (xs ++ ys)
around_all_append tables [] ys g h = h
around_all_append tables (x ∷ xs) ys g h = (g.0, around_all_append (tables ++ table_after tables x ∷ []) xs ys g.1 h)

mutual
  around_from : (path : List PathStep) (start : ℕ) (tree : PlainTree) (tables : List Table) → Around tables path → AroundAll tables (blocks_from path start tree)
  around_from path start (TreeOf own inside) tables g =
      let b : PlacedBlock = record { path = path; start = start; own = own; inside = inside } in
      let t : Table = table_after tables b in
      (g, around_inside path start (nested_in own) inside (tables ++ t ∷ []) (around_more tables (t ∷ []) [] path g) (has_last tables t))

  around_inside : (path : List PathStep) (start : ℕ) (nested : List NestedBlock) (trees : PlainTrees) (tables : List Table) → Around tables path → HasTable tables path →
      AroundAll tables (blocks_inside path start nested trees)
  around_inside path start nested NoTrees tables g h = tt
  around_inside path start [] (Beside tree more) tables g h = tt
  around_inside path start (n ∷ nested) (Beside tree more) tables g h =
      let bs = blocks_from (path ++ n.step ∷ []) (start + n.semicolon + 1) tree in
      let e = extends tables bs in
      around_all_append tables bs (blocks_inside path (start + tokens_of tree) nested more)
      (around_from (path ++ n.step ∷ []) (start + n.semicolon + 1) tree tables (around_step tables [] path n.step g h))
      (subst (λ y. AroundAll y (blocks_inside path (start + tokens_of tree) nested more)) (sym e.1)
      (around_inside path (start + tokens_of tree) nested more (tables ++ e.0) (around_more tables e.0 [] path g) (has_more tables e.0 path h)))

pub tables_are_stable : (program : PlainTree) → TablesAreStable program
tables_are_stable program =
    stable_from (tables_of program) [] (blocks program) refl tt (around_from [] 0 program [] tt) (free_from [] (blocks program) (none_yet (blocks program)) (paths_differ program))

-- ---- what holds of each table

-- where R holds of each block, Q holds of each table
all_tables :
    (Q : Table → Type 0) (R : PlacedBlock → Type 0) → ((b : PlacedBlock) (t : Table) → R b → t.path ≡ b.path → AllPoints (OwnDecl b.path b.own) t.names → Q t) →
    (tables : List Table) (bs : List PlacedBlock) → AllByRecursion Q tables → AllByRecursion R bs → TablesWithin tables → AroundAll tables bs → FreeAll tables bs →
    AllByRecursion Q (tables_from tables bs)
all_tables Q R f tables [] q r g a h = q
all_tables Q R f tables (b ∷ bs) q r g a h =
    all_tables Q R f (tables ++ table_after tables b ∷ []) bs
    (append tables q (f b (table_after tables b) r.0 refl (own_declared tables g b.path b.own a.0 h.0)))
    r.1 (within_append tables (table_after tables b) g (own_within tables g b.path b.own a.0 h.0)) a.1 h.1
  where
    append : (ts : List Table) → AllByRecursion Q ts → Q (table_after tables b) → AllByRecursion Q (ts ++ table_after tables b ∷ [])
    append [] q h = (h, tt)
    append (t ∷ ts) q h = (q.0, append ts q.1 h)

pub each_table :
    (program : PlainTree) (Q : Table → Type 0) (R : PlacedBlock → Type 0) →
    ((b : PlacedBlock) (t : Table) → R b → t.path ≡ b.path → AllPoints (OwnDecl b.path b.own) t.names → Q t) →
    AllByRecursion R (blocks program) → AllByRecursion Q (tables_of program)
each_table program Q R f r =
    all_tables Q R f [] (blocks program) tt r tt (around_from [] 0 program [] tt) (free_from [] (blocks program) (none_yet (blocks program)) (paths_differ program))

-- what holds of each declaration of each table holds of the one that is found
pub found_in : (D : List PathStep → Decl → Type 0) (tables : List Table) (path : List PathStep) (t : Table) (n : List ℕ) (e : Entry) →
    AllByRecursion (λ x. AllPoints (D x.path) x.names) tables → table_at tables path ≡ Some t → lookup (bytes_eq n) t.names ≡ Some e → D path e.decl
found_in D tables path t n e g p q =
    subst (λ y. D y e.decl) (sym (same_path-eq path t.path (found_test (λ x. same_path path x.path) tables t p))) (entry t.names (table tables g p) q)
  where
    table : (ts : List Table) → AllByRecursion (λ x. AllPoints (D x.path) x.names) ts → find (λ x. same_path path x.path) ts ≡ Some t → AllPoints (D t.path) t.names
    table [] g p = none_some p
    table (x ∷ ts) g p = by (same_path path x.path) p (table ts g.1)
      where
        by : (y : Bool) → cond y (Some x) (find (λ z. same_path path z.path) ts) ≡ Some t → (find (λ z. same_path path z.path) ts ≡ Some t → AllPoints (D t.path) t.names) →
            AllPoints (D t.path) t.names
        by true k f = subst (λ z. AllPoints (D z.path) z.names) (some_inj k) g.0
        by false k f = f k

    entry : (ps : Points) → AllPoints (D t.path) ps → lookup (bytes_eq n) ps ≡ Some e → D t.path e.decl
    entry [] g q = none_some q
    entry (x ∷ ps) g q = by (bytes_eq n x.0) q (entry ps g.1)
      where
        by : (y : Bool) → cond y (Some x.1) (lookup (bytes_eq n) ps) ≡ Some e → (lookup (bytes_eq n) ps ≡ Some e → D t.path e.decl) → D t.path e.decl
        by true k f = subst (λ z. D t.path z.decl) (some_inj k) g.0
        by false k f = f k
