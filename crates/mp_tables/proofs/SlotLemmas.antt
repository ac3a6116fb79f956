-- Slots of variables, parameters and results in a frame that grows, and which names declare them.
use Rattle.std.proofs.Common.{◌≡◌, ℕ, ◌+◌, suc, Bool, true, false, cond, not, ◌&&◌, ◌||◌, List, [], ◌∷◌, ◌++◌, Option, Some, None, refl, sym, ap, inl, inr, ◌∙◌, subst, map, slice_get, append-nil, append_assoc, eq-eqb, arith}
use Rattle.std.specs.Prelude.{◌⊎◌, bytes_eq, flat_map}
use Rattle.std.specs.Map.{lookup}
use Rattle.std.specs.List.{position_from}
use Rattle.mp_base.specs.declared.path.PathStep.{PathStep}
use Rattle.mp_ast.specs.declared.leaves.Identifier.{Identifier}
use Rattle.mp_ast.specs.declared.leaves.Number.{Number}
use Rattle.mp_ast.specs.declared.blocks.ProgramHeading.{ProgramHeading}
use Rattle.mp_ast.specs.PlainTypes.{PlainSections, NoSections, Section, PlainDenoter}
use Rattle.mp_ast.specs.PlainTrees.{PlainDeclaration, statements_of_part}
use Rattle.mp_tables.specs.declared.types.TypeId.{TypeId}
use Rattle.mp_tables.specs.declared.headings.FormalKind.{FormalKind}
use Rattle.mp_tables.specs.declared.headings.FormalKind.TheVariants as formal
use Rattle.mp_tables.specs.declared.headings.Heading.{Heading}
use Rattle.mp_tables.specs.declared.required.Required.{Required}
use Rattle.mp_tables.specs.declared.declarations.Decl.{Decl}
use Rattle.mp_tables.specs.declared.declarations.Decl.TheVariants as decl
use Rattle.mp_tables.specs.declared.declarations.Variable.{Variable}
use Rattle.mp_tables.specs.declared.declarations.Parameter.{Parameter}
use Rattle.mp_tables.specs.declared.tables.Entry.{Entry}
use Rattle.mp_tables.specs.declared.typed_statements.FrameKind.TheVariants as kind
use Rattle.mp_tables.specs.declared.typed_statements.FrameSlot.{FrameSlot}
use Rattle.mp_tables.specs.Asks.{Answers}
use Rattle.mp_tables.specs.RequiredNames.{standard_file}
use Rattle.mp_tables.specs.Seen.{or_else}
use Rattle.std.specs.List.{list_any}
use Rattle.mp_tables.specs.declared.declarations.LabelStanding.{LabelStanding}
use Rattle.mp_tables.specs.StatementWalks.{label_name, has_value, standing_of}
use Rattle.mp_tables.specs.DefiningPoints.{Points, Declaring, point, not_read, file_points, program_points, label_point, constant_point, enumerated, enumeration_points, type_points, variable_point, variable_points, routine_points, completes, name_of, label_points, declared_points, is_known}
use Rattle.mp_tables.specs.Denoters.{Known}
use Rattle.mp_tables.specs.Headings.{FormalParameter, parameters_in}
use Rattle.mp_tables.specs.Elaboration.{frame_cells, parameter_cells, parameter_type, parameter_slots, parameter_points, declarations, labels, variables}
use Rattle.mp_tables.specs.Frames.{is_result, is_parameter, variable_number, BeginsWith, HasTypes, IsVariableSlot, IsParameterSlot, IsResultSlot}
use Rattle.mp_tables.proofs.CleanLemmas.{◌so◌, none_some, some_inj, true_false}
use Rattle.mp_tables.proofs.GoodLemmas.{slice_get_front}
use Rattle.mp_tables.proofs.StaysLemmas.{IsOther, IsKept, ◌and◌, parameter_cells_stay}
use Rattle.mp_tables.proofs.FoundNames.{position_front, lookup_append, equal, equal_is, lookup_filled, found_before}

-- ---- slots of variables and parameters

abbrev pub is_named : List ℕ → FrameSlot → Bool
is_named n s = bytes_eq s.name n && not (is_result s.kind)

pub variable_slot_more : (frame : List FrameSlot) (s : FrameSlot) (n : List ℕ) (v : Variable) → IsVariableSlot frame n v → IsVariableSlot (frame ++ s ∷ []) n v
variable_slot_more frame s n v g =
    record {
      number = g.number;
      slot = g.slot;
      found = position_front (is_named n) g.number frame (s ∷ []) g.found;
      is = slice_get_front frame (s ∷ []) g.number g.slot g.is;
      of_kind = g.of_kind;
      of = g.of;
      offset = g.offset;
    }

pub parameter_slot_more : (ps : List FormalParameter) (frame : List FrameSlot) (s : FrameSlot) (n : List ℕ) (q : Parameter) → IsParameterSlot ps frame n q →
    IsParameterSlot ps (frame ++ s ∷ []) n q
parameter_slot_more ps frame s n q g =
    record {
      number = g.number;
      parameter = g.parameter;
      found = position_front (is_named n) g.number frame (s ∷ []) g.found;
      is = g.is;
      of_kind = g.of_kind;
      of = g.of;
      own = g.own;
      slot = g.slot;
      at = slice_get_front frame (s ∷ []) g.number g.slot g.at;
      offset = g.offset;
    }

pub result_slot_more : (frame : List FrameSlot) (s : FrameSlot) (t : TypeId) → IsResultSlot frame t → IsResultSlot (frame ++ s ∷ []) t
result_slot_more frame s t g =
    record {
      number = g.number;
      slot = g.slot;
      found = position_front (λ x. is_result x.kind) g.number frame (s ∷ []) g.found;
      is = slice_get_front frame (s ∷ []) g.number g.slot g.is;
      of_kind = g.of_kind;
      of = g.of;
    }

pub begins_more : (ps : List FormalParameter) (frame : List FrameSlot) (s : FrameSlot) → is_parameter s.kind ≡ false → BeginsWith ps frame → BeginsWith ps (frame ++ s ∷ [])
begins_more [] [] s e g = (e, tt)
begins_more [] (x ∷ frame) s e g = (g.0, begins_more [] frame s e g.1)
begins_more (p ∷ ps) [] s e g = absurd g
begins_more (p ∷ ps) (x ∷ frame) s e g = (g.0, begins_more ps frame s e g.1)

pub types_more : (ps : List FormalParameter) (frame : List FrameSlot) (s : FrameSlot) → HasTypes ps frame → HasTypes ps (frame ++ s ∷ [])
types_more [] frame s g = tt
types_more (p ∷ ps) [] s g = absurd g
types_more (p ∷ ps) (x ∷ frame) s g = (g.0, types_more ps frame s g.1)

-- the kinds and the types of the parameters' slots
abbrev pub Begins : List FormalParameter → List FrameSlot → Type 0
Begins ps frame = BeginsWith ps frame × HasTypes ps frame

pub begins_on : (ps : List FormalParameter) (frame : List FrameSlot) (s : FrameSlot) → is_parameter s.kind ≡ false → Begins ps frame → Begins ps (frame ++ s ∷ [])
begins_on ps frame s e g = (begins_more ps frame s e g.0, types_more ps frame s g.1)

-- ---- variables of a variable part

abbrev pub variables_of : PlainSections → List Identifier
variables_of NoSections = []
variables_of (Section names d more) = names ++ variables_of more

-- one of these defining points
abbrev pub InVars : List Identifier → List ℕ → ℕ → Type 0
InVars [] n at = ⊥
InVars (x ∷ xs) n at = ((x.name ≡ n) × (at ≡ x.at)) ⊎ InVars xs n at

pub in_front : (xs ys : List Identifier) (n : List ℕ) (at : ℕ) → InVars xs n at → InVars (xs ++ ys) n at
in_front [] ys n at g = absurd g
in_front (x ∷ xs) ys n at (inl g) = inl g
in_front (x ∷ xs) ys n at (inr g) = inr (in_front xs ys n at g)

pub in_behind : (xs ys : List Identifier) (n : List ℕ) (at : ℕ) → InVars ys n at → InVars (xs ++ ys) n at
in_behind [] ys n at g = g
in_behind (x ∷ xs) ys n at g = inr (in_behind xs ys n at g)

-- a defining point is no parameter's and no label's, and a variable's is one of these
abbrev pub OkPoint : List Identifier → List ℕ → ℕ → Decl → Type 0
OkPoint vars n at (decl.Var q v) = InVars vars n at
OkPoint vars n at (decl.Param q p) = ⊥
OkPoint vars n at (decl.Label q s) = ⊥
OkPoint vars n at _ = Unit {0}

abbrev pub Keyed : List Identifier → Points → Type 0
Keyed vars [] = Unit {0}
Keyed vars (p ∷ ps) = OkPoint vars p.0 p.1.at p.1.decl × Keyed vars ps

pub keyed_append : (vars : List Identifier) (xs ys : Points) → Keyed vars xs → Keyed vars ys → Keyed vars (xs ++ ys)
keyed_append vars [] ys g h = h
keyed_append vars (x ∷ xs) ys g h = (g.0, keyed_append vars xs ys g.1 h)

pub keyed_map : {X : Type 0} (vars : List Identifier) (f : X → List ℕ × Entry) → ((x : X) → OkPoint vars (f x).0 (f x).1.at (f x).1.decl) → (xs : List X) → Keyed vars (map f xs)
keyed_map vars f g [] = tt
keyed_map vars f g (x ∷ xs) = (g x, keyed_map vars f g xs)

pub keyed_flat : {X : Type 0} (vars : List Identifier) (f : X → Points) → ((x : X) → Keyed vars (f x)) → (xs : List X) → Keyed vars (flat_map f xs)
keyed_flat vars f g [] = tt
keyed_flat vars f g (x ∷ xs) = keyed_append vars (f x) (flat_map f xs) (g x) (keyed_flat vars f g xs)

pub keyed_found : (vars : List Identifier) (n : List ℕ) (ps : Points) (e : Entry) → Keyed vars ps → lookup (bytes_eq n) ps ≡ Some e → OkPoint vars n e.at e.decl
keyed_found vars n [] e g h = none_some h
keyed_found vars n (p ∷ ps) e g h = by (bytes_eq n p.0) refl h (keyed_found vars n ps e g.1)
  where
    by : (b : Bool) → bytes_eq n p.0 ≡ b → cond b (Some p.1) (lookup (bytes_eq n) ps) ≡ Some e → (lookup (bytes_eq n) ps ≡ Some e → OkPoint vars n e.at e.decl) →
        OkPoint vars n e.at e.decl
    by true k q f = subst (λ y. OkPoint vars n y.at y.decl) (some_inj q) (subst (λ m. OkPoint vars m p.1.at p.1.decl) (sym (equal n p.0 k)) g.0)
    by false k q f = f q

pub file_keyed : (vars : List Identifier) (x : Identifier) (r : Option Required) → Keyed vars (file_points x r)
file_keyed vars x None = tt
file_keyed vars x (Some r) = (tt, (tt, tt))

pub program_keyed : (vars : List Identifier) (h : Option ProgramHeading) → Keyed vars (program_points h)
program_keyed vars None = tt
program_keyed vars (Some h) = keyed_flat vars (λ x. file_points x (standard_file x.name)) (λ x. file_keyed vars x (standard_file x.name)) h.parameters

module _ (b : Declaring) where
  -- the label of a name
  abbrev pub LabelIs : List Number → List ℕ → Decl → Type 0
  LabelIs ns n d = (v : ℕ) × (n ≡ label_name v) × (list_any (has_value v) ns ≡ true) × (d ≡ decl.Label b.path (standing_of (statements_of_part b.own.statements) v))

  pub label_found : (ns : List Number) (n : List ℕ) (e : Entry) → lookup (bytes_eq n) (map (label_point b) ns) ≡ Some e → LabelIs ns n e.decl
  label_found [] n e h = none_some h
  label_found (x ∷ ns) n e h = by (bytes_eq n (label_name x.value)) refl h (label_found ns n e)
    where
      or_behind : (p : Bool) {q : Bool} → q ≡ true → (p || q) ≡ true
      or_behind true k = refl
      or_behind false k = k

      by : (z : Bool) → bytes_eq n (label_name x.value) ≡ z → cond z (Some (label_point b x).1) (lookup (bytes_eq n) (map (label_point b) ns)) ≡ Some e →
          (lookup (bytes_eq n) (map (label_point b) ns) ≡ Some e → LabelIs ns n e.decl) → LabelIs (x ∷ ns) n e.decl
      by true z k f = (x.value, equal n (label_name x.value) z, ap (λ y. y || list_any (has_value x.value) ns) (eq-eqb x.value x.value refl), ap (λ y. y.decl) (sym (some_inj k)))
      by false z k f = let r = f k in (r.0, r.1, or_behind (has_value r.0 x) r.2, r.3)

  pub later_found : (vars : List Identifier) (n : List ℕ) (e : Entry) → Keyed vars (declared_points b) → lookup (bytes_eq n) (label_points b ++ declared_points b) ≡ Some e →
      LabelIs b.own.labels n e.decl ⊎ OkPoint vars n e.at e.decl
  later_found vars n e g h = by (lookup (bytes_eq n) (label_points b)) refl (sym (lookup_append (bytes_eq n) (label_points b) (declared_points b)) ∙ h)
    where
      by : (o : Option Entry) → lookup (bytes_eq n) (label_points b) ≡ o → or_else o (lookup (bytes_eq n) (declared_points b)) ≡ Some e → LabelIs b.own.labels n e.decl
          ⊎ OkPoint vars n e.at e.decl
      by None k l = inr (keyed_found vars n (declared_points b) e g l)
      by (Some x) k l = inl (label_found b.own.labels n e (k ∙ l))

  pub enumeration_keyed : (vars : List Identifier) (d : PlainDenoter) → Keyed vars (enumeration_points b d)
  enumeration_keyed vars d = keyed_map vars (λ x. point x.name x.at x.at not_read) (λ x. tt) (enumerated d)

  pub one_section : (vars xs : List Identifier) → ((n : List ℕ) (at : ℕ) → InVars xs n at → InVars vars n at) → Keyed vars (map (variable_point b) xs)
  one_section vars [] f = tt
  one_section vars (x ∷ xs) f = (tt, one_section vars xs (λ n at g. f n at (inr g)))

  pub variables_keyed : (vars : List Identifier) (ss : PlainSections) → ((n : List ℕ) (at : ℕ) → InVars (variables_of ss) n at → InVars vars n at) →
      Keyed vars (variable_points b ss)
  variables_keyed vars NoSections f = tt
  variables_keyed vars (Section xs d more) f =
      keyed_append vars (map (variable_point b) xs ++ enumeration_points b d) (variable_points b more)
      (keyed_append vars (map (variable_point b) xs) (enumeration_points b d) (one_section vars xs (λ n at g. f n at (in_front xs (variables_of more) n at g)))
      (enumeration_keyed vars d))
      (variables_keyed vars more (λ n at g. f n at (in_behind xs (variables_of more) n at g)))

  pub routines_keyed : (vars : List Identifier) (earlier list : List PlainDeclaration) → Keyed vars (routine_points b earlier list)
  routines_keyed vars earlier [] = tt
  routines_keyed vars earlier (d ∷ later) = keyed_append vars _ (routine_points b (d ∷ earlier) later) (by (completes d earlier)) (routines_keyed vars (d ∷ earlier) later)
    where
      by : (x : Bool) → Keyed vars (cond x [] (point (name_of d) d.heading.name.at d.heading.name.at not_read ∷ []))
      by true = tt
      by false = (tt, tt)

  pub declared_keyed : Keyed (variables_of b.own.variables) (declared_points b)
  declared_keyed =
      let vars = variables_of b.own.variables in
      let cs = map (constant_point b) b.own.constants in
      let ts = flat_map (type_points b) b.own.types in
      keyed_append vars (cs ++ ts ++ variable_points b b.own.variables) (routine_points b [] b.own.declarations)
      (keyed_append vars (cs ++ ts) (variable_points b b.own.variables)
      (keyed_append vars cs ts (keyed_map vars (constant_point b) (λ d. tt) b.own.constants)
      (keyed_flat vars (type_points b) (λ d. (tt, enumeration_keyed vars d.of)) b.own.types))
      (variables_keyed vars b.own.variables (λ n at g. g)))
      (routines_keyed vars [] b.own.declarations)

-- ---- the parameters' slots and names

abbrev pub ParameterSlots : List FormalParameter → List FrameSlot → Type 0
ParameterSlots [] [] = Unit {0}
ParameterSlots [] (s ∷ ss) = ⊥
ParameterSlots (p ∷ ps) [] = ⊥
ParameterSlots (p ∷ ps) (s ∷ ss) = ((s.name ≡ p.formal.name) × (s.kind ≡ kind.Parameter p.formal.kind) × (s.of ≡ parameter_type p)) × ParameterSlots ps ss

abbrev pub FrameIs : List FrameSlot → Known → Type 0
FrameIs frame k = k.frame ≡ frame

pub frame_kept : (frame : List FrameSlot) → IsKept (FrameIs frame)
frame_kept frame = record { errors = λ k es f i. i; shapes = λ k ss i. i; headings = λ k hs i. i; nested = λ k ns i. i; fills = λ k n at d o i. i }

module _ (a : Answers) (b : Declaring) where
  pub slots_made : (ps : List FormalParameter) (k : Known) → (ss : List FrameSlot) × (((parameter_slots b.path ps k).run a).1.frame ≡ k.frame ++ ss) × ParameterSlots ps ss
  slots_made [] k = ([], sym (append-nil k.frame), tt)
  slots_made (p ∷ ps) k =
      let c = (parameter_cells b.path p k).run a in
      let same : c.1.frame ≡ k.frame = (parameter_cells_stay a b.path (FrameIs k.frame) (frame_kept k.frame) b.own b.heading p p.formal.kind).by k refl in
      let s : FrameSlot = record { name = p.formal.name; kind = kind.Parameter p.formal.kind; of = parameter_type p; offset = frame_cells c.1.frame; cells = c.0 } in
      let r = slots_made ps (record c.1 { frame = c.1.frame ++ s ∷ [] }) in
      (s ∷ r.0, r.1 ∙ append_assoc c.1.frame (s ∷ []) r.0 ∙ ap (λ x. x ++ s ∷ r.0) same, ((refl, refl, refl), r.2))

  pub begins_with : (ps : List FormalParameter) (ss : List FrameSlot) → ParameterSlots ps ss → BeginsWith ps ss
  begins_with [] [] g = tt
  begins_with [] (s ∷ ss) g = absurd g
  begins_with (p ∷ ps) [] g = absurd g
  begins_with (p ∷ ps) (s ∷ ss) g = (g.0.1, begins_with ps ss g.1)

  pub types_with : (ps : List FormalParameter) (ss : List FrameSlot) → ParameterSlots ps ss → HasTypes ps ss
  types_with [] ss g = tt
  types_with (p ∷ ps) [] g = absurd g
  types_with (p ∷ ps) (s ∷ ss) g = (g.0.2, types_with ps ss g.1)

  pub begins_at : (ps : List FormalParameter) (ss : List FrameSlot) → ParameterSlots ps ss → Begins ps ss
  begins_at ps ss g = (begins_with ps ss g, types_with ps ss g)

  pub no_result : (ps : List FormalParameter) (ss : List FrameSlot) (i : ℕ) → ParameterSlots ps ss → position_from (λ s. is_result s.kind) i ss ≡ None
  no_result [] [] i g = refl
  no_result [] (s ∷ ss) i g = absurd g
  no_result (p ∷ ps) [] i g = absurd g
  no_result (p ∷ ps) (s ∷ ss) i g = ap (λ k. cond (is_result k) (Some i) (position_from (λ s. is_result s.kind) (i + 1) ss)) g.0.1 ∙ no_result ps ss (i + 1) g.1

pub differ : (m n : List ℕ) → bytes_eq m n ≡ false → bytes_eq n m ≡ false
differ m n e = by (bytes_eq n m) refl
  where
    by : (x : Bool) → bytes_eq n m ≡ x → x ≡ false
    by true h = true_false (sym (equal_is m n (sym (equal n m h))) ∙ e)
    by false h = refl

pub type_is : (p : FormalParameter) (k : FormalKind) (t : TypeId) → parameter_type (record p { formal = record p.formal { kind = k } }) ≡ Some t → p.formal.of ≡ Some t
type_is p formal.Value t e = e
type_is p formal.Variable t e = e
type_is p k t e = none_some e

abbrev pub parameter_in : Decl → Option Parameter
parameter_in (decl.Param q p) = Some p
parameter_in _ = None

abbrev pub variable_in : Decl → Option Variable
variable_in (decl.Var q v) = Some v
variable_in _ = None

-- what a parameter's name leads to
abbrev pub FoundParameter : List FormalParameter → List FrameSlot → ℕ → List ℕ → Parameter → Type 0
FoundParameter ps frame i n q =
    (j : ℕ) × (position_from (is_named n) i frame ≡ Some (i + j)) × (p : FormalParameter) × (slice_get ps j ≡ Some p) × (p.formal.kind ≡ q.kind)
    × ((t : TypeId) → q.of ≡ Some t → p.formal.of ≡ Some t) × (p.own ≡ q.own)
    × (s : FrameSlot) × (slice_get frame j ≡ Some s) × (s.offset ≡ q.offset)

pub parameter_found :
    (path : List PathStep) (ps : List FormalParameter) (ss rest : List FrameSlot) (i : ℕ) (n : List ℕ) (e : Entry) (q : Parameter) → ParameterSlots ps ss →
    lookup (bytes_eq n) (parameter_points path ps (ss ++ rest)) ≡ Some e → e.decl ≡ decl.Param path q → FoundParameter ps (ss ++ rest) i n q
parameter_found path [] ss rest i n e q g h d = none_some h
parameter_found path (p ∷ ps) [] rest i n e q g h d = absurd g
parameter_found path (p ∷ ps) (s ∷ ss) rest i n e q g h d = by (bytes_eq n p.formal.name) refl h (parameter_found path ps ss rest (i + 1) n e q g.1)
  where
    made : Parameter
    made = record { kind = p.formal.kind; of = parameter_type p; offset = s.offset; own = p.own }

    by : (z : Bool) → bytes_eq n p.formal.name ≡ z →
        cond z (Some (record { decl = decl.Param path made; at = 0; last = 0 })) (lookup (bytes_eq n) (parameter_points path ps (ss ++ rest))) ≡ Some e →
        (lookup (bytes_eq n) (parameter_points path ps (ss ++ rest)) ≡ Some e → e.decl ≡ decl.Param path q → FoundParameter ps (ss ++ rest) (i + 1) n q) →
        FoundParameter (p ∷ ps) (s ∷ ss ++ rest) i n q
    by true z k f =
        let same : made ≡ q = some_inj (ap (λ x. parameter_in x.decl) (some_inj k) ∙ ap parameter_in d) in
        let test : is_named n s ≡ true = ap (λ x. bytes_eq s.name n && not (is_result x)) g.0.1
        ∙ ap (λ x. x && true) (equal_is s.name n (g.0.0 ∙ sym (equal n p.formal.name z))) in (
          0,
          ap (λ x. cond x (Some i) (position_from (is_named n) (i + 1) (ss ++ rest))) test ∙ ap Some (omega arith),
          p,
          refl,
          ap (λ x. x.kind) same,
          (λ t o. type_is p p.formal.kind t (ap (λ x. x.of) same ∙ o)),
          ap (λ x. x.own) same,
          s,
          refl,
          ap (λ x. x.offset) same,
        )
    by false z k f =
        let r = f k d in
        let test : is_named n s ≡ false = ap (λ x. bytes_eq x n && not (is_result s.kind)) g.0.0 ∙ ap (λ x. x && not (is_result s.kind)) (differ n p.formal.name z) in
        (suc r.0, ap (λ x. cond x (Some i) (position_from (is_named n) (i + 1) (ss ++ rest))) test ∙ r.1 ∙ ap Some (omega arith), r.2, r.3, r.4, r.5, r.6, r.7, r.8, r.9)

-- ---- what holds of the parameters and of the result, at each step behind them

pub other_parameter : (d : Decl) (path : List PathStep) (q : Parameter) → IsOther d → d ≡ decl.Param path q → ⊥
other_parameter d path q o e = subst IsOther e o

pub other_variable : (d : Decl) (path : List PathStep) (v : Variable) → IsOther d → d ≡ decl.Var path v → ⊥
other_variable d path v o e = subst IsOther e o

pub record Framed (path : List PathStep) (h : Heading) (k : Known) : Type 0 where
  pub begins : Begins (parameters_in h.formals) k.frame
  pub result : (t : TypeId) → h.result ≡ Some t → IsResultSlot k.frame t
  pub parameter : (n : List ℕ) (e : Entry) (q : Parameter) → lookup (bytes_eq n) k.names ≡ Some e → e.decl ≡ decl.Param path q →
      IsParameterSlot (parameters_in h.formals) k.frame n q

-- the variables still to come, and the names of the slots so far
pub record Variables (path : List PathStep) (rest : List Identifier) (known : Points) (k : Known) : Type 0 where
  pub slots : (n : List ℕ) (e : Entry) (v : Variable) → lookup (bytes_eq n) k.names ≡ Some e → e.decl ≡ decl.Var path v → InVars rest n e.at ⊎ IsVariableSlot k.frame n v
  pub free : (n : List ℕ) → is_known n known ≡ false → variable_number k.frame n ≡ None

-- a label of the block is one of its label part
pub record Labelled (b : Declaring) (k : Known) : Type 0 where
  pub labels : (n : List ℕ) (e : Entry) (q : List PathStep) (s : LabelStanding) → lookup (bytes_eq n) k.names ≡ Some e → e.decl ≡ decl.Label q s →
      LabelIs b b.own.labels n (decl.Label q s)

abbrev pub label_in : Decl → Bool
label_in (decl.Label q s) = true
label_in _ = false

pub other_label : (d : Decl) (q : List PathStep) (s : LabelStanding) → IsOther d → d ≡ decl.Label q s → ⊥
other_label d q s o e = subst IsOther e o

-- an error was reported
abbrev pub HasErrors : Known → Type 0
HasErrors k = k.errors ≡ [] → ⊥

pub errors_kept : IsKept HasErrors
errors_kept = record { errors = λ k es f i e. i (f e); shapes = λ k ss i. i; headings = λ k hs i. i; nested = λ k ns i. i; fills = λ k n at d o i. i }

module _ (path : List PathStep) where
  pub framed_kept : (h : Heading) → IsKept (Framed path h)
  framed_kept h =
      record {
        errors = λ k es f i. record { begins = i.begins; result = i.result; parameter = i.parameter };
        shapes = λ k ss i. record { begins = i.begins; result = i.result; parameter = i.parameter };
        headings = λ k hs i. record { begins = i.begins; result = i.result; parameter = i.parameter };
        nested = λ k ns i. record { begins = i.begins; result = i.result; parameter = i.parameter };
        fills = λ k m at d o i. record {
          begins = i.begins;
          result = i.result;
          parameter = λ n e q l p. old k m at d o i n e q p (found_before n m at d (lookup (bytes_eq n) k.names) e (sym (lookup_filled n m at d k.names) ∙ l));
        };
      }
    where
      old : (k : Known) (m : List ℕ) (at : ℕ) (d : Decl) → IsOther d → Framed path h k → (n : List ℕ) (e : Entry) (q : Parameter) → e.decl ≡ decl.Param path q →
          ((m ≡ n) × (e.decl ≡ d) × (e.at ≡ at) × (x : Entry) × (lookup (bytes_eq n) k.names ≡ Some x) × (x.at ≡ at))
          ⊎ ((lookup (bytes_eq n) k.names ≡ Some e) × ((m ≡ n) × (e.at ≡ at) → ⊥)) → IsParameterSlot (parameters_in h.formals) k.frame n q
      old k m at d o i n e q p (inl f) = absurd (other_parameter d path q o (sym f.1 ∙ p))
      old k m at d o i n e q p (inr f) = i.parameter n e q f.0 p

  pub variables_kept : (rest : List Identifier) (known : Points) → IsKept (Variables path rest known)
  variables_kept rest known =
      record {
        errors = λ k es f i. record { slots = i.slots; free = i.free };
        shapes = λ k ss i. record { slots = i.slots; free = i.free };
        headings = λ k hs i. record { slots = i.slots; free = i.free };
        nested = λ k ns i. record { slots = i.slots; free = i.free };
        fills = λ k m at d o i. record {
          slots = λ n e v l p. old k m at d o i n e v p
              (found_before n m at d (lookup (bytes_eq n) k.names) e (sym (lookup_filled n m at d k.names) ∙ l));
          free = i.free;
        };
      }
    where
      old : (k : Known) (m : List ℕ) (at : ℕ) (d : Decl) → IsOther d → Variables path rest known k → (n : List ℕ) (e : Entry) (v : Variable) → e.decl ≡ decl.Var path v →
          ((m ≡ n) × (e.decl ≡ d) × (e.at ≡ at) × (x : Entry) × (lookup (bytes_eq n) k.names ≡ Some x) × (x.at ≡ at))
          ⊎ ((lookup (bytes_eq n) k.names ≡ Some e) × ((m ≡ n) × (e.at ≡ at) → ⊥)) → InVars rest n e.at ⊎ IsVariableSlot k.frame n v
      old k m at d o i n e v p (inl f) = absurd (other_variable d path v o (sym f.1 ∙ p))
      old k m at d o i n e v p (inr f) = i.slots n e v f.0 p

-- ---- one variable

pub labelled_kept : (b : Declaring) → IsKept (Labelled b)
labelled_kept b =
    record {
      errors = λ k es f i. record { labels = i.labels };
      shapes = λ k ss i. record { labels = i.labels };
      headings = λ k hs i. record { labels = i.labels };
      nested = λ k ns i. record { labels = i.labels };
      fills = λ k m at d o i. record {
        labels = λ n e q s l p. old k m at d o i n e q s p
            (found_before n m at d (lookup (bytes_eq n) k.names) e (sym (lookup_filled n m at d k.names) ∙ l));
      };
    }
  where
    old : (k : Known) (m : List ℕ) (at : ℕ) (d : Decl) → IsOther d → Labelled b k → (n : List ℕ) (e : Entry) (q : List PathStep) (s : LabelStanding) → e.decl ≡ decl.Label q s →
        ((m ≡ n) × (e.decl ≡ d) × (e.at ≡ at) × (x : Entry) × (lookup (bytes_eq n) k.names ≡ Some x) × (x.at ≡ at))
        ⊎ ((lookup (bytes_eq n) k.names ≡ Some e) × ((m ≡ n) × (e.at ≡ at) → ⊥)) → LabelIs b b.own.labels n (decl.Label q s)
    old k m at d o i n e q s p (inl f) = absurd (other_label d q s o (sym f.1 ∙ p))
    old k m at d o i n e q s p (inr f) = i.labels n e q s f.0 p
