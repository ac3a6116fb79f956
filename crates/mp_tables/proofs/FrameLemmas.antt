-- The frame of a block, and the names that it declares: each variable, parameter and result has its slot. The parameters make the
-- first slots and the first names, and no rule but the variable part makes slots behind the result.
use Rattle.std.proofs.Common.{◌≡◌, ℕ, ◌+◌, Bool, true, false, cond, not, ◌&&◌, List, [], ◌∷◌, ◌++◌, Option, Some, None, refl, sym, ap, inl, inr, ◌∙◌, subst, map, length, slice_get, append-nil, append_assoc, nat_lt, is_some, arith}
use Rattle.std.specs.Prelude.{◌⊎◌, bytes_eq, flat_map, option_map, option_and_then, position}
use Rattle.std.specs.Map.{lookup}
use Rattle.std.specs.List.{AllByRecursion}
use Rattle.std.specs.List.{position_from}
use Rattle.std.proofs.lemmas.Iterator.Adapters.{position_from-zero}
use Rattle.mp_base.specs.declared.path.PathStep.{PathStep}
use Rattle.mp_ast.specs.declared.leaves.Identifier.{Identifier}
use Rattle.mp_ast.specs.declared.leaves.Number.{Number}
use Rattle.mp_ast.specs.PlainTypes.{PlainSections, NoSections, Section}
use Rattle.mp_ast.specs.PlainTrees.{PlainBlock, PlainTree}
use Rattle.mp_ast.specs.Blocks.{PlacedBlock, blocks}
use Rattle.mp_tables.specs.declared.errors.RuleError.{RuleError}
use Rattle.mp_tables.specs.declared.types.TypeId.{TypeId}
use Rattle.mp_tables.specs.declared.headings.Heading.{Heading}
use Rattle.mp_tables.specs.declared.declarations.Decl.{Decl}
use Rattle.mp_tables.specs.declared.declarations.Decl.TheVariants as decl
use Rattle.mp_tables.specs.declared.declarations.Variable.{Variable}
use Rattle.mp_tables.specs.declared.declarations.Parameter.{Parameter}
use Rattle.mp_tables.specs.declared.tables.Entry.{Entry}
use Rattle.mp_tables.specs.declared.tables.Table.{Table}
use Rattle.mp_tables.specs.declared.typed_statements.FrameKind.TheVariants as kind
use Rattle.mp_tables.specs.declared.typed_statements.FrameSlot.{FrameSlot}
use Rattle.mp_tables.specs.Asks.{Answers}
use Rattle.mp_tables.specs.Reports.{◌>>◌, each, report}
use Rattle.mp_tables.specs.Seen.{table_at, heading_of, answers_of, or_else}
use Rattle.mp_tables.specs.Statements.{statement_part}
use Rattle.mp_tables.specs.ProgramErrors.{judge, errors_in, errors_at, table_after, tables_of, typed_in}
use Rattle.std.specs.List.{list_any}
use Rattle.mp_tables.specs.declared.declarations.LabelStanding.{LabelStanding}
use Rattle.mp_tables.specs.StatementWalks.{has_value}
use Rattle.mp_tables.specs.DefiningPoints.{Points, Declaring, program_points, constant_point, enumeration_points, type_points, variable_point, variable_points, routine_points, given_points, label_points, declared_points, is_known, with_points, repeated, filled, is_control}
use Rattle.mp_tables.specs.Denoters.{Known, by_rule, denote, typed_here_if, size_of}
use Rattle.mp_tables.specs.Headings.{FormalParameter, parameters_in}
use Rattle.mp_tables.specs.Elaboration.{frame_cells, parameter_type, parameter_slots, result_slot, parameter_points, repeated_names, given, names_set, declarations, nothing_known, name_at, elaborate, labels, constant_definition, type_definition, domain_types, variables, variable_part, routine_declarations, program_heading}
use Rattle.mp_tables.specs.Frames.{is_result, variable_number, IsVariableSlot, IsParameterSlot, IsResultSlot, FrameFits, FramesFit}
use Rattle.mp_tables.proofs.CheckedLemmas.{no_front, no_map, no_reports}
use Rattle.mp_tables.proofs.StableLemmas.{tables_are_stable}
use Rattle.mp_tables.proofs.CleanLemmas.{Clean, Any, clean_pure, ◌then◌, weaken, clean_each, ◌so◌, clean_report, clean_report_if, none_some, some_inj, true_false, false_true}
use Rattle.mp_tables.proofs.GoodLemmas.{slice_get_seam}
use Rattle.mp_tables.proofs.StaysLemmas.{IsKept, Stays, stay, ◌and◌, denote_stays, typed_if_stays, labels_stay, constants_part_stays, types_stay, domain_types_stay, routines_stay, program_heading_stays}
use Rattle.mp_tables.proofs.FoundNames.{position_seam, position_none, lookup_append, equal_is, lookup_with, lookup_filled, found_before}
use Rattle.mp_tables.proofs.SlotLemmas.{is_named, variable_slot_more, parameter_slot_more, result_slot_more, Begins, begins_on, variables_of, InVars, OkPoint, keyed_found, program_keyed, LabelIs, later_found, declared_keyed, ParameterSlots, slots_made, begins_at, no_result, differ, parameter_in, variable_in, parameter_found, Framed, Variables, Labelled, label_in, HasErrors, errors_kept, framed_kept, variables_kept, labelled_kept}

module _ (b : Declaring) where
  labelled_step : (k : Known) (t : Option TypeId) (cells : ℕ) (x : Identifier) → Labelled b k →
      Labelled b
      (record k {
        names = filled x.name x.at (decl.Var b.path (record { of = t; offset = frame_cells k.frame; control = is_control b x.name })) k.names;
        frame = k.frame ++ record { name = x.name; kind = kind.Variable; of = t; offset = frame_cells k.frame; cells = cells } ∷ [];
      })
  labelled_step k t cells x i =
      record { labels = λ n e q s l p. old n e q s p (found_before n x.name x.at made (lookup (bytes_eq n) k.names) e (sym (lookup_filled n x.name x.at made k.names) ∙ l)) }
    where
      made : Decl
      made = decl.Var b.path (record { of = t; offset = frame_cells k.frame; control = is_control b x.name })

      old : (n : List ℕ) (e : Entry) (q : List PathStep) (s : LabelStanding) → e.decl ≡ decl.Label q s →
          ((x.name ≡ n) × (e.decl ≡ made) × (e.at ≡ x.at) × (y : Entry) × (lookup (bytes_eq n) k.names ≡ Some y) × (y.at ≡ x.at))
          ⊎ ((lookup (bytes_eq n) k.names ≡ Some e) × ((x.name ≡ n) × (e.at ≡ x.at) → ⊥)) → LabelIs b b.own.labels n (decl.Label q s)
      old n e q s p (inl f) = false_true (ap label_in (sym f.1 ∙ p))
      old n e q s p (inr f) = i.labels n e q s f.0 p

  abbrev pub made_of : Known → Option TypeId → Identifier → Variable
  made_of k t x = record { of = t; offset = frame_cells k.frame; control = is_control b x.name }

  abbrev pub slot_of : Known → Option TypeId → ℕ → Identifier → FrameSlot
  slot_of k t cells x = record { name = x.name; kind = kind.Variable; of = t; offset = frame_cells k.frame; cells = cells }

  -- what is known behind a variable
  abbrev pub with_variable : Known → Option TypeId → ℕ → Identifier → Known
  with_variable k t cells x = record k { names = filled x.name x.at (decl.Var b.path (made_of k t x)) k.names; frame = k.frame ++ slot_of k t cells x ∷ [] }

  module _ (a : Answers) (I : Known → Type 0) (kept : IsKept I) (step : (k : Known) (t : Option TypeId) (cells : ℕ) (x : Identifier) → I k → I (with_variable k t cells x)) where
    names_stay : (t : Option TypeId) (cells : ℕ) (xs : List Identifier) → Stays a I (variables b t cells xs)
    names_stay t cells [] = stay tt
    names_stay t cells (x ∷ xs) = record { by = λ k i. (names_stay t cells xs).by (with_variable k t cells x) (step k t cells x i) }

    variable_part_stays : (ss : PlainSections) → Stays a I (variable_part b ss)
    variable_part_stays NoSections = stay tt
    variable_part_stays (Section xs d more) =
        denote_stays a b.path I kept None d and λ t. typed_if_stays a b.path I kept t and λ s. names_stay t (size_of s) xs and λ u. variable_part_stays more

    behind_labels : Stays a I
        (each (constant_definition b) b.own.constants >>
        (each (type_definition b) b.own.types >>
        (domain_types b >> (variable_part b b.own.variables >> (routine_declarations b [] b.own.declarations >> program_heading b.own.program)))))
    behind_labels =
        constants_part_stays a b.path I kept b.own b.heading
        and λ u. types_stay a b.path I kept b.own b.heading
        and λ u. domain_types_stay a b.path I kept b.own b.heading
        and λ u. variable_part_stays b.own.variables
        and λ u. routines_stay a b.path I kept b.own b.heading [] b.own.declarations
        and λ u. program_heading_stays a b.path I kept b.own b.heading b.own.program

    -- all that follows the names of the block
    pub definitions_stay : Stays a I
        (by_rule (labels [] b.own.labels) >>
        (each (constant_definition b) b.own.constants >>
        (each (type_definition b) b.own.types >>
        (domain_types b >> (variable_part b b.own.variables >> (routine_declarations b [] b.own.declarations >> program_heading b.own.program))))))
    definitions_stay =
        labels_stay a b.path I kept b.own b.heading and λ u. behind_labels

  framed_step : (k : Known) (t : Option TypeId) (cells : ℕ) (x : Identifier) → Framed b.path b.heading k → Framed b.path b.heading (with_variable k t cells x)
  framed_step k t cells x i =
      record {
        begins = begins_on (parameters_in b.heading.formals) k.frame (slot_of k t cells x) refl i.begins;
        result = λ u e. result_slot_more k.frame (slot_of k t cells x) u (i.result u e);
        parameter = λ n e q l p. parameter_slot_more (parameters_in b.heading.formals) k.frame (slot_of k t cells x) n q
            (old n e q p
            (found_before n x.name x.at (decl.Var b.path (made_of k t x)) (lookup (bytes_eq n) k.names) e
            (sym (lookup_filled n x.name x.at (decl.Var b.path (made_of k t x)) k.names) ∙ l)));
      }
    where
      old : (n : List ℕ) (e : Entry) (q : Parameter) → e.decl ≡ decl.Param b.path q →
          ((x.name ≡ n) × (e.decl ≡ decl.Var b.path (made_of k t x)) × (e.at ≡ x.at) × (y : Entry) × (lookup (bytes_eq n) k.names ≡ Some y) × (y.at ≡ x.at))
          ⊎ ((lookup (bytes_eq n) k.names ≡ Some e) × ((x.name ≡ n) × (e.at ≡ x.at) → ⊥)) → IsParameterSlot (parameters_in b.heading.formals) k.frame n q
      old n e q p (inl f) = none_some (ap parameter_in (sym f.1 ∙ p))
      old n e q p (inr f) = i.parameter n e q f.0 p

  -- a variable whose name is new
  variable_step : (k : Known) (t : Option TypeId) (cells : ℕ) (x : Identifier) (rest : List Identifier) (known : Points) → is_known x.name known ≡ false →
      Variables b.path (x ∷ rest) known k → Variables b.path rest (known ++ variable_point b x ∷ []) (with_variable k t cells x)
  variable_step k t cells x rest known new i =
      record {
        slots = λ n e v l p. made n e v p
            (found_before n x.name x.at (decl.Var b.path (made_of k t x)) (lookup (bytes_eq n) k.names) e
            (sym (lookup_filled n x.name x.at (decl.Var b.path (made_of k t x)) k.names) ∙ l));
        free = λ n u. position_none (is_named n) k.frame (slot_of k t cells x) (i.free n (before n u)) (ap (λ y. y && true) (behind n u));
      }
    where
      is_some_or : (o r : Option Entry) → is_some (or_else o r) ≡ false → (is_some o ≡ false) × (is_some r ≡ false)
      is_some_or None r e = (refl, e)
      is_some_or (Some y) r e = true_false e

      both : (n : List ℕ) → is_known n (known ++ variable_point b x ∷ []) ≡ false → (is_known n known ≡ false) × (is_some (lookup (bytes_eq n) (variable_point b x ∷ [])) ≡ false)
      both n u =
          is_some_or (lookup (bytes_eq n) known) (lookup (bytes_eq n) (variable_point b x ∷ [])) (ap is_some (sym (lookup_append (bytes_eq n) known (variable_point b x ∷ [])))
          ∙ u)

      before : (n : List ℕ) → is_known n (known ++ variable_point b x ∷ []) ≡ false → is_known n known ≡ false
      before n u = (both n u).0

      test : (z : Bool) → is_some (cond z (Some (variable_point b x).1) None) ≡ false → z ≡ false
      test true e = true_false e
      test false e = refl

      behind : (n : List ℕ) → is_known n (known ++ variable_point b x ∷ []) ≡ false → bytes_eq x.name n ≡ false
      behind n u = differ n x.name (test (bytes_eq n x.name) (both n u).1)

      made : (n : List ℕ) (e : Entry) (v : Variable) → e.decl ≡ decl.Var b.path v →
          ((x.name ≡ n) × (e.decl ≡ decl.Var b.path (made_of k t x)) × (e.at ≡ x.at) × (y : Entry) × (lookup (bytes_eq n) k.names ≡ Some y) × (y.at ≡ x.at))
          ⊎ ((lookup (bytes_eq n) k.names ≡ Some e) × ((x.name ≡ n) × (e.at ≡ x.at) → ⊥)) →
          InVars rest n e.at ⊎ IsVariableSlot (k.frame ++ slot_of k t cells x ∷ []) n v
      made n e v p (inl f) =
          let same : made_of k t x ≡ v = some_inj (ap variable_in (sym f.1 ∙ p)) in
          inr (record {
            number = length k.frame;
            slot = slot_of k t cells x;
            found = position_seam (is_named n) k.frame (slot_of k t cells x) [] (i.free n (subst (λ m. is_known m known ≡ false) f.0 new))
                (ap (λ y. y && true) (equal_is x.name n f.0));
            is = slice_get_seam k.frame (slot_of k t cells x) [];
            of_kind = refl;
            of = ap (λ y. y.of) same;
            offset = ap (λ y. y.offset) same;
          })
      made n e v p (inr f) = kept (i.slots n e v f.0 p)
        where
          kept : InVars (x ∷ rest) n e.at ⊎ IsVariableSlot k.frame n v → InVars rest n e.at ⊎ IsVariableSlot (k.frame ++ slot_of k t cells x ∷ []) n v
          kept (inl (inl g)) = absurd (f.1 g)
          kept (inl (inr g)) = inl g
          kept (inr g) = inr (variable_slot_more k.frame (slot_of k t cells x) n v g)

-- ---- names that are new

abbrev AllNew : Points → Points → Type 0
AllNew known [] = Unit {0}
AllNew known (p ∷ ps) = (is_known p.0 known ≡ false) × AllNew (known ++ p ∷ []) ps

all_new : (known ps : Points) → repeated known ps ≡ [] → AllNew known ps
all_new known [] e = tt
all_new known (p ∷ ps) e = by (is_known p.0 known) refl e (all_new (known ++ p ∷ []) ps)
  where
    by : (x : Bool) → is_known p.0 known ≡ x → cond x (p.1.at ∷ []) [] ++ repeated (cond x known (known ++ (p.0, p.1) ∷ [])) ps ≡ [] →
        (repeated (known ++ p ∷ []) ps ≡ [] → AllNew (known ++ p ∷ []) ps) →
        (is_known p.0 known ≡ false) × AllNew (known ++ p ∷ []) ps
    by true q h f = absurd (let n : ⊥ = cc in n)
    by false q h f = (q, f h)

all_new_append : (known xs ys : Points) → AllNew known (xs ++ ys) → AllNew known xs × AllNew (known ++ xs) ys
all_new_append known [] ys g = (tt, subst (λ k. AllNew k ys) (sym (append-nil known)) g)
all_new_append known (x ∷ xs) ys g =
    let r = all_new_append (known ++ x ∷ []) xs ys g.1 in
    ((g.0, r.0), subst (λ k. AllNew k ys) (append_assoc known (x ∷ []) xs) r.1)

none_or : (o r : Option Entry) → is_some (or_else o r) ≡ false → is_some o ≡ false
none_or None r e = refl
none_or (Some y) r e = e

known_less : (n : List ℕ) (known more : Points) → is_known n (known ++ more) ≡ false → is_known n known ≡ false
known_less n known more e = none_or (lookup (bytes_eq n) known) (lookup (bytes_eq n) more) (ap is_some (sym (lookup_append (bytes_eq n) known more)) ∙ e)

variables_wider : (path : List PathStep) (rest : List Identifier) (known more : Points) (k : Known) → Variables path rest known k → Variables path rest (known ++ more) k
variables_wider path rest known more k i = record { slots = i.slots; free = λ n e. i.free n (known_less n known more e) }

-- ---- the variable part

module _ (a : Answers) (b : Declaring) where
  names_run : (t : Option TypeId) (cells : ℕ) (xs rest : List Identifier) (known : Points) (k : Known) → AllNew known (map (variable_point b) xs) →
      Variables b.path (xs ++ rest) known k → Variables b.path rest (known ++ map (variable_point b) xs) ((variables b t cells xs k).run a).1
  names_run t cells [] rest known k g i = subst (λ y. Variables b.path rest y k) (sym (append-nil known)) i
  names_run t cells (x ∷ xs) rest known k g i =
      subst (λ y. Variables b.path rest y ((variables b t cells (x ∷ xs) k).run a).1) (append_assoc known (variable_point b x ∷ []) (map (variable_point b) xs))
      (names_run t cells xs rest (known ++ variable_point b x ∷ []) (with_variable b k t cells x) g.1 (variable_step b k t cells x (xs ++ rest) known g.0 i))

  part_run : (ss : PlainSections) (known : Points) (k : Known) → AllNew known (variable_points b ss) → Variables b.path (variables_of ss) known k →
      Variables b.path [] (known ++ variable_points b ss) ((variable_part b ss k).run a).1
  part_run NoSections known k g i = subst (λ y. Variables b.path [] y k) (sym (append-nil known)) i
  part_run (Section xs d more) known k g i =
      let first : Points = map (variable_point b) xs in
      let second : Points = enumeration_points b d in
      let r = all_new_append known (first ++ second) (variable_points b more) g in
      let q = all_new_append known first second r.0 in
      let all : List Identifier = xs ++ variables_of more in
      let x = (denote (record { path = b.path; type_part_end = None }) d k).run a in
      let i1 = (denote_stays a b.path (Variables b.path all known) (variables_kept b.path all known) None d).by k i in
      let y = (typed_here_if b.path x.0 x.1).run a in
      let i2 = (typed_if_stays a b.path (Variables b.path all known) (variables_kept b.path all known) x.0).by x.1 i1 in
      let z = (variables b x.0 (size_of y.0) xs y.1).run a in
      let i3 = names_run x.0 (size_of y.0) xs (variables_of more) known y.1 q.0 i2 in
      let i4 =
      subst (λ w. Variables b.path (variables_of more) w z.1) (append_assoc known first second) (variables_wider b.path (variables_of more) (known ++ first) second z.1 i3) in
      subst (λ w. Variables b.path [] w ((variable_part b (Section xs d more) k).run a).1) (append_assoc known (first ++ second) (variable_points b more))
      (part_run more (known ++ (first ++ second)) z.1 r.1 i4)

-- ---- the parameters' names, and the result

and_false : (x : Bool) → (x && false) ≡ false
and_false true = refl
and_false false = refl

parameters_free : (path : List PathStep) (ps : List FormalParameter) (ss rest : List FrameSlot) (i : ℕ) (n : List ℕ) → ParameterSlots ps ss →
    is_some (lookup (bytes_eq n) (parameter_points path ps (ss ++ rest))) ≡ false → position_from (is_named n) i ss ≡ None
parameters_free path [] [] rest i n g e = refl
parameters_free path [] (s ∷ ss) rest i n g e = absurd g
parameters_free path (p ∷ ps) [] rest i n g e = absurd g
parameters_free path (p ∷ ps) (s ∷ ss) rest i n g e = by (bytes_eq n p.formal.name) refl e (parameters_free path ps ss rest (i + 1) n g.1)
  where
    made : Parameter
    made = record { kind = p.formal.kind; of = parameter_type p; offset = s.offset; own = p.own }

    by : (z : Bool) → bytes_eq n p.formal.name ≡ z →
        is_some (cond z (Some (record { decl = decl.Param path made; at = 0; last = 0 })) (lookup (bytes_eq n) (parameter_points path ps (ss ++ rest)))) ≡ false →
        (is_some (lookup (bytes_eq n) (parameter_points path ps (ss ++ rest))) ≡ false → position_from (is_named n) (i + 1) ss ≡ None) →
        position_from (is_named n) i (s ∷ ss) ≡ None
    by true z h f = true_false h
    by false z h f =
        ap (λ x. cond (bytes_eq x n && not (is_result s.kind)) (Some i) (position_from (is_named n) (i + 1) ss)) g.0.0
        ∙ ap (λ x. cond (x && not (is_result s.kind)) (Some i) (position_from (is_named n) (i + 1) ss)) (differ n p.formal.name z) ∙ f h

no_variable : (path : List PathStep) (ps : List FormalParameter) (ss : List FrameSlot) (n : List ℕ) (e : Entry) → lookup (bytes_eq n) (parameter_points path ps ss) ≡ Some e →
    variable_in e.decl ≡ None
no_variable path [] ss n e h = none_some h
no_variable path (p ∷ ps) [] n e h = none_some h
no_variable path (p ∷ ps) (s ∷ ss) n e h = by (bytes_eq n p.formal.name) h (no_variable path ps ss n e)
  where
    made : Parameter
    made = record { kind = p.formal.kind; of = parameter_type p; offset = s.offset; own = p.own }

    by : (z : Bool) → cond z (Some (record { decl = decl.Param path made; at = 0; last = 0 })) (lookup (bytes_eq n) (parameter_points path ps ss)) ≡ Some e →
        (lookup (bytes_eq n) (parameter_points path ps ss) ≡ Some e → variable_in e.decl ≡ None) → variable_in e.decl ≡ None
    by true k f = ap (λ x. variable_in x.decl) (sym (some_inj k))
    by false k f = f k

no_label : (path : List PathStep) (ps : List FormalParameter) (ss : List FrameSlot) (n : List ℕ) (e : Entry) → lookup (bytes_eq n) (parameter_points path ps ss) ≡ Some e →
    label_in e.decl ≡ false
no_label path [] ss n e h = none_some h
no_label path (p ∷ ps) [] n e h = none_some h
no_label path (p ∷ ps) (s ∷ ss) n e h = by (bytes_eq n p.formal.name) h (no_label path ps ss n e)
  where
    made : Parameter
    made = record { kind = p.formal.kind; of = parameter_type p; offset = s.offset; own = p.own }

    by : (z : Bool) → cond z (Some (record { decl = decl.Param path made; at = 0; last = 0 })) (lookup (bytes_eq n) (parameter_points path ps ss)) ≡ Some e →
        (lookup (bytes_eq n) (parameter_points path ps ss) ≡ Some e → label_in e.decl ≡ false) → label_in e.decl ≡ false
    by true k f = ap (λ x. label_in x.decl) (sym (some_inj k))
    by false k f = f k

one_of : (x y z : Option Entry) (e : Entry) → or_else (or_else x y) z ≡ Some e → (x ≡ Some e) ⊎ ((y ≡ Some e) ⊎ (z ≡ Some e))
one_of (Some x) y z e h = inl h
one_of None (Some y) z e h = inr (inl h)
one_of None None z e h = inr (inr h)

reports_any : (a : Answers) (xs : List ℕ) → Clean a (repeated_names xs) Any
reports_any a xs = clean_each (report 304) (λ x. clean_report {P = Any} 304 x) xs

reported : (a : Answers) (xs : List ℕ) → Clean a (repeated_names xs) (λ u. xs ≡ [])
reported a [] = clean_pure tt refl
reported a (x ∷ xs) = clean_report {P = λ u. ⊥} 304 x then λ u. weaken (λ y p n. absurd n) (reports_any a xs)

abbrev pub Small : List Number → Type 0
Small [] = Unit {0}
Small (n ∷ ns) = (nat_lt 9999 n.value ≡ false) × Small ns

small_clean : (a : Answers) (earlier list : List Number) → Clean a (labels earlier list) (λ u. Small list)
small_clean a earlier [] = clean_pure tt tt
small_clean a earlier (n ∷ more) =
    clean_report_if (nat_lt 9999 n.value) 311 n.at
    then λ u. clean_report_if (list_any (has_value n.value) earlier) 307 n.at
    then λ u. small_clean a (n ∷ earlier) more
    so λ u s e p. (p, s)

empty_or : (es : List RuleError) → (es ≡ []) ⊎ (es ≡ [] → ⊥)
empty_or [] = inl refl
empty_or (e ∷ es) = inr (λ h. let n : ⊥ = cc in n)

-- ---- all declarations of a block

-- what holds of a block's names and frame
pub record Fitted (path : List PathStep) (h : Heading) (names : Points) (frame : List FrameSlot) : Type 0 where
  pub begins : Begins (parameters_in h.formals) frame
  pub variable : (n : List ℕ) (e : Entry) (v : Variable) → lookup (bytes_eq n) names ≡ Some e → e.decl ≡ decl.Var path v → IsVariableSlot frame n v
  pub parameter : (n : List ℕ) (e : Entry) (q : Parameter) → lookup (bytes_eq n) names ≡ Some e → e.decl ≡ decl.Param path q → IsParameterSlot (parameters_in h.formals) frame n q
  pub result : (t : TypeId) → h.result ≡ Some t → IsResultSlot frame t

module _ (a : Answers) (b : Declaring) (name : List ℕ) where
  -- behind the parameters, behind the result, and with the names
  abbrev pub after_parameters : Known
  after_parameters = ((parameter_slots b.path (parameters_in b.heading.formals) nothing_known).run a).1

  abbrev pub after_given : Known
  after_given = ((given b name nothing_known).run a).1

  abbrev pub after_names : Known
  after_names = ((names_set b after_given).run a).1

  abbrev at_end : Known
  at_end = ((declarations b name nothing_known).run a).1

  abbrev given_names : Points
  given_names = given_points b (parameter_points b.path (parameters_in b.heading.formals) after_given.frame)

  -- the slots of the parameters, and what stands behind them
  pub record Started : Type 0 where
    pub slots : List FrameSlot
    pub rest : List FrameSlot
    pub is : after_given.frame ≡ slots ++ rest
    pub parameters : ParameterSlots (parameters_in b.heading.formals) slots
    pub begins : Begins (parameters_in b.heading.formals) after_given.frame
    pub result : (t : TypeId) → b.heading.result ≡ Some t → IsResultSlot after_given.frame t
    pub free : (n : List ℕ) → position (is_named n) slots ≡ None → variable_number after_given.frame n ≡ None

  abbrev made_slot : TypeId → FrameSlot
  made_slot t = record { name = name; kind = kind.Result; of = Some t; offset = frame_cells after_parameters.frame; cells = 1 }

  abbrev StartedWith : Option TypeId → Known → Type 0
  StartedWith r k =
      (slots : List FrameSlot) × (rest : List FrameSlot) × (k.frame ≡ slots ++ rest) × ParameterSlots (parameters_in b.heading.formals) slots
      × Begins (parameters_in b.heading.formals) k.frame
      × ((t : TypeId) → r ≡ Some t → IsResultSlot k.frame t) × ((n : List ℕ) → position (is_named n) slots ≡ None → variable_number k.frame n ≡ None)

  start_with : (r : Option TypeId) → StartedWith r ((result_slot name r after_parameters).run a).1
  start_with r = by r (slots_made a b (parameters_in b.heading.formals) nothing_known)
    where
      ps : List FormalParameter
      ps = parameters_in b.heading.formals

      by : (r : Option TypeId) → (ss : List FrameSlot) × (after_parameters.frame ≡ [] ++ ss) × ParameterSlots ps ss → StartedWith r ((result_slot name r after_parameters).run a).1
      by None m =
          (m.0, [], m.1 ∙ sym (append-nil m.0), m.2, subst (Begins ps) (sym m.1) (begins_at a b ps m.0 m.2), (λ t e. none_some e), (λ n e. ap (position (is_named n)) m.1 ∙ e))
      by (Some t) m =
          let s : FrameSlot = made_slot t in
          let all : after_parameters.frame ++ s ∷ [] ≡ m.0 ++ s ∷ [] = ap (λ x. x ++ s ∷ []) m.1 in (
            m.0,
            s ∷ [],
            all,
            m.2,
            subst (Begins ps) (sym all) (begins_on ps m.0 s refl (begins_at a b ps m.0 m.2)),
            (λ u e. subst (λ x. IsResultSlot x u) (sym all)
                (record {
                  number = length m.0;
                  slot = s;
                  found = position_seam (λ x. is_result x.kind) m.0 s [] (position_from-zero (λ x. is_result x.kind) m.0 ∙ no_result a b ps m.0 0 m.2) refl;
                  is = slice_get_seam m.0 s [];
                  of_kind = refl;
                  of = e;
                })),
            (λ n e. ap (λ x. variable_number x n) all ∙ position_none (is_named n) m.0 s e (and_false (bytes_eq name n))),
          )

  started : StartedWith b.heading.result after_given
  started = start_with b.heading.result

  -- the names of the block, before anything is read
  names_are : (n : List ℕ) →
      lookup (bytes_eq n) after_names.names ≡ or_else
      (or_else (lookup (bytes_eq n) (program_points b.own.program)) (lookup (bytes_eq n) (parameter_points b.path (parameters_in b.heading.formals) after_given.frame)))
      (lookup (bytes_eq n) (label_points b ++ declared_points b))
  names_are n =
      let ps : Points = parameter_points b.path (parameters_in b.heading.formals) after_given.frame in
      let known : Points = with_points [] (program_points b.own.program ++ ps) in
      let more : Points = label_points b ++ declared_points b in
      lookup_with n known more ∙ lookup_append (bytes_eq n) known more
      ∙ ap (λ x. or_else x (lookup (bytes_eq n) more)) (lookup_with n [] (program_points b.own.program ++ ps) ∙ lookup_append (bytes_eq n) (program_points b.own.program) ps)

  abbrev vars : List Identifier
  vars = variables_of b.own.variables

  parameter_slot : (n : List ℕ) (e : Entry) (q : Parameter) → lookup (bytes_eq n) (parameter_points b.path (parameters_in b.heading.formals) after_given.frame) ≡ Some e →
      e.decl ≡ decl.Param b.path q → IsParameterSlot (parameters_in b.heading.formals) after_given.frame n q
  parameter_slot n e q l d =
      let s = started in
      let f = parameter_found b.path (parameters_in b.heading.formals) s.0 s.1 0 n e q s.3
      (subst (λ x. lookup (bytes_eq n) (parameter_points b.path (parameters_in b.heading.formals) x) ≡ Some e) s.2 l) d in
      record {
        number = f.0;
        parameter = f.2;
        found = ap (λ x. variable_number x n) s.2 ∙ position_from-zero (is_named n) (s.0 ++ s.1) ∙ f.1 ∙ ap Some (omega arith);
        is = f.3;
        of_kind = f.4;
        of = f.5;
        own = f.6;
        slot = f.7;
        at = ap (λ x. slice_get x f.0) s.2 ∙ f.8;
        offset = f.9;
      }

  framed_first : Framed b.path b.heading after_names
  framed_first =
      record {
        begins = started.4;
        result = started.5;
        parameter =
            λ n e q l d. by n e q d
            (one_of (lookup (bytes_eq n) (program_points b.own.program)) (lookup (bytes_eq n) (parameter_points b.path (parameters_in b.heading.formals) after_given.frame))
            (lookup (bytes_eq n) (label_points b ++ declared_points b)) e (sym (names_are n) ∙ l));
      }
    where
      by : (n : List ℕ) (e : Entry) (q : Parameter) → e.decl ≡ decl.Param b.path q →
          (lookup (bytes_eq n) (program_points b.own.program) ≡ Some e)
          ⊎ ((lookup (bytes_eq n) (parameter_points b.path (parameters_in b.heading.formals) after_given.frame) ≡ Some e)
          ⊎ (lookup (bytes_eq n) (label_points b ++ declared_points b) ≡ Some e)) → IsParameterSlot (parameters_in b.heading.formals) after_given.frame n q
      by n e q d (inl l) = absurd (subst (OkPoint vars n e.at) d (keyed_found vars n (program_points b.own.program) e (program_keyed vars b.own.program) l))
      by n e q d (inr (inl l)) = parameter_slot n e q l d
      by n e q d (inr (inr l)) = later (later_found b vars n e (declared_keyed b) l)
        where
          later : LabelIs b b.own.labels n e.decl ⊎ OkPoint vars n e.at e.decl → IsParameterSlot (parameters_in b.heading.formals) after_given.frame n q
          later (inl g) = none_some (ap parameter_in (sym g.3 ∙ d))
          later (inr g) = absurd (subst (OkPoint vars n e.at) d g)

  labelled_first : Labelled b after_names
  labelled_first =
      record {
        labels = λ n e q s l d. by n e q s d
            (one_of (lookup (bytes_eq n) (program_points b.own.program)) (lookup (bytes_eq n) (parameter_points b.path (parameters_in b.heading.formals) after_given.frame))
            (lookup (bytes_eq n) (label_points b ++ declared_points b)) e (sym (names_are n) ∙ l));
      }
    where
      by : (n : List ℕ) (e : Entry) (q : List PathStep) (s : LabelStanding) → e.decl ≡ decl.Label q s →
          (lookup (bytes_eq n) (program_points b.own.program) ≡ Some e)
          ⊎ ((lookup (bytes_eq n) (parameter_points b.path (parameters_in b.heading.formals) after_given.frame) ≡ Some e)
          ⊎ (lookup (bytes_eq n) (label_points b ++ declared_points b) ≡ Some e)) → LabelIs b b.own.labels n (decl.Label q s)
      by n e q s d (inl l) = absurd (subst (OkPoint vars n e.at) d (keyed_found vars n (program_points b.own.program) e (program_keyed vars b.own.program) l))
      by n e q s d (inr (inl l)) = true_false (sym (ap label_in d) ∙ no_label b.path (parameters_in b.heading.formals) after_given.frame n e l)
      by n e q s d (inr (inr l)) = later (later_found b vars n e (declared_keyed b) l)
        where
          later : LabelIs b b.own.labels n e.decl ⊎ OkPoint vars n e.at e.decl → LabelIs b b.own.labels n (decl.Label q s)
          later (inl g) = subst (LabelIs b b.own.labels n) d g
          later (inr g) = absurd (subst (OkPoint vars n e.at) d g)

  pub labelled_last : Labelled b at_end
  labelled_last = (definitions_stay b a (Labelled b) (labelled_kept b) (labelled_step b)).by after_names labelled_first

  -- the names before the variable part's
  abbrev before_part : Points
  before_part = map (constant_point b) b.own.constants ++ flat_map (type_points b) b.own.types

  variables_first : Variables b.path vars (with_points [] given_names ++ before_part) after_names
  variables_first =
      record {
        slots = λ n e v l d. inl
            (by n e v d
            (one_of (lookup (bytes_eq n) (program_points b.own.program)) (lookup (bytes_eq n) (parameter_points b.path (parameters_in b.heading.formals) after_given.frame))
            (lookup (bytes_eq n) (label_points b ++ declared_points b)) e (sym (names_are n) ∙ l)));
        free = λ n u. started.6 n (position_from-zero (is_named n) started.0
            ∙ parameters_free b.path (parameters_in b.heading.formals) started.0 started.1 0 n started.3
            (subst (λ x. is_some (lookup (bytes_eq n) (parameter_points b.path (parameters_in b.heading.formals) x)) ≡ false) started.2 (unknown n u)));
      }
    where
      by : (n : List ℕ) (e : Entry) (v : Variable) → e.decl ≡ decl.Var b.path v →
          (lookup (bytes_eq n) (program_points b.own.program) ≡ Some e)
          ⊎ ((lookup (bytes_eq n) (parameter_points b.path (parameters_in b.heading.formals) after_given.frame) ≡ Some e)
          ⊎ (lookup (bytes_eq n) (label_points b ++ declared_points b) ≡ Some e)) → InVars vars n e.at
      by n e v d (inl l) = subst (OkPoint vars n e.at) d (keyed_found vars n (program_points b.own.program) e (program_keyed vars b.own.program) l)
      by n e v d (inr (inl l)) = none_some (sym (no_variable b.path (parameters_in b.heading.formals) after_given.frame n e l) ∙ ap variable_in d)
      by n e v d (inr (inr l)) = later (later_found b vars n e (declared_keyed b) l)
        where
          later : LabelIs b b.own.labels n e.decl ⊎ OkPoint vars n e.at e.decl → InVars vars n e.at
          later (inl g) = none_some (ap variable_in (sym g.3 ∙ d))
          later (inr g) = subst (OkPoint vars n e.at) d g

      last_none : (o r : Option Entry) → is_some (or_else o r) ≡ false → is_some r ≡ false
      last_none None r e = e
      last_none (Some x) r e = true_false e

      unknown : (n : List ℕ) → is_known n (with_points [] given_names ++ before_part) ≡ false →
          is_some (lookup (bytes_eq n) (parameter_points b.path (parameters_in b.heading.formals) after_given.frame)) ≡ false
      unknown n u =
          last_none (lookup (bytes_eq n) (program_points b.own.program)) (lookup (bytes_eq n) (parameter_points b.path (parameters_in b.heading.formals) after_given.frame))
          (ap is_some (sym (lookup_append (bytes_eq n) (program_points b.own.program) (parameter_points b.path (parameters_in b.heading.formals) after_given.frame)))
          ∙ ap is_some (sym (lookup_with n [] given_names)) ∙ known_less n (with_points [] given_names) before_part u)

  -- ---- a block without errors

  module _ (none : at_end.errors ≡ []) where
    none_first : after_names.errors ≡ []
    none_first = by (empty_or after_names.errors)
      where
        by : (after_names.errors ≡ []) ⊎ (after_names.errors ≡ [] → ⊥) → after_names.errors ≡ []
        by (inl e) = e
        by (inr f) = absurd ((definitions_stay b a HasErrors errors_kept (λ k t cells x i. i)).by after_names f none)

    abbrev after_labels : Known
    after_labels = ((by_rule (labels [] b.own.labels) after_names).run a).1

    none_labels : after_labels.errors ≡ []
    none_labels = by (empty_or after_labels.errors)
      where
        by : (after_labels.errors ≡ []) ⊎ (after_labels.errors ≡ [] → ⊥) → after_labels.errors ≡ []
        by (inl e) = e
        by (inr f) = absurd ((behind_labels b a HasErrors errors_kept (λ k t cells x i. i)).by after_labels f none)

    -- no label is above 9999
    pub labels_small : Small b.own.labels
    labels_small = ((small_clean a [] b.own.labels).by after_names.errors none_labels).1

    names_new : AllNew (with_points [] given_names) (declared_points b)
    names_new =
        all_new (with_points [] given_names) (declared_points b) ((reported a (repeated (with_points [] given_names) (declared_points b))).by after_given.errors none_first).1

    part_new : AllNew (with_points [] given_names ++ before_part) (variable_points b b.own.variables)
    part_new =
        (all_new_append (with_points [] given_names) before_part (variable_points b b.own.variables)
        (all_new_append (with_points [] given_names) (before_part ++ variable_points b b.own.variables) (routine_points b [] b.own.declarations) names_new).0).1

    variables_last : Variables b.path [] ((with_points [] given_names ++ before_part) ++ variable_points b b.own.variables) at_end
    variables_last =
        let known : Points = with_points [] given_names ++ before_part in
        let I : Known → Type 0 = Variables b.path vars known in
        let J : Known → Type 0 = Variables b.path [] (known ++ variable_points b b.own.variables) in
        let k1 = ((by_rule (labels [] b.own.labels) after_names).run a).1 in
        let i1 = (labels_stay a b.path I (variables_kept b.path vars known) b.own b.heading).by after_names variables_first in
        let k2 = ((each (constant_definition b) b.own.constants k1).run a).1 in
        let i2 = (constants_part_stays a b.path I (variables_kept b.path vars known) b.own b.heading).by k1 i1 in
        let k3 = ((each (type_definition b) b.own.types k2).run a).1 in
        let i3 = (types_stay a b.path I (variables_kept b.path vars known) b.own b.heading).by k2 i2 in
        let k4 = ((domain_types b k3).run a).1 in
        let i4 = (domain_types_stay a b.path I (variables_kept b.path vars known) b.own b.heading).by k3 i3 in
        let k5 = ((variable_part b b.own.variables k4).run a).1 in
        let i5 = part_run a b b.own.variables known k4 part_new i4 in
        let k6 = ((routine_declarations b [] b.own.declarations k5).run a).1 in
        let i6 = (routines_stay a b.path J (variables_kept b.path [] (known ++ variable_points b b.own.variables)) b.own b.heading [] b.own.declarations).by k5 i5 in
        (program_heading_stays a b.path J (variables_kept b.path [] (known ++ variable_points b b.own.variables)) b.own b.heading b.own.program).by k6 i6

    framed_last : Framed b.path b.heading at_end
    framed_last = (definitions_stay b a (Framed b.path b.heading) (framed_kept b.path b.heading) (framed_step b)).by after_names framed_first

    pub fitted : Fitted b.path b.heading at_end.names at_end.frame
    fitted =
        record {
          begins = framed_last.begins;
          variable = λ n e v l d. by e.at n v (variables_last.slots n e v l d);
          parameter = framed_last.parameter;
          result = framed_last.result;
        }
      where
        by : (at : ℕ) (n : List ℕ) (v : Variable) → InVars [] n at ⊎ IsVariableSlot at_end.frame n v → IsVariableSlot at_end.frame n v
        by at n v (inl g) = absurd g
        by at n v (inr g) = g

-- ---- all blocks of a program

module _ (tables : List Table) where
  abbrev pub the_block : List PathStep → PlainBlock → Declaring
  the_block path own = record { path = path; own = own; heading = heading_of tables path }

  block_fits : (b : PlacedBlock) → table_at tables b.path ≡ Some (table_after tables b) → errors_in (answers_of tables) b.path b.own ≡ [] →
      FrameFits tables b.path (typed_in (answers_of tables) b.path b.own).frame
  block_fits b t e =
      let none =
      (no_front ((elaborate b.path b.own).run (answers_of tables)).errors ((statement_part b.path b.own []).run (answers_of tables)).1
      (no_reports ((judge b.path b.own).run (answers_of tables)).reports e)).0 in
      let f = fitted (answers_of tables) (the_block b.path b.own) (name_at b.path) none in
      record {
        parameters = f.begins.0;
        types = f.begins.1;
        variable = λ n v d. let g =
            entry n (decl.Var b.path v) (subst (λ o. option_map (λ x. x.decl) (option_and_then (λ y. lookup (bytes_eq n) y.names) o) ≡ Some (decl.Var b.path v)) t d) in
            f.variable n g.0 v g.1 g.2;
        parameter = λ n q d. let g =
            entry n (decl.Param b.path q) (subst (λ o. option_map (λ x. x.decl) (option_and_then (λ y. lookup (bytes_eq n) y.names) o) ≡ Some (decl.Param b.path q)) t d) in
            f.parameter n g.0 q g.1 g.2;
        result = f.result;
      }
    where
      found : (o : Option Entry) (d : Decl) → option_map (λ x. x.decl) o ≡ Some d → (e : Entry) × (o ≡ Some e) × (e.decl ≡ d)
      found None d h = none_some h
      found (Some x) d h = (x, refl, some_inj h)

      entry : (n : List ℕ) (d : Decl) → option_map (λ x. x.decl) (lookup (bytes_eq n) (table_after tables b).names) ≡ Some d → (e : Entry)
          × (lookup (bytes_eq n) (table_after tables b).names ≡ Some e) × (e.decl ≡ d)
      entry n d h = found (lookup (bytes_eq n) (table_after tables b).names) d h

  blocks_fit : (bs : List PlacedBlock) → AllByRecursion (λ b. table_at tables b.path ≡ Some (table_after tables b)) bs → flat_map (errors_at (answers_of tables)) bs ≡ [] →
      AllByRecursion (λ b. FrameFits tables b.path (typed_in (answers_of tables) b.path b.own).frame) bs
  blocks_fit [] t e = tt
  blocks_fit (b ∷ bs) t e =
      let h = no_front (errors_at (answers_of tables) b) (flat_map (errors_at (answers_of tables)) bs) e in
      (block_fits b t.0 (no_map _ (errors_in (answers_of tables) b.path b.own) h.0), blocks_fit bs t.1 h.1)

pub frames_fit : (program : PlainTree) → FramesFit program
frames_fit program accepted =
    blocks_fit (tables_of program) (blocks program) (tables_are_stable program) (no_reports (flat_map (errors_at (answers_of (tables_of program))) (blocks program)) accepted)
