-- Statements: where no error is reported, the typed tree is checked.
use Rattle.std.proofs.Common.{◌≡◌, ℕ, suc, Bool, true, false, cond, not, List, [], ◌∷◌, ◌++◌, Option, Some, None, refl, sym, ap, ◌-◌, ◌∙◌, subst, inl, inr, map, length, take, slice_get, is_some, arith, nat_eq, append_assoc, append-nil, ◌||◌}
use Rattle.std.specs.Prelude.{unwrap_or}
use Rattle.std.specs.List.{list_any}
use Rattle.std.proofs.lemmas.List.{length-append}
use Rattle.mp_base.specs.declared.path.PathStep.{PathStep}
use Rattle.mp_ast.specs.declared.leaves.Identifier.{Identifier}
use Rattle.mp_ast.specs.declared.leaves.Number.{Number as NumberLeaf}
use Rattle.mp_ast.specs.declared.leaves.Constant.{Constant}
use Rattle.mp_ast.specs.declared.leaves.Constant.TheVariants as constants
use Rattle.mp_ast.specs.declared.leaves.Sign.{Sign}
use Rattle.mp_ast.specs.PlainExpressions.{PlainExpr, PlainAccess, PlainSelectors, NoSelectors, PlainActuals}
use Rattle.mp_ast.specs.PlainStatements.{PlainForHead, PlainStatement, Labelled, Empty, Assign, Call, Goto, Compound, If, IfElse, Case, While, Repeat, For, With, PlainStatements, NoStatements, Sequence, PlainArms, NoArms, Arm}
use Rattle.mp_ast.specs.PlainTrees.{PlainBlock, statements_of_part}
use Rattle.mp_ast.specs.Blocks.{same_step, same_path}
use Rattle.mp_ast.specs.FirstTokens.{first_of_constant, first_of_expression}
use Rattle.mp_tables.specs.declared.types.TypeId.{TypeId}
use Rattle.mp_tables.specs.declared.types.TypeId.TheVariants as type
use Rattle.mp_tables.specs.declared.types.Bounds.{Bounds}
use Rattle.mp_tables.specs.declared.types.RecordShape.{RecordShape}
use Rattle.mp_tables.specs.declared.types.Shape.{Shape}
use Rattle.mp_tables.specs.declared.types.Shape.TheVariants as shape
use Rattle.mp_tables.specs.declared.types.Typed.{Typed}
use Rattle.mp_tables.specs.declared.headings.FormalKind.{FormalKind}
use Rattle.mp_tables.specs.declared.headings.FormalKind.TheVariants as formal
use Rattle.mp_tables.specs.declared.required.Required.TheVariants as name
use Rattle.mp_tables.specs.declared.declarations.ConstantValue.{ConstantValue}
use Rattle.mp_tables.specs.declared.declarations.ConstantValue.TheVariants as value
use Rattle.mp_tables.specs.declared.declarations.Decl.TheVariants as decl
use Rattle.mp_tables.specs.declared.declarations.Routine.{Routine}
use Rattle.mp_tables.specs.declared.declarations.Variable.{Variable}
use Rattle.mp_tables.specs.declared.declarations.LabelStanding.{LabelStanding}
use Rattle.mp_tables.specs.declared.declarations.LabelStanding.TheVariants as standing
use Rattle.mp_tables.specs.declared.questions.Seen.{Seen}
use Rattle.mp_tables.specs.declared.questions.Seen.TheVariants as see
use Rattle.mp_tables.specs.declared.tables.Table.{Table}
use Rattle.mp_tables.specs.declared.typed_expressions.Sort.TheVariants as sort
use Rattle.mp_tables.specs.declared.typed_expressions.Check.TheVariants as check
use Rattle.mp_tables.specs.declared.typed_expressions.Callee.{Callee}
use Rattle.mp_tables.specs.declared.typed_expressions.Located.{Located}
use Rattle.mp_tables.specs.PlainTypedExpressions.{PlainTypedExpr, PlainTypedActuals}
use Rattle.mp_tables.specs.PlainTypedStatements.{PlainTarget, PlainRequiredCall, PlainTypedStatement, PlainTypedStatements, PlainTypedArms}
use Rattle.mp_tables.specs.PlainTypedStatements as typed_tree
use Rattle.mp_tables.specs.Asks.{find as find_name}
use Rattle.mp_tables.specs.Reports.{Rule, pure, ◌>>=◌, ◌>>◌, lift, report, report_if}
use Rattle.mp_tables.specs.TypeRelations.{ordinal, holds_file, assignable, unless_missing}
use Rattle.mp_tables.specs.Seen.{begins_with, heading_or_none, heading_of, answers_of}
use Rattle.mp_tables.specs.StatementWalks.{label_name, outermost_prefixes, standing_of, has_value}
use Rattle.mp_tables.specs.Names.{Opened, Region, Use, OpenField, Declared, used, typed_if}
use Rattle.mp_tables.specs.Constants.{integer_constant, signed, constant_use, constant, constant_fits, same_constant, Selecting, numbers, selecting_by, selecting}
use Rattle.mp_tables.specs.Elaboration.{label_range}
use Rattle.mp_tables.specs.Variables.{sort_of, check_by, check_if, Accessed, located, variable_use}
use Rattle.mp_tables.specs.Calls.{Given, Judged, given_use}
use Rattle.mp_tables.specs.RequiredCalls.{Called, required_call}
use Rattle.mp_tables.specs.Expressions.{expression, selected_variable, procedural_in, procedural_of, count}
use Rattle.mp_tables.specs.Statements.{Place, label_here, labels_here, controlled_here, start_or, boolean_fits, condition, Settable, not_settable, settable, unless_threatened, result_access, in_block, is_required_function, other_target, name_target_by, name_target, accessed, target, assignment, assign_node, assign, required_node, no_procedure, required_statement, call_node, procedure_statement, called, call, may_lead, is_outermost, outer_label, own_label, goto, host_by, case_index, Control, no_control, ordinal_if, refused_control, bounds_if, typed_bounds, control_of, own_control, variable_control, control_by, control, limit, controlling, for_by, record_by, is_record, typed_access, opened_tree, open_record, Opening, open_records, statement, sequence, arms}
use Rattle.mp_tables.specs.Checked.{Context, HasShape, declared_at, IsOwnVariable, IsResult, IsSequence, HasCheck, CalleeHas, OrdinalExpr, outermost_labels, CheckedGoto, CheckedRecords, CheckedStatement, CheckedSequence, CheckedArms}
use Rattle.mp_tables.specs.Complete.{Standing, CompleteRoutine, Complete, ShortExpr, ShortSelectors, ShortActuals, ShortAccesses, ShortStatement, ShortStatements, ShortArms, HasStatement}
use Rattle.mp_tables.proofs.CleanLemmas.{Clean, Any, clean_pure, ◌then◌, ◌so◌, any_bind, clean_report, clean_report_if, clean_refuse, clean_refused, clean_lift, clean_forall, clean_both, false_true, true_false, holds, none_some}
use Rattle.mp_tables.proofs.GoodLemmas.{GoodTyped, GoodValue, ordinal_value, tag_field, shorter, IsType, GoodAccess, GoodExpr, OpenedFit, Fits, DeclaredIn, GoodSeen, GoodUse, GoodUseIf, good_seen, used_clean, typed_if_clean, slice_get_seam, slice_get_front}
use Rattle.mp_tables.proofs.SortLemmas.{both_true, same_path-eq, same_step-eq, has_host_ordinal, some_ordinal}
use Rattle.mp_tables.proofs.VariableLemmas.{GoodAccessIf, variable_use_clean, good_if, threat_clean, unthreatened}
use Rattle.mp_tables.proofs.CallLemmas.{result_standing, GoodGiven, GivenOrNot, given_good, GoodActuals, no_widths_clean, ActualsIf, actuals_of_clean, fits_value, fits_holds}
use Rattle.mp_tables.proofs.RequiredLemmas.{CalledIf, CleanIf, required_call_clean}
use Rattle.mp_tables.proofs.ExpressionLemmas.{AccessedIf, variable_found, start_clean, expression_clean, selected_clean, actuals_clean}

-- ---- where a statement stands: the open records and the labels in reach, of a block with fixed tables and path

pub record Inner : Type 0 where
  pub opened : List TypeId
  pub labels : List ℕ

-- no declared label of the block stands before no statement, or before several
abbrev pub OnceStanding : PlainBlock → Type 0
OnceStanding own = (v : ℕ) → list_any (has_value v) own.labels ≡ true → standing_of (statements_of_part own.statements) v ≡ standing.NotOnce → ⊥

-- no label that a block around the place declares stands before no statement of its block, or before several
abbrev pub OuterOnce : List Table → List PathStep → Type 0
OuterOnce tables path =
    (depth : ℕ) (n : List ℕ) (q : List PathStep) (s : LabelStanding) →
    declared_at (record { tables = tables; path = path; opened = []; labels = [] }) depth n ≡ Some (decl.Label q s) → s ≡ standing.NotOnce → ⊥

module _ (tables : List Table) (path : List PathStep) where
  abbrev pub within : Inner → Context
  within i = record { tables = tables; path = path; opened = i.opened; labels = i.labels }

  pub record PlaceFits (i : Inner) (p : Place) : Type 0 where
    pub region : Fits (within i) p.region
    pub labels : i.labels ≡ p.labels
    pub once : OnceStanding p.own
    pub outer : OuterOnce tables path

abbrev pub nowhere : Inner
nowhere = record { opened = []; labels = [] }

module _ (tables : List Table) (complete : Complete tables) (path : List PathStep) where
  abbrev at_place : Inner → Context
  at_place i = within tables path i

  -- ---- conditions

  boolean_good : (i : Inner) (t : Option Typed) (node : PlainTypedExpr) → boolean_fits t ≡ true → GoodValue (at_place i) t node → OrdinalExpr (at_place i) node
  boolean_good i None node e g = absurd g
  boolean_good i (Some t) node e g = ordinal_value (at_place i) t node g (has_host_ordinal type.Boolean t e)

  expression_here : (r : Region) (x : PlainExpr) → Clean (answers_of tables) (expression r x) (λ v. (i : Inner) → Fits (at_place i) r → ShortExpr x → GoodExpr (at_place i) v)
  expression_here r x = clean_forall nowhere (λ i. expression_clean (at_place i) complete r x)

  condition_clean : (p : Place) (x : PlainExpr) →
      Clean (answers_of tables) (condition p x) (λ n. (i : Inner) → Fits (at_place i) p.region → ShortExpr x → OrdinalExpr (at_place i) n)
  condition_clean p x =
      expression_here p.region x
      then λ v. clean_report_if (not (boolean_fits v.typed)) 332 (first_of_expression x)
      then λ u. clean_pure v.node (λ e f i g h. boolean_good i v.typed v.node (holds (boolean_fits v.typed) e) (f i g h).0)

  -- ---- assignments

  -- a variable that may be set
  abbrev IsSettable : Inner → Settable → Type 0
  IsSettable i s = (a : Accessed) × (s.access ≡ Some a) × (s.typed ≡ a.typed) × GoodAccess (at_place i) a

  use_here : (r : Region) (x : Identifier) → Clean (answers_of tables) (used r x) (λ u. (i : Inner) → Fits (at_place i) r → GoodUseIf (at_place i) x.name u)
  use_here r x = clean_forall nowhere (λ i. used_clean (at_place i) complete r x)

  variable_here : (n : List ℕ) (u : Use) → Clean (answers_of tables) (variable_use n u) (λ o. (i : Inner) → GoodUse (at_place i) n u → GoodAccessIf (at_place i) u o)
  variable_here n u = clean_forall nowhere (λ i. variable_use_clean (at_place i) complete n u)

  begins : (b p : List PathStep) → begins_with b p ≡ true → take (length b) p ≡ b
  begins [] p e = refl
  begins (s ∷ b) [] e = false_true e
  begins (s ∷ b) (t ∷ p) e =
      let x = both_true (same_step s t) (begins_with b p) e in
      ap (λ y. y ∷ take (length b) p) (sym (same_step-eq s t x.0)) ∙ ap (λ y. s ∷ y) (begins b p x.1)

  not_set : {P : Settable → Type 0} (code at : ℕ) → Clean (answers_of tables) (report code at >> pure not_settable) P
  not_set code at = clean_report {P = λ u. ⊥} code at then λ u. clean_pure not_settable (λ n. absurd n)

  result_by : (r : Region) (x : Identifier) (f : Routine) (offset : ℕ) (q : List PathStep) (b : Bool) → in_block r f.block ≡ b →
      Clean (answers_of tables)
      (cond b (typed_if f.heading.result >>= (λ t. pure (settable (Some (result_access x.name (unwrap_or f.block []) offset t))))) (report 348 x.at >> pure not_settable))
      (λ s. (i : Inner) → Fits (at_place i) r → DeclaredIn (at_place i) x.name q (decl.Func q f offset) → CompleteRoutine tables q true f → Standing tables f.heading.result →
      IsSettable i s)
  result_by r x f offset q false e = not_set 348 x.at
  result_by r x f offset q true e =
      typed_if_clean (at_place nowhere) f.heading.result
      then λ t. clean_pure (settable (Some (result_access x.name (unwrap_or f.block []) offset t)))
      (λ g i fit d c s.
      let k = good_if (at_place i) f.heading.result t (g s) in
      let block : List PathStep = q ++ c.step ∷ [] in
      let around : take (length block) path ≡ block = ap (take (length block)) (sym fit.path) ∙ begins block r.path (subst (λ y. in_block r y ≡ true) c.block e) in
      let h : (heading_of tables (take (length block) path)).result ≡ Some k.0 =
      ap (λ y. (heading_of tables y).result) around ∙ ap (λ y. (heading_or_none y).result) c.is ∙ ap (λ y. y.result) c.heading ∙ k.1 in
      let outer : length block - 1 ≡ length q = omega (arith, length-append q (c.step ∷ [])) in
      let is : IsResult (at_place i) (located x.name block offset) k.0 =
      record {
        around = shorter block path around;
        result = h;
        function = f;
        declared = subst (λ y. declared_at (at_place i) y x.name ≡ Some (decl.Func (take y path) f offset)) (sym outer) (d.1 ∙ ap (λ y. Some (decl.Func y f offset)) (sym d.0));
        block = c.block ∙ ap Some (sym around);
      } in
      let is' : IsResult (at_place i) (located x.name (unwrap_or f.block []) offset) k.0 =
      subst (λ y. IsResult (at_place i) (located x.name (unwrap_or y []) offset) k.0) (sym c.block) is in
      (result_access x.name (unwrap_or f.block []) offset t, refl, refl, (k.0, k.2, (k.0, is', refl), tt)))

  other_param : (r : Region) (x : Identifier) (q : List PathStep) (p : _) (k : FormalKind) →
      Clean (answers_of tables) (other_target r x (Declared (decl.Param q (record p { kind = k })))) (λ s. (i : Inner) → IsSettable i s)
  other_param r x q p formal.Function = not_set 348 x.at
  other_param r x q p k = not_set 305 x.at

  other_target_clean : (r : Region) (x : Identifier) (u : Use) →
      Clean (answers_of tables) (other_target r x u) (λ s. (i : Inner) → Fits (at_place i) r → GoodUse (at_place i) x.name u → IsSettable i s)
  other_target_clean r x (Declared (decl.Func q f offset)) = result_by r x f offset q (in_block r f.block) refl
      so λ s h i fit g. h i fit g.0 g.1 (result_standing tables f.heading.result g.2)
  other_target_clean r x (Declared (decl.Param q p)) = other_param r x q p p.kind so λ s h i fit g. h i
  other_target_clean r x (Declared (decl.Required n)) = not_set (cond (is_required_function n) 348 305) x.at
  other_target_clean r x u = not_set 305 x.at

  threatened_good : (a : Accessed) (b : Bool) (i : Inner) → b ≡ false → GoodAccess (at_place i) a → IsSettable i (unless_threatened a b)
  threatened_good a true i e g = true_false e
  threatened_good a false i e g = (a, refl, refl, g)

  name_target_by_clean : (r : Region) (x : Identifier) (u : Use) (o : Option Accessed) →
      Clean (answers_of tables) (name_target_by r x u o) (λ s. (i : Inner) → Fits (at_place i) r → GoodUse (at_place i) x.name u → GoodAccessIf (at_place i) u o → IsSettable i s)
  name_target_by_clean r x u (Some a) = threat_clean r x.at a.entire then λ b. clean_pure (unless_threatened a b) (λ e i fit g h. threatened_good a b i e h.0)
  name_target_by_clean r x u None = other_target_clean r x u so λ s h i fit g k. h i fit g

  name_target_clean : (r : Region) (x : Identifier) (u : Option Use) →
      Clean (answers_of tables) (name_target r x u) (λ s. (i : Inner) → Fits (at_place i) r → GoodUseIf (at_place i) x.name u → IsSettable i s)
  name_target_clean r x None = clean_pure not_settable (λ i fit g. absurd g)
  name_target_clean r x (Some u) = variable_here x.name u then λ o. name_target_by_clean r x u o so λ s h k i fit g. h i fit g (k i g)

  accessed_one : (i : Inner) (r : Region) (a : PlainAccess) →
      Clean (answers_of tables) (accessed r a) (λ v. Fits (at_place i) r → ShortSelectors a.selectors → AccessedIf (at_place i) v)
  accessed_one i r a =
      variable_found (at_place i) complete r a.name
      then λ v. start_clean (at_place i) complete r (Fits (at_place i) r
      × ShortSelectors a.selectors) a.selectors v (λ t g tag. selected_clean (at_place i) complete r a.selectors t g tag)
      then λ s. clean_pure (selected_variable v s) (λ f h p q. f (p, q) (h p))

  accessed_clean : (r : Region) (a : PlainAccess) →
      Clean (answers_of tables) (accessed r a) (λ v. (i : Inner) → Fits (at_place i) r → ShortSelectors a.selectors → AccessedIf (at_place i) v)
  accessed_clean r a = clean_forall nowhere (λ i. accessed_one i r a)

  settable_good : (i : Inner) (v : Option Accessed) → AccessedIf (at_place i) v → IsSettable i (settable v)
  settable_good i None g = absurd g
  settable_good i (Some a) g = (a, refl, refl, g)

  target_by : (r : Region) (x : Identifier) (steps : PlainSelectors) →
      Clean (answers_of tables) (target r (record { name = x; selectors = steps })) (λ s. (i : Inner) → Fits (at_place i) r → ShortSelectors steps → IsSettable i s)
  target_by r x NoSelectors = use_here r x then λ u. name_target_clean r x u so λ s f h i fit q. f i fit (h i fit)
  target_by r x steps = accessed_clean r (record { name = x; selectors = steps }) then λ v. clean_pure (settable v) (λ h i fit q. settable_good i v (h i fit q))

  assignment_clean : (at : ℕ) (t v : Option Typed) → Clean (answers_of tables) (assignment at t v) (λ u. (s : Typed) → t ≡ Some s → unless_missing assignable v (Some s) ≡ true)
  assignment_clean at None v = clean_pure tt (λ s e. none_some e)
  assignment_clean at (Some t) v = by (holds_file t.shape)
    where
      by : (b : Bool) →
          Clean (answers_of tables) (cond b (report 320 at) (report_if (not (unless_missing assignable v (Some t))) 334 at)) (λ u. (s : Typed) → Some t ≡ Some s →
          unless_missing assignable v (Some s) ≡ true)
      by true = clean_report 320 at
      by false = clean_report_if (not (unless_missing assignable v (Some t))) 334 at
          so λ u e s p. subst (λ y. unless_missing assignable v y ≡ true) p (holds (unless_missing assignable v (Some t)) e)

  assign_good : (i : Inner) (start : ℕ) (s : Settable) (v : Option Typed) (node : PlainTypedExpr) → IsSettable i s →
      ((t : Typed) → s.typed ≡ Some t → unless_missing assignable v (Some t) ≡ true) → GoodValue (at_place i) v node → CheckedStatement (at_place i) (assign_node start s node)
  assign_good i start s v node k f g =
      let a = k.0 in
      let id = k.3.0 in
      let t : Typed = record { id = Some id; shape = k.3.1.0 } in
      let x = fits_value (at_place i) complete v node t (f t (k.2 ∙ k.3.1.1)) g k.3.1.2 in
      let made : CheckedStatement (at_place i) (typed_tree.Assign start (record { access = a.access; check = check_if a.typed; tagging = a.tagging }) node) = (
        x.0,
        record {
          of = id;
          leads = k.3.2;
          sorted = (k.3.1.0, k.3.1.2, sym x.1);
          tested = (k.3.1.0, k.3.1.2, sym (ap check_if k.3.1.1));
          tagged = tag_field tables k.3.2.0 a.tagging a.access.selectors k.3.3;
        },
        fits_holds (at_place i) v node id k.3.1.0 (f t (k.2 ∙ k.3.1.1)) g k.3.1.2,
      ) in
      subst (λ y. CheckedStatement (at_place i) (assign_node start (record { typed = s.typed; access = y }) node)) (sym k.1) made

  assign_clean : (p : Place) (start : ℕ) (a : PlainAccess) (at : ℕ) (x : PlainExpr) →
      Clean (answers_of tables) (assign p start a at x) (λ t. (i : Inner) → PlaceFits tables path i p → ShortSelectors a.selectors × ShortExpr x → CheckedStatement (at_place i) t)
  assign_clean p start a at x =
      target_by p.region a.name a.selectors
      then λ s. expression_here p.region x
      then λ v. assignment_clean at s.typed v.typed
      then λ u. clean_pure (assign_node start s v.node) (λ e f g i fit q. assign_good i start s v.typed v.node (g i fit.region q.0) e (f i fit.region q.1).0)

  -- ---- procedure statements

  required_good : (i : Inner) (start : ℕ) (o : Option PlainRequiredCall) → CalledIf (at_place i) o → CheckedStatement (at_place i) (required_node start o)
  required_good i start None g = g
  required_good i start (Some c) g = g

  no_procedure_clean : {P : PlainTypedStatement → Type 0} (start at : ℕ) (js : List Judged) → Clean (answers_of tables) (no_procedure start at js) P
  no_procedure_clean start at js = clean_refused {P = λ u. ⊥} 305 at (no_widths_clean js) then λ u. clean_pure (typed_tree.Wrong start) (λ n. absurd n)

  required_by : (i : Inner) (start at : ℕ) (js : List Judged) (o : Option Called) →
      CleanIf (at_place i) complete o (λ c. GoodActuals (at_place i) [] js → CalledIf (at_place i) c) →
      Clean (answers_of tables) (required_statement start at js o) (λ t. GoodActuals (at_place i) [] js → CheckedStatement (at_place i) t)
  required_by i start at js None c = no_procedure_clean start at js
  required_by i start at js (Some m) c = c then λ o. clean_pure (required_node start o) (λ f g. required_good i start o (f g))

  call_good : (i : Inner) (start : ℕ) (g : Given) (o : Option PlainTypedActuals) → g.kind ≡ formal.Procedure → GoodGiven (at_place i) g →
      ActualsIf (at_place i) complete g.heading o → CheckedStatement (at_place i) (call_node start g o)
  call_good i start g None k h a = absurd a
  call_good i start g (Some a) k h s =
      subst (λ y. CheckedStatement (at_place i) (call_node start (record g { callee = y }) (Some a))) (sym h.is)
      (g.heading, subst (λ y. CalleeHas (at_place i) h.callee y g.heading) k h.has, s)

  procedure_by : (i : Inner) (r : Region) (start at : ℕ) (js : List Judged) (g : Given) (k : FormalKind) →
      Clean (answers_of tables) (procedure_statement r start at js (Some (record g { kind = k }))) (λ t. GoodGiven (at_place i) (record g { kind = k }) →
      GoodActuals (at_place i) (procedural_in formal.Procedure (Some (record g { kind = k })) (length js)) js → CheckedStatement (at_place i) t)
  procedure_by i r start at js g formal.Procedure =
      actuals_of_clean (at_place i) complete r at g.heading js
      then λ o. clean_pure (call_node start (record g { kind = formal.Procedure }) o)
      (λ f h a. call_good i start (record g { kind = formal.Procedure }) o refl h (f a h.complete.0))
  procedure_by i r start at js g k = no_procedure_clean start at js

  procedure_clean : (i : Inner) (r : Region) (start at : ℕ) (js : List Judged) (o : Option Given) →
      Clean (answers_of tables) (procedure_statement r start at js o) (λ t. GivenOrNot (at_place i) o →
      GoodActuals (at_place i) (procedural_in formal.Procedure o (length js)) js → CheckedStatement (at_place i) t)
  procedure_clean i r start at js None = no_procedure_clean start at js
  procedure_clean i r start at js (Some g) = procedure_by i r start at js g g.kind

  called_clean : (i : Inner) (r : Region) (start : ℕ) (x : Identifier) (js : List Judged) (u : Option Use) →
      Clean (answers_of tables) (called r start x js u) (λ t. GoodUseIf (at_place i) x.name u → GoodActuals (at_place i) (procedural_of formal.Procedure x u (length js)) js →
      CheckedStatement (at_place i) t)
  called_clean i r start x js None = no_widths_clean js then λ u. clean_pure (typed_tree.Wrong start) (λ p g. absurd g)
  called_clean i r start x js (Some (Declared (decl.Required n))) =
      required_by i start x.at js (required_call r x.at n js) (required_call_clean (at_place i) complete r x.at n js) so λ t f g a. f a
  called_clean i r start x js (Some u) = procedure_clean i r start x.at js (given_use x.name u) so λ t f g a. f (given_good (at_place i) x.name u g) a

  call_one : (i : Inner) (p : Place) (start : ℕ) (x : Identifier) (given : PlainActuals) →
      Clean (answers_of tables) (call p start x given) (λ t. PlaceFits tables path i p → ShortActuals given → CheckedStatement (at_place i) t)
  call_one i p start x given =
      used_clean (at_place i) complete p.region x
      then λ u. actuals_clean (at_place i) complete p.region (procedural_of formal.Procedure x u (count given)) given
      then λ js. called_clean i p.region start x js u
      so λ t f h g fit q. let a = h fit.region q in f (g fit.region) (subst (λ n. GoodActuals (at_place i) (procedural_of formal.Procedure x u n) js) (sym a.0) a.1)

  call_clean : (p : Place) (start : ℕ) (x : Identifier) (given : PlainActuals) →
      Clean (answers_of tables) (call p start x given) (λ t. (i : Inner) → PlaceFits tables path i p → ShortActuals given → CheckedStatement (at_place i) t)
  call_clean p start x given = clean_forall nowhere (λ i. call_one i p start x given)

  -- ---- goto statements

  lead_clean : (ok : Bool) (s : LabelStanding) (at : ℕ) → Clean (answers_of tables) (may_lead ok s at) (λ u. (s ≡ standing.NotOnce → ⊥) → ok ≡ true)
  lead_clean ok standing.NotOnce at = clean_pure tt (λ h. absurd (h refl))
  lead_clean ok standing.Inner at = clean_report_if (not ok) 310 at so λ u e h. holds ok e
  lead_clean ok standing.Outermost at = clean_report_if (not ok) 310 at so λ u e h. holds ok e

  is_outermost-eq : (s : LabelStanding) → is_outermost s ≡ true → s ≡ standing.Outermost
  is_outermost-eq standing.Outermost e = refl
  is_outermost-eq s e = false_true e

  outer_label_clean : (label at : ℕ) (s : Seen) →
      Clean (answers_of tables) (outer_label at s) (λ d. (i : Inner) → OuterOnce tables path → GoodSeen (at_place i) (label_name label) s → CheckedGoto (at_place i) d label)
  outer_label_clean label at (see.Is (decl.Label q s)) =
      lead_clean (is_outermost s) s at
      then λ u. clean_pure (length q)
      (λ f i o g. inr (
        shorter q path g.0,
        g.1 ∙ ap (λ y. Some (decl.Label y s)) (sym g.0)
            ∙ ap (λ y. Some (decl.Label (take (length q) path) y)) (is_outermost-eq s (f (o (length q) (label_name label) q s g.1))),
      ))
  outer_label_clean label at s = clean_report {P = λ u. ⊥} 306 at then λ u. clean_pure 0 (λ n. absurd n)

  label_by : (p : Place) (n : NumberLeaf) (b : Bool) → list_any (has_value n.value) p.own.labels ≡ b →
      Clean (answers_of tables) (cond b (own_label p n) (lift (find_name (label_name n.value) (record { path = p.region.path; ordinal = n.at })) >>= outer_label n.at))
      (λ d. (i : Inner) → PlaceFits tables path i p → CheckedGoto (at_place i) d n.value)
  label_by p n true e =
      lead_clean (list_any (nat_eq n.value) p.labels) (standing_of (statements_of_part p.own.statements) n.value) n.at
      then λ u. clean_pure (length p.region.path)
      (λ f i fit. inl (ap length fit.region.path, subst (λ y. list_any (nat_eq n.value) y ≡ true) (sym fit.labels) (f (fit.once n.value e))))
  label_by p n false e =
      clean_lift (find_name (label_name n.value) (record { path = p.region.path; ordinal = n.at }))
      then λ s. outer_label_clean n.value n.at s
      so λ d f g i fit. f i fit.outer
      (subst (GoodSeen (at_place i) (label_name n.value)) (sym g)
      (good_seen (at_place i) complete (label_name n.value) (record { path = p.region.path; ordinal = n.at }) fit.region.path))

  goto_clean : (p : Place) (start : ℕ) (n : NumberLeaf) →
      Clean (answers_of tables) (goto p start n) (λ t. (i : Inner) → PlaceFits tables path i p → CheckedStatement (at_place i) t)
  goto_clean p start n = ranged then λ d. clean_pure (typed_tree.Goto start d n.value) (λ f i fit. f i fit)
    where
      ranged : Clean (answers_of tables)
          (label_range n >>=
          (λ u. cond (list_any (has_value n.value) p.own.labels) (own_label p n)
          (lift (find_name (label_name n.value) (record { path = p.region.path; ordinal = n.at })) >>= outer_label n.at))) (λ d. (i : Inner) → PlaceFits tables path i p →
          CheckedGoto (at_place i) d n.value)
      ranged = clean_report_if _ 311 n.at then λ u. label_by p n (list_any (has_value n.value) p.own.labels) refl so λ d f e. f

  goto_plain : (p : Place) (start : ℕ) (n : NumberLeaf) →
      Clean (answers_of tables) (goto p start n) (λ t. (ts : PlainTypedStatements) → outermost_labels (typed_tree.Sequence t ts) ≡ outermost_labels ts)
  goto_plain p start n = any_bind (clean_report_if _ 311 n.at) (λ u. label_by p n (list_any (has_value n.value) p.own.labels) refl so λ d f. tt)
      then λ d. clean_pure (typed_tree.Goto start d n.value) (λ f ts. refl)

  -- ---- case statements

  index_clean : (at : ℕ) (t : Option Typed) →
      Clean (answers_of tables) (case_index at t) (λ u. (i : Inner) (node : PlainTypedExpr) → GoodValue (at_place i) t node → OrdinalExpr (at_place i) node)
  index_clean at None = clean_pure None (λ i node g. absurd g)
  index_clean at (Some t) = clean_report_if (not (is_some (ordinal t))) 318 at
      then λ u. clean_pure (host_by (ordinal t)) (λ e i node g. ordinal_value (at_place i) t node g (some_ordinal (ordinal t) t.shape (holds (is_some (ordinal t)) e)))

  signed_any : (s : Option Sign) (v : Option ConstantValue) → Clean (answers_of tables) (signed s v) Any
  signed_any None v = clean_pure v tt
  signed_any (Some s) None = clean_pure None tt
  signed_any (Some s) (Some (value.Ordinal type.Integer n)) = clean_pure _ tt
  signed_any (Some s) (Some v) = clean_refuse 322 s.at

  constant_use_any : (at : ℕ) (u : Option Use) → Clean (answers_of tables) (constant_use at u) Any
  constant_use_any at None = clean_pure None tt
  constant_use_any at (Some (Declared (decl.Const q v))) = clean_pure v tt
  constant_use_any at (Some (Declared (decl.Required name.False))) = clean_pure _ tt
  constant_use_any at (Some (Declared (decl.Required name.True))) = clean_pure _ tt
  constant_use_any at (Some (Declared (decl.Required name.Maxint))) = clean_pure _ tt
  constant_use_any at (Some u) = clean_refuse 305 at

  constant_any : (r : Region) (c : Constant) → Clean (answers_of tables) (constant (used r) c) Any
  constant_any r (constants.Number s n) = signed_any s (Some (integer_constant n.value))
  constant_any r (constants.Name s x) = any_bind (any_bind (use_here r x) (λ u. constant_use_any x.at u)) (λ v. signed_any s v)
  constant_any r (constants.Text s) = clean_pure _ tt

  selecting_by_any : (host : Option TypeId) (at : ℕ) (s : Selecting) (v : Option ConstantValue) → Clean (answers_of tables) (selecting_by host at s v) Any
  selecting_by_any host at s None = clean_pure s tt
  selecting_by_any host at s (Some v) =
      any_bind (clean_report_if (not (constant_fits host v)) 324 at)
      (λ u. any_bind (clean_report_if (list_any (same_constant v) s.known) 325 at) (λ u. clean_pure (record { values = s.values ++ numbers v; known = v ∷ s.known }) tt))

  selecting_any : (r : Region) (host : Option TypeId) (cs : List Constant) (s : Selecting) → Clean (answers_of tables) (selecting (used r) host cs s) Any
  selecting_any r host [] s = clean_pure s tt
  selecting_any r host (c ∷ cs) s = any_bind (any_bind (constant_any r c) (λ v. selecting_by_any host (first_of_constant c) s v)) (λ x. selecting_any r host cs x)

  -- ---- for statements

  -- a control variable of the block, with its type
  pub record IsControl (i : Inner) (c : Control) : Type 0 where
    pub located : Located
    pub variable : c.variable ≡ Some located
    pub bounds : Bounds
    pub has_bounds : c.bounds ≡ Some bounds
    pub typed : Typed
    pub has_type : c.typed ≡ Some typed
    pub good : GoodTyped tables typed
    pub is_ordinal : ordinal typed ≡ Some bounds
    pub of : TypeId
    pub own_variable : IsOwnVariable (at_place i) located of
    pub own : located.depth ≡ length path
    pub tested : HasCheck (at_place i) of (check.Range bounds.low bounds.high)

  no_control_clean : {P : Control → Type 0} (code at : ℕ) → Clean (answers_of tables) (report code at >> pure no_control) P
  no_control_clean code at = clean_report {P = λ u. ⊥} code at then λ u. clean_pure no_control (λ n. absurd n)

  refused_control_clean : {P : Control → Type 0} (at : ℕ) (t : Option Typed) → Clean (answers_of tables) (refused_control at t) P
  refused_control_clean at t = two then λ u. clean_pure no_control (λ n. absurd n)
    where
      two : Clean (answers_of tables) (report_if (not (ordinal_if t)) 318 at >> report 346 at) (λ u. ⊥)
      two = clean_report_if (not (ordinal_if t)) 318 at then λ u. clean_report 346 at

  ordinal_of : (o : Option Bounds) → is_some o ≡ true → (b : Bounds) × (o ≡ Some b)
  ordinal_of None e = false_true e
  ordinal_of (Some b) e = (b, refl)

  control_good : (i : Inner) (r : Region) (x : Identifier) (q : List PathStep) (v : Variable) (a : Accessed) (threatened : Bool) → threatened ≡ false →
      ordinal_if a.typed ≡ true → same_path q r.path ≡ true → Fits (at_place i) r → DeclaredIn (at_place i) x.name q (decl.Var q v) → (c : TypeId) → v.of ≡ Some c →
      IsType (at_place i) a.typed c → IsControl i (control_of threatened x q v.offset a.typed)
  control_good i r x q v a true t o s fit d c e k = true_false t
  control_good i r x q v a false t o s fit d c e k =
      let y : Typed = record { id = Some c; shape = k.0 } in
      let b = ordinal_of (ordinal y) (subst (λ z. ordinal_if z ≡ true) k.1 o) in
      let known : bounds_if a.typed ≡ Some b.0 = ap bounds_if k.1 ∙ b.1 in
      record {
        located = located x.name q v.offset;
        variable = refl;
        bounds = b.0;
        has_bounds = known;
        typed = y;
        has_type = ap (typed_bounds a.typed) known ∙ k.1;
        good = k.2;
        is_ordinal = b.1;
        of = c;
        own_variable = record { variable = v; declared = d.1 ∙ ap (λ z. Some (decl.Var z v)) (sym d.0); of = e; offset = refl; around = shorter q path d.0 };
        own = ap length (same_path-eq q r.path s ∙ fit.path);
        tested = (k.0, k.2, ap (λ z. check_by z k.0) b.1);
      }

  entire_by : (r : Region) (x : Identifier) (q : List PathStep) (v : Variable) (a : Accessed) (b : Bool) → same_path q r.path ≡ b →
      Clean (answers_of tables) (cond b (own_control r x a v.offset (record { name = x.name; path = q; control = v.control })) (refused_control x.at a.typed))
      (λ c. (i : Inner) → Fits (at_place i) r → GoodUse (at_place i) x.name (Declared (decl.Var q v)) → GoodAccessIf (at_place i) (Declared (decl.Var q v)) (Some a) →
      IsControl i c)
  entire_by r x q v a false e = refused_control_clean x.at a.typed
  entire_by r x q v a true e =
      threat_clean r x.at (Some (record { name = x.name; path = q; control = v.control }))
      then λ t. clean_report_if (not (t || ordinal_if a.typed)) 318 x.at
      then λ u. clean_pure (control_of t x q v.offset a.typed)
      (λ o p i fit g k. control_good i r x q v a t p (unthreatened t (ordinal_if a.typed) p o) e fit g.0 k.1.0 k.1.1 k.1.2)

  variable_control_clean : (r : Region) (x : Identifier) (u : Use) (a : Accessed) →
      Clean (answers_of tables) (variable_control r x u a) (λ c. (i : Inner) → Fits (at_place i) r → GoodUse (at_place i) x.name u → GoodAccessIf (at_place i) u (Some a) →
      IsControl i c)
  variable_control_clean r x (Declared (decl.Var q v)) a = entire_by r x q v a (same_path q r.path) refl
  variable_control_clean r x u a = refused_control_clean x.at a.typed

  control_by_clean : (r : Region) (x : Identifier) (u : Use) (o : Option Accessed) →
      Clean (answers_of tables) (control_by r x u o) (λ c. (i : Inner) → Fits (at_place i) r → GoodUse (at_place i) x.name u → GoodAccessIf (at_place i) u o → IsControl i c)
  control_by_clean r x u None = no_control_clean 305 x.at
  control_by_clean r x u (Some a) = variable_control_clean r x u a

  control_clean : (r : Region) (x : Identifier) (u : Option Use) →
      Clean (answers_of tables) (control r x u) (λ c. (i : Inner) → Fits (at_place i) r → GoodUseIf (at_place i) x.name u → IsControl i c)
  control_clean r x None = clean_pure no_control (λ i fit g. absurd g)
  control_clean r x (Some u) = variable_here x.name u then λ o. control_by_clean r x u o so λ c f h i fit g. f i fit g (h i g)

  head_clean : (r : Region) (x : Identifier) → Clean (answers_of tables) (used r x >>= control r x) (λ c. (i : Inner) → Fits (at_place i) r → IsControl i c)
  head_clean r x = use_here r x then λ u. control_clean r x u so λ c f h i fit. f i fit (h i fit)

  limit_clean : (p : Place) (t : Option Typed) (x : PlainExpr) →
      Clean (answers_of tables) (limit p t x) (λ n. (i : Inner) → Fits (at_place i) p.region → ShortExpr x → (s : Typed) → t ≡ Some s → GoodTyped tables s →
      sort_of s ≡ sort.Ordinal → OrdinalExpr (at_place i) n)
  limit_clean p t x =
      expression_here p.region x
      then λ v. clean_report_if (not (unless_missing assignable v.typed t)) 334 (first_of_expression x)
      then λ u. clean_pure v.node
      (λ e f i fit q s k g o.
      let y = fits_value (at_place i) complete v.typed v.node s (subst (λ z. unless_missing assignable v.typed z ≡ true) k (holds (unless_missing assignable v.typed t) e))
      (f i fit q).0 g in
      (y.0, y.1 ∙ o))

  controlled_fits : (i : Inner) (p : Place) (n : List ℕ) → PlaceFits tables path i p → PlaceFits tables path i (controlled_here n p)
  controlled_fits i p n f =
      record { region = record { path = f.region.path; count = f.region.count; opened = f.region.opened }; labels = f.labels; once = f.once; outer = f.outer }

  controlling_by : (i : Inner) (c : Control) (o : Option Located) (head : PlainForHead) (p : Place) → PlaceFits tables path i p →
      PlaceFits tables path i (controlling (record c { variable = o }) head p)
  controlling_by i c None head p f = f
  controlling_by i c (Some l) head p f = controlled_fits i p head.variable.name f

  controlling_fits : (i : Inner) (c : Control) (head : PlainForHead) (p : Place) → PlaceFits tables path i p → PlaceFits tables path i (controlling c head p)
  controlling_fits i c head p f = controlling_by i c c.variable head p f

  for_good : (i : Inner) (start : ℕ) (c : Control) (head : PlainForHead) (first last : PlainTypedExpr) (t : PlainTypedStatement) → IsControl i c →
      OrdinalExpr (at_place i) first → OrdinalExpr (at_place i) last → CheckedStatement (at_place i) t →
      CheckedStatement (at_place i) (for_by start c.variable c.bounds head first last t)
  for_good i start c head first last t k f l s =
      subst (λ y. CheckedStatement (at_place i) (for_by start y c.bounds head first last t)) (sym k.variable)
      (subst (λ y. CheckedStatement (at_place i) (for_by start (Some k.located) y head first last t)) (sym k.has_bounds)
      (record { of = k.of; variable = k.own_variable; own = k.own; tested = k.tested; first = f; last = l }, s))

  control_sort : (i : Inner) (c : Control) (k : IsControl i c) → sort_of k.typed ≡ sort.Ordinal
  control_sort i c k = some_ordinal (ordinal k.typed) k.typed.shape (ap is_some k.is_ordinal)

  -- ---- with statements

  inside : Inner → TypeId → Inner
  inside i t = record i { opened = i.opened ++ t ∷ [] }

  record_shape : (t : Typed) → is_some (record_by (Some t)) ≡ true → (r : RecordShape) × (t.shape ≡ shape.Rec r) × (record_by (Some t) ≡ Some r)
  record_shape t e = by t.id t.shape e
    where
      by : (i : Option TypeId) (s : Shape) → is_some (record_by (Some (record { id = i; shape = s }))) ≡ true → (r : RecordShape) × (s ≡ shape.Rec r)
          × (record_by (Some (record { id = i; shape = s })) ≡ Some r)
      by i (shape.Rec r) e = (r, refl, refl)
      by i s e = false_true e

  opened_inside : (i : Inner) (t : TypeId) (os : List Opened) → OpenedFit (at_place i) os → OpenedFit (at_place (record i { opened = i.opened ++ t ∷ [] })) os
  opened_inside i t [] g = tt
  opened_inside i t (o ∷ os) g = ((g.0.0, g.0.1, g.0.2, slice_get_front i.opened (t ∷ []) o.number g.0.1 g.0.3, g.0.4), opened_inside i t os g.1)

  -- the region inside a record that is opened
  open_fits : (i : Inner) (r : Region) (t : Option Typed) (id : TypeId) (s : RecordShape) → Fits (at_place i) r → record_by t ≡ Some s →
      HasShape (at_place i) id (shape.Rec s) → Fits (at_place (record i { opened = i.opened ++ id ∷ [] })) (open_record t r)
  open_fits i r t id s f e h =
      record {
        path = f.path;
        count = ap suc f.count ∙ sym (omega (arith, length-append i.opened (id ∷ [])));
        opened = ((s, id, e, subst (λ k. slice_get (i.opened ++ id ∷ []) k ≡ Some id) (sym f.count) (slice_get_seam i.opened id []), h), opened_inside i id r.opened f.opened);
      }

  -- records that are opened one after another
  pub record AreOpened (i : Inner) (o : Opening) : Type 0 where
    pub types : List TypeId
    pub checked : CheckedRecords (at_place i) o.records types
    pub region : Fits (at_place (record i { opened = i.opened ++ types })) o.region

  open_good : (i : Inner) (r : Region) (v : Option Accessed) (o : Opening) → AccessedIf (at_place i) v → is_record (typed_access v) ≡ true → Fits (at_place i) r →
      ((j : Inner) → Fits (at_place j) (open_record (typed_access v) r) → AreOpened j o) → AreOpened i (record o { records = opened_tree v ++ o.records })
  open_good i r None o g e f k = absurd g
  open_good i r (Some a) o g e f k =
      let id = g.0 in
      let t : Typed = record { id = Some id; shape = g.1.0 } in
      let s = record_shape t (subst (λ y. is_record y ≡ true) g.1.1 e) in
      let h : HasShape (at_place i) id (shape.Rec s.0) = subst (λ y. HasShape (at_place i) id y) s.1 g.1.2 in
      let m = k (record i { opened = i.opened ++ id ∷ [] }) (open_fits i r a.typed id s.0 f (ap record_by g.1.1 ∙ s.2) h) in
      record {
        types = id ∷ m.types;
        checked = (g.2, (s.0, h), m.checked);
        region = subst (λ y. Fits (at_place (record i { opened = y })) o.region) (append_assoc i.opened (id ∷ []) m.types) m.region;
      }

  open_clean : (r : Region) (list : List PlainAccess) →
      Clean (answers_of tables) (open_records r list) (λ o. (i : Inner) → Fits (at_place i) r → ShortAccesses list → AreOpened i o)
  open_clean r [] =
      clean_pure (record { region = r; records = [] })
      (λ i f q. record { types = []; checked = tt; region = subst (λ y. Fits (at_place (record i { opened = y })) r) (sym (append-nil i.opened)) f })
  open_clean r (a ∷ more) =
      accessed_clean r a
      then λ v. clean_report_if (not (is_record (typed_access v))) 336 a.name.at
      then λ u. open_clean (open_record (typed_access v) r) more
      then λ o. clean_pure (record o { records = opened_tree v ++ o.records })
      (λ k e g i f q. open_good i r v o (g i f q.0) (holds (is_record (typed_access v)) e) f (λ j fit. k j fit q.1))

  -- ---- labels of sequences

  -- The labels of the statements of a sequence are those of its tree.
  abbrev pub LabelsAre : PlainStatement → PlainTypedStatement → Type 0
  LabelsAre s t = (ss : PlainStatements) (ts : PlainTypedStatements) → outermost_labels ts ≡ map (λ n. n.value) (outermost_prefixes ss) →
      outermost_labels (typed_tree.Sequence t ts) ≡ map (λ n. n.value) (outermost_prefixes (Sequence s ss))

  label_fits : (i : Inner) (p : Place) (n : ℕ) → PlaceFits tables path i p → PlaceFits tables path (record i { labels = n ∷ i.labels }) (label_here n p)
  label_fits i p n f =
      record { region = record { path = f.region.path; count = f.region.count; opened = f.region.opened }; labels = ap (λ y. n ∷ y) f.labels; once = f.once; outer = f.outer }

  pub labels_fit : (i : Inner) (p : Place) (ss : PlainStatements) (ts : PlainTypedStatements) → outermost_labels ts ≡ map (λ n. n.value) (outermost_prefixes ss) →
      PlaceFits tables path i p → PlaceFits tables path (record i { labels = outermost_labels ts ++ i.labels }) (labels_here ss p)
  labels_fit i p ss ts e f =
      record {
        region = record { path = f.region.path; count = f.region.count; opened = f.region.opened };
        labels = ap (λ y. y ++ i.labels) e ∙ ap (λ y. map (λ n. n.value) (outermost_prefixes ss) ++ y) f.labels;
        once = f.once;
        outer = f.outer;
      }

  region_fits : (i : Inner) (p : Place) (r : Region) (ts : List TypeId) → Fits (at_place (record i { opened = i.opened ++ ts })) r → PlaceFits tables path i p →
      PlaceFits tables path (record i { opened = i.opened ++ ts }) (record p { region = r })
  region_fits i p r ts g f = record { region = g; labels = f.labels; once = f.once; outer = f.outer }

  -- a statement without a label
  abbrev pub Unlabelled : PlainTypedStatement → Type 0
  Unlabelled t = (ts : PlainTypedStatements) → outermost_labels (typed_tree.Sequence t ts) ≡ outermost_labels ts

  assign_plain : (p : Place) (start : ℕ) (a : PlainAccess) (at : ℕ) (x : PlainExpr) → Clean (answers_of tables) (assign p start a at x) Unlabelled
  assign_plain p start a at x =
      target_by p.region a.name a.selectors
      then λ s. expression_here p.region x
      then λ v. assignment_clean at s.typed v.typed
      then λ u. clean_pure (assign_node start s v.node) (λ e f g. by s.access s.typed v.node)
    where
      by : (o : Option Accessed) (t : Option Typed) (node : PlainTypedExpr) → Unlabelled (assign_node start (record { typed = t; access = o }) node)
      by None t node ts = refl
      by (Some o) t node ts = refl

  required_plain : (start : ℕ) (o : Option PlainRequiredCall) → Unlabelled (required_node start o)
  required_plain start None ts = refl
  required_plain start (Some c) ts = refl

  call_plain_by : (start : ℕ) (g : Given) (c : Option Callee) (o : Option PlainTypedActuals) → Unlabelled (call_node start (record g { callee = c }) o)
  call_plain_by start g c None ts = refl
  call_plain_by start g None (Some a) ts = refl
  call_plain_by start g (Some c) (Some a) ts = refl

  required_statement_plain : (start at : ℕ) (js : List Judged) (o : Option Called) → CleanIf (at_place nowhere) complete o Any →
      Clean (answers_of tables) (required_statement start at js o) Unlabelled
  required_statement_plain start at js None c = no_procedure_clean start at js
  required_statement_plain start at js (Some m) c = c then λ o. clean_pure (required_node start o) (λ f. required_plain start o)

  any_if : {A : Type 0} (P : A → Type 0) (o : Option (Rule A)) → CleanIf (at_place nowhere) complete o P → CleanIf (at_place nowhere) complete o Any
  any_if P None c = tt
  any_if P (Some m) c = c so λ x p. tt

  procedure_plain_by : (r : Region) (start at : ℕ) (js : List Judged) (g : Given) (k : FormalKind) →
      Clean (answers_of tables) (procedure_statement r start at js (Some (record g { kind = k }))) Unlabelled
  procedure_plain_by r start at js g formal.Procedure =
      actuals_of_clean (at_place nowhere) complete r at g.heading js
      then λ o. clean_pure (call_node start (record g { kind = formal.Procedure }) o) (λ f. call_plain_by start (record g { kind = formal.Procedure }) g.callee o)
  procedure_plain_by r start at js g k = no_procedure_clean start at js

  procedure_plain : (r : Region) (start at : ℕ) (js : List Judged) (o : Option Given) → Clean (answers_of tables) (procedure_statement r start at js o) Unlabelled
  procedure_plain r start at js None = no_procedure_clean start at js
  procedure_plain r start at js (Some g) = procedure_plain_by r start at js g g.kind

  called_plain : (r : Region) (start : ℕ) (x : Identifier) (js : List Judged) (u : Option Use) → Clean (answers_of tables) (called r start x js u) Unlabelled
  called_plain r start x js None = no_widths_clean js then λ u. clean_pure (typed_tree.Wrong start) (λ p ts. refl)
  called_plain r start x js (Some (Declared (decl.Required n))) =
      required_statement_plain start x.at js (required_call r x.at n js)
      (any_if (λ c. GoodActuals (at_place nowhere) [] js →
      CalledIf (at_place nowhere) c) (required_call r x.at n js) (required_call_clean (at_place nowhere) complete r x.at n js))
  called_plain r start x js (Some u) = procedure_plain r start x.at js (given_use x.name u)

  call_plain : (p : Place) (start : ℕ) (x : Identifier) (given : PlainActuals) → Clean (answers_of tables) (call p start x given) Unlabelled
  call_plain p start x given =
      use_here p.region x
      then λ u. actuals_clean (at_place nowhere) complete p.region (procedural_of formal.Procedure x u (count given)) given
      then λ js. called_plain p.region start x js u so λ t f g h. f

  for_plain : (start : ℕ) (v : Option Located) (b : Option Bounds) (head : PlainForHead) (first last : PlainTypedExpr) (t : PlainTypedStatement) →
      Unlabelled (for_by start v b head first last t)
  for_plain start None b head first last t ts = refl
  for_plain start (Some l) None head first last t ts = refl
  for_plain start (Some l) (Some b) head first last t ts = refl

  -- ---- all statements

  abbrev Good : Place → PlainStatement → PlainTypedStatement → Type 0
  Good p s t = (i : Inner) → PlaceFits tables path i p → ShortStatement s → CheckedStatement (at_place i) t

  abbrev GoodAll : Place → PlainStatements → PlainTypedStatements → Type 0
  GoodAll p ss ts = (i : Inner) → PlaceFits tables path i p → ShortStatements ss → CheckedSequence (at_place i) ts

  mutual
    pub statement_clean : (p : Place) (label : Option ℕ) (s : PlainStatement) → Clean (answers_of tables) (statement p label s) (λ t. LabelsAre s t × Good p s t)
    statement_clean p label (Labelled n s) =
        statement_clean (label_here n.value p) (Some n.at) s
        then λ t. clean_pure (typed_tree.Labelled n.value t)
        (λ g. (λ ss ts e. ap (λ y. n.value ∷ y) e, λ i f q. g.1 (record i { labels = n.value ∷ i.labels }) (label_fits i p n.value f) q))
    statement_clean p label (Empty at) = clean_pure (typed_tree.Empty (start_or label at)) (λ ss ts e. e, λ i f q. tt)
    statement_clean p label (Assign a at x) = clean_both (assign_plain p (start_or label a.name.at) a at x) (assign_clean p (start_or label a.name.at) a at x)
        so λ t g. (λ ss ts e. g.0 ts ∙ e, g.1)
    statement_clean p label (Call x given) = clean_both (call_plain p (start_or label x.at) x given) (call_clean p (start_or label x.at) x given)
        so λ t g. (λ ss ts e. g.0 ts ∙ e, g.1)
    statement_clean p label (Goto at n) = clean_both (goto_plain p (start_or label at) n) (goto_clean p (start_or label at) n) so λ t g. (λ ss ts e. g.0 ts ∙ e, λ i f q. g.1 i f)
    statement_clean p label (Compound at more) =
        sequence_clean (labels_here more p) more
        then λ ts. clean_pure (typed_tree.Compound (start_or label at) ts)
        (λ g. (λ ss us e. e, λ i f q. g.1 (record i { labels = outermost_labels ts ++ i.labels }) (labels_fit i p more ts g.0 f) q))
    statement_clean p label (If at x s) =
        condition_clean p x
        then λ v. statement_clean p None s
        then λ t. clean_pure (typed_tree.If (start_or label at) v t) (λ g h. (λ ss ts e. e, λ i f q. (h i f.region q.0, g.1 i f q.1)))
    statement_clean p label (IfElse at x s s') =
        condition_clean p x
        then λ v. statement_clean p None s
        then λ t. statement_clean p None s'
        then λ t'. clean_pure (typed_tree.IfElse (start_or label at) v t t') (λ k g h. (λ ss ts e. e, λ i f q. (h i f.region q.0, g.1 i f q.1, k.1 i f q.2)))
    statement_clean p label (Case at x more) =
        expression_here p.region x
        then λ v. index_clean (first_of_expression x) v.typed
        then λ host. arms_clean p host (record { values = []; known = [] }) more
        then λ ts. clean_pure (typed_tree.Case (start_or label at) v.node ts) (λ k g h. (λ ss us e. e, λ i f q. (g i v.node (h i f.region q.0).0, k i f q.1)))
    statement_clean p label (While at x s) =
        condition_clean p x
        then λ v. statement_clean p None s
        then λ t. clean_pure (typed_tree.While (start_or label at) v t) (λ g h. (λ ss ts e. e, λ i f q. (h i f.region q.0, g.1 i f q.1)))
    statement_clean p label (Repeat at more x) =
        sequence_clean (labels_here more p) more
        then λ ts. condition_clean p x
        then λ v. clean_pure (typed_tree.Repeat (start_or label at) ts v)
        (λ h g. (λ ss us e. e, λ i f q. (g.2 q.0, g.1 (record i { labels = outermost_labels ts ++ i.labels }) (labels_fit i p more ts g.0 f) q.1, h i f.region q.2)))
    statement_clean p label (For at head s) =
        head_clean p.region head.variable
        then λ c. limit_clean p c.typed head.first
        then λ first. limit_clean p c.typed head.last
        then λ last. statement_clean (controlling c head p) None s
        then λ t. clean_pure (for_by (start_or label at) c.variable c.bounds head first last t)
        (λ b l k h. (
          λ ss ts e. for_plain (start_or label at) c.variable c.bounds head first last t ts ∙ e,
          λ i f q.
              let c' = h i f.region in
              for_good i (start_or label at) c head first last t c'
              (k i f.region q.0 c'.typed c'.has_type c'.good (control_sort i c c'))
              (l i f.region q.1 c'.typed c'.has_type c'.good (control_sort i c c'))
              (b.1 i (controlling_fits i c head p f) q.2),
        ))
    statement_clean p label (With at records s) =
        open_clean p.region records
        then λ o. statement_clean (record p { region = o.region }) None s
        then λ t. clean_pure (typed_tree.With (start_or label at) (length p.region.opened) o.records t)
        (λ b g. (
          λ ss ts e. e,
          λ i f q.
              let m = g i f.region q.0 in
              (m.types, f.region.count, m.checked, b.1 (record i { opened = i.opened ++ m.types }) (region_fits i p o.region m.types m.region f) q.1),
        ))

    pub sequence_clean : (p : Place) (ss : PlainStatements) →
        Clean (answers_of tables) (sequence p ss) (λ ts. (outermost_labels ts ≡ map (λ n. n.value) (outermost_prefixes ss)) × GoodAll p ss ts × (HasStatement ss → IsSequence ts))
    sequence_clean p NoStatements = clean_pure typed_tree.NoStatements (refl, (λ i f q. tt), λ n. n)
    sequence_clean p (Sequence s more) =
        statement_clean p None s
        then λ t. sequence_clean p more
        then λ ts. clean_pure (typed_tree.Sequence t ts) (λ g h. (h.0 more ts g.0, (λ i f q. (h.1 i f q.0, g.1 i f q.1)), λ n. tt))

    pub arms_clean : (p : Place) (host : Option TypeId) (known : Selecting) (more : PlainArms) →
        Clean (answers_of tables) (arms p host known more) (λ ts. (i : Inner) → PlaceFits tables path i p → ShortArms more → CheckedArms (at_place i) ts)
    arms_clean p host known NoArms = clean_pure typed_tree.NoArms (λ i f q. tt)
    arms_clean p host known (Arm cs s more) =
        selecting_any p.region host cs (record known { values = [] })
        then λ c. statement_clean p None s
        then λ t. arms_clean p host c more
        then λ ts. clean_pure (typed_tree.Arm c.values t ts) (λ g h u i f q. (h.1 i f q.0, g i f q.1))
