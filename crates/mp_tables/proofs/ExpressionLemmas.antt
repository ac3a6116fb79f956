-- Expressions: where no error is reported, the typed tree is checked, and has the sort of the type that was found.
use Rattle.std.proofs.Common.{◌≡◌, ℕ, ◌≤◌, ℤ, pos, Bool, true, false, cond, not, ◌||◌, List, [], ◌∷◌, Option, Some, None, refl, sym, ap, inl, inr, ◌∙◌, subst, length, is_some, arith}
use Rattle.std.specs.Prelude.{◌⊎◌}
use Rattle.mp_base.specs.declared.limits.TheConstants.{CELL_LIMIT, MAXINT}
use Rattle.mp_ast.specs.declared.leaves.Identifier.{Identifier}
use Rattle.mp_ast.specs.declared.leaves.Sign.{Sign}
use Rattle.mp_ast.specs.PlainExpressions.{PlainExpr, Number, Text, Nil, Access, Call, Inside, Not, Set, Product, Sum, Relation, PlainSelectors, NoSelectors, Index, Field, Follow, PlainActuals, NoActuals, Actual, ActualWithWidth, PlainMembers, NoMembers, Member, MemberRange, PlainOperations, NoOperations, Operation}
use Rattle.mp_ast.specs.declared.expressions.Operator.{Operator}
use Rattle.mp_ast.specs.FirstTokens.{first_of_expression}
use Rattle.mp_tables.specs.declared.types.TypeId.{TypeId}
use Rattle.mp_tables.specs.declared.types.TypeId.TheVariants as type
use Rattle.mp_tables.specs.declared.types.Bounds.{Bounds}
use Rattle.mp_tables.specs.declared.types.Shape.{Shape}
use Rattle.mp_tables.specs.declared.types.Shape.TheVariants as shape
use Rattle.mp_tables.specs.declared.types.Typed.{Typed}
use Rattle.mp_tables.specs.declared.headings.FormalKind.{FormalKind}
use Rattle.mp_tables.specs.declared.headings.FormalKind.TheVariants as formal
use Rattle.mp_tables.specs.declared.required.Required.{Required}
use Rattle.mp_tables.specs.declared.required.Required.TheVariants as name
use Rattle.mp_tables.specs.declared.declarations.ConstantValue.{ConstantValue}
use Rattle.mp_tables.specs.declared.declarations.ConstantValue.TheVariants as value
use Rattle.mp_tables.specs.declared.declarations.Decl.TheVariants as decl
use Rattle.mp_tables.specs.declared.typed_expressions.Sort.{Sort}
use Rattle.mp_tables.specs.declared.typed_expressions.Sort.TheVariants as sort
use Rattle.mp_tables.specs.declared.typed_statements.Tagging.{Tagging}
use Rattle.mp_tables.specs.PlainTypedExpressions.{PlainTypedExpr, PlainTypedSelectors, PlainTypedMembers}
use Rattle.mp_tables.specs.PlainTypedExpressions as tree
use Rattle.mp_tables.specs.Reports.{Rule, ◌>>=◌}
use Rattle.mp_tables.specs.RequiredNames.{integer_bounds, char_bounds}
use Rattle.mp_tables.specs.TypeRelations.{same, ordinal}
use Rattle.mp_tables.specs.Seen.{answers_of}
use Rattle.mp_tables.specs.Names.{Region, Use, Declared, used}
use Rattle.mp_tables.specs.Constants.{integer_constant, string_constant}
use Rattle.mp_tables.specs.Variables.{Accessed, Variability, Expressed, computed, wrong, unknown, loaded, Step, Selected, part_of}
use Rattle.mp_tables.specs.Operators.{operation, chained}
use Rattle.mp_tables.specs.Calls.{routine_use, Given, Judged, JudgedWidth, given_use}
use Rattle.mp_tables.specs.RequiredCalls.{required_value}
use Rattle.mp_tables.specs.Expressions.{constant_value, constant_if, is_signed_constant, signed_constant, sign_of, refused, value_or_refused, required_name_value, given_value, function_if, declared_value, value_by, name_value, variable_or_refused, variable_name, selected_variable, start_of, loaded_if, called_by, called, procedural_in, procedural_of, count, tail, is_first, Members, member_host, member_by, member, base_of, set_value, no_members, nil_type, judged, actual, expression, selected, actuals, operations, members}
use Rattle.mp_tables.specs.Checked.{Context, CheckedExpr, Selects, CheckedOperations, CheckedMembers, sort_in, operator_sort, last_field, OrdinalExpr}
use Rattle.mp_tables.specs.Checked.{Selected as Last}
use Rattle.mp_tables.specs.Complete.{CompleteConstant, Complete, ShortExpr, ShortSelectors, ShortActuals, ShortMembers, ShortOperations}
use Rattle.mp_tables.proofs.CleanLemmas.{Clean, clean_pure, ◌then◌, ◌so◌, clean_report, clean_report_if, clean_refuse, clean_refused, refused_after, true_false}
use Rattle.mp_tables.proofs.GoodLemmas.{GoodValue, ordinal_value, IsTag, IsType, GoodAccess, GoodExpr, Fits, GoodUse, GoodUseIf, used_clean, typed_clean}
use Rattle.mp_tables.proofs.SortLemmas.{some_ordinal, text_goes, IsOperand}
use Rattle.mp_tables.proofs.VariableLemmas.{GoodAccessIf, variable_use_clean, GoodStep, index_step_clean, field_step_clean, follow_step_clean, selects_append, last_append, good_loaded}
use Rattle.mp_tables.proofs.OperatorLemmas.{SortedAs, operator_simple, operation_clean, good_chain, signed_clean, negated_clean, relation_clean}
use Rattle.mp_tables.proofs.CallLemmas.{GoodGiven, GoodGivenIf, GivenOrNot, given_good, GoodActual, GoodActuals, no_widths_clean, routine_use_clean, function_value_clean}
use Rattle.mp_tables.proofs.RequiredLemmas.{CleanIf, required_value_clean}

-- ---- what is found

-- a variable
abbrev pub AccessedIf : Context → Option Accessed → Type 0
AccessedIf w None = ⊥
AccessedIf w (Some a) = GoodAccess w a

-- a part of a variable of this type
abbrev pub SelectedFrom : Context → TypeId → Option Last → Selected → Type 0
SelectedFrom w id before u = (c : TypeId) × IsType w u.typed c × Selects w id u.selectors c × IsTag w.tables u.tagging (last_field w.tables before (Some id) u.selectors)

good_sorted : (w : Context) (t : Option Typed) (node : PlainTypedExpr) → GoodValue w t node → SortedAs w t (sort_in node)
good_sorted w None node g = absurd g
good_sorted w (Some t) node g = (g.0, sym g.2)

module _ (w : Context) (complete : Complete w.tables) where
  -- ---- constants

  constant_clean : (v : ConstantValue) → Clean (answers_of w.tables) (constant_value v) (λ x. CompleteConstant w.tables (Some v) → GoodExpr w x)
  constant_clean (value.Ordinal host n) =
      typed_clean w host
      then λ t. clean_pure (record (computed (Some t) (tree.Ordinal n)) { constant = Some (Some (value.Ordinal host n)) })
      (λ e c.
      let t' : Typed = record { id = Some host; shape = c.0 } in
      subst (λ x. GoodExpr w (record (computed (Some x) (tree.Ordinal n)) { constant = Some (Some (value.Ordinal host n)) })) (sym (e c.0 c.1))
      ((c.1, (λ q. tt), sym (some_ordinal (ordinal t') c.0 c.2), (λ u x k q. tt)), tt))
  constant_clean (value.Text s) =
      let t : Typed = record { id = None; shape = shape.Str (length s) } in
      clean_pure {P = λ x. x ≡ t} t refl
      then λ x. clean_pure (record (computed (Some x) (tree.Text s)) { constant = Some (Some (value.Text s)) })
      (λ e c. subst (λ y. GoodExpr w (record (computed (Some y) (tree.Text s)) { constant = Some (Some (value.Text s)) })) (sym e)
      ((c, (λ q. tt), refl, (λ u x k q. text_goes w complete (length s) u x k q)), tt))

  constant_if_clean : (v : Option ConstantValue) → Clean (answers_of w.tables) (constant_if v) (λ x. CompleteConstant w.tables v → GoodExpr w x)
  constant_if_clean None = clean_pure (record wrong { constant = Some None }) (λ c. absurd c)
  constant_if_clean (Some v) = constant_clean v

  integer_good : (n : ℤ) → CompleteConstant w.tables (Some (value.Ordinal type.Integer n))
  integer_good n = (shape.Range integer_bounds, refl, refl)

  boolean_good : (n : ℤ) → CompleteConstant w.tables (Some (value.Ordinal type.Boolean n))
  boolean_good n = (_, refl, refl)

  string_good : (s : List ℕ) → length s ≤ CELL_LIMIT → CompleteConstant w.tables (Some (string_constant s))
  string_good [] h = h
  string_good (c ∷ []) h = (shape.Range char_bounds, refl, refl)
  string_good (c ∷ d ∷ s) h = h

  -- ---- signs

  either_constant : (b : Bool) (x : Expressed) (c : Option (Option ConstantValue)) → GoodExpr w x → GoodExpr w (cond b (record x { constant = c }) x)
  either_constant true x c g = g
  either_constant false x c g = g

  sign_clean : (s : Option Sign) (first : PlainExpr) (x : Expressed) → Clean (answers_of w.tables) (sign_of s first x) (λ y. GoodExpr w x → GoodExpr w y)
  sign_clean None first x = clean_pure x (λ g. g)
  sign_clean (Some s) first x = signed_clean w s x then λ y. clean_pure (signed_constant (Some s) first x y) (λ f g. either_constant (is_signed_constant first) y _ (f g))

  -- ---- names

  refused_clean : {P : Expressed → Type 0} (at : ℕ) (js : List Judged) → Clean (answers_of w.tables) (refused at js) P
  refused_clean at js = clean_refused {P = λ u. ⊥} 305 at (no_widths_clean js) then λ u. clean_pure wrong (λ n. absurd n)

  value_or_clean : {P : Expressed → Type 0} (at : ℕ) (js : List Judged) (o : Option (Rule Expressed)) → CleanIf w complete o P →
      Clean (answers_of w.tables) (value_or_refused at js o) P
  value_or_clean at js None c = refused_clean at js
  value_or_clean at js (Some m) c = c

  required_name_clean : (r : Region) (at : ℕ) (n : Required) → Clean (answers_of w.tables) (required_name_value r at n) (GoodExpr w)
  required_name_clean r at name.False = constant_clean (value.Ordinal type.Boolean (pos 0)) so λ x f. f (boolean_good (pos 0))
  required_name_clean r at name.True = constant_clean (value.Ordinal type.Boolean (pos 1)) so λ x f. f (boolean_good (pos 1))
  required_name_clean r at name.Maxint = constant_clean (integer_constant MAXINT) so λ x f. f (integer_good (pos MAXINT))
  required_name_clean r at n = value_or_clean {P = λ v. GoodActuals w [] [] → GoodExpr w v} at [] (required_value r at n []) (required_value_clean w complete r at n [])
      so λ x f. f tt

  given_by : (r : Region) (at : ℕ) (js : List Judged) (g : Given) (k : FormalKind) →
      Clean (answers_of w.tables) (given_value r at js (record g { kind = k })) (λ v. GoodGiven w (record g { kind = k }) →
      GoodActuals w (procedural_in formal.Function (Some (record g { kind = k })) (length js)) js → GoodExpr w v)
  given_by r at js g formal.Function = function_value_clean w complete r at (record g { kind = formal.Function }) js so λ v f h a. f refl h a
  given_by r at js g k = refused_clean at js

  function_if_clean : (r : Region) (at : ℕ) (js : List Judged) (o : Option Given) →
      Clean (answers_of w.tables) (function_if r at js o) (λ v. GivenOrNot w o → GoodActuals w (procedural_in formal.Function o (length js)) js → GoodExpr w v)
  function_if_clean r at js None = refused_clean at js
  function_if_clean r at js (Some g) = given_by r at js g g.kind

  declared_value_clean : (r : Region) (x : Identifier) (u : Use) → Clean (answers_of w.tables) (declared_value r x u) (λ v. GoodUse w x.name u → GoodExpr w v)
  declared_value_clean r x (Declared (decl.Const path v)) = constant_if_clean v
  declared_value_clean r x (Declared (decl.Required n)) = required_name_clean r x.at n so λ v g h. g
  declared_value_clean r x u = function_if_clean r x.at [] (given_use x.name u) so λ v f g. f (given_good w x.name u g) tt

  value_by_clean : (r : Region) (x : Identifier) (u : Use) (o : Option Accessed) →
      Clean (answers_of w.tables) (value_by r x u o) (λ v. GoodAccessIf w u o → GoodUse w x.name u → GoodExpr w v)
  value_by_clean r x u (Some a) = clean_pure (loaded a) (λ g h. good_loaded w complete a g.0)
  value_by_clean r x u None = declared_value_clean r x u so λ v f g h. f h

  name_clean : (r : Region) (x : Identifier) (u : Option Use) → Clean (answers_of w.tables) (name_value r x u) (λ v. GoodUseIf w x.name u → GoodExpr w v)
  name_clean r x None = clean_pure unknown (λ g. absurd g)
  name_clean r x (Some u) = variable_use_clean w complete x.name u then λ o. value_by_clean r x u o so λ v f h g. f (h g) g

  -- ---- variables

  or_refused_clean : (at : ℕ) (u : Use) (o : Option Accessed) → Clean (answers_of w.tables) (variable_or_refused at o) (λ v. GoodAccessIf w u o → AccessedIf w v)
  or_refused_clean at u None = clean_refuse 305 at
  or_refused_clean at u (Some a) = clean_pure (Some a) (λ g. g.0)

  pub variable_name_clean : (r : Region) (x : Identifier) (u : Option Use) → Clean (answers_of w.tables) (variable_name r x u) (λ v. GoodUseIf w x.name u → AccessedIf w v)
  variable_name_clean r x None = clean_pure None (λ g. g)
  variable_name_clean r x (Some u) = variable_use_clean w complete x.name u then λ o. or_refused_clean x.at u o so λ v f h g. f (h g)

  good_part : (a : Accessed) (s : Selected) → ((id : TypeId) → IsType w a.typed id → (before : Option Last) → IsTag w.tables a.tagging before → SelectedFrom w id before s) →
      GoodAccess w a → GoodAccess w (part_of a s)
  good_part a s f g =
      let p = f g.0 g.1 (last_field w.tables None (Some g.2.0) a.access.selectors) g.3 in (
        p.0,
        p.1,
        (g.2.0, g.2.1, selects_append w g.2.0 g.0 p.0 a.access.selectors s.selectors g.2.2 p.2),
        subst (IsTag w.tables s.tagging) (sym (last_append w None g.2.0 g.0 a.access.selectors s.selectors g.2.2)) p.3,
      )

  -- the selectors of a variable, whose rule is clean
  pub start_clean : (r : Region) (F : Type 0) (steps : PlainSelectors) (o : Option Accessed) →
      ((t : Option Typed) (g : Bool) (tag : Option Tagging) →
      Clean (answers_of w.tables) (selected r steps (record { selectors = tree.NoSelectors; typed = t; guarded = g; tagging = tag })) (λ u. F → (id : TypeId) →
      IsType w t id → (before : Option Last) → IsTag w.tables tag before → SelectedFrom w id before u)) →
      Clean (answers_of w.tables) (selected r steps (start_of o)) (λ s. F → AccessedIf w o → AccessedIf w (selected_variable o s))
  start_clean r F steps None c = c None false None so λ s f p g. g
  start_clean r F steps (Some a) c = c a.typed a.guarded a.tagging so λ s f p g. good_part a s (f p) g

  loaded_good : (o : Option Accessed) → AccessedIf w o → GoodExpr w (loaded_if o)
  loaded_good None g = absurd g
  loaded_good (Some a) g = good_loaded w complete a g

  joined : (id : TypeId) (before : Option Last) (step : Step) (u : Selected) → GoodStep w id step →
      ((c : TypeId) → IsType w step.typed c → (b : Option Last) → IsTag w.tables step.tagging b → SelectedFrom w c b u) →
      SelectedFrom w id before (record u { selectors = step.tree u.selectors })
  joined id before step u g f = let s = f g.0 g.1 g.3.0 g.3.2 in (s.0, s.1, g.2 u.selectors s.0 s.2, subst (IsTag w.tables u.tagging) (sym (g.3.1 before u.selectors)) s.3)

  -- ---- calls

  called_by_clean : (r : Region) (x : Identifier) (js : List Judged) (u : Use) →
      Clean (answers_of w.tables) (called_by r x js u) (λ v. GoodUse w x.name u → GoodActuals w (procedural_of formal.Function x (Some u) (length js)) js → GoodExpr w v)
  called_by_clean r x js (Declared (decl.Required n)) = value_or_clean x.at js (required_value r x.at n js) (required_value_clean w complete r x.at n js) so λ v f g a. f a
  called_by_clean r x js u = function_if_clean r x.at js (given_use x.name u) so λ v f g a. f (given_good w x.name u g) a

  called_clean : (r : Region) (x : Identifier) (u : Option Use) (js : List Judged) →
      Clean (answers_of w.tables) (called r x u js) (λ v. GoodUseIf w x.name u → GoodActuals w (procedural_of formal.Function x u (length js)) js → GoodExpr w v)
  called_clean r x None js = no_widths_clean js then λ u. clean_pure wrong (λ p g. absurd g)
  called_clean r x (Some u) js = called_by_clean r x js u

  -- ---- actual parameters, whose rules are clean

  routine_named : (r : Region) (x : Identifier) → Clean (answers_of w.tables) (used r x >>= routine_use x) (λ g. Fits w r → GoodGivenIf w g)
  routine_named r x = used_clean w complete r x then λ u. routine_use_clean w x u so λ g f h fit. f (h fit)

  actual_clean : (r : Region) (b : Bool) (x : PlainExpr) (m : Rule Expressed) → Clean (answers_of w.tables) m (λ v. Fits w r → ShortExpr x → GoodExpr w v) →
      Clean (answers_of w.tables) (actual r b x m) (λ j. Fits w r → ShortExpr x → GoodActual w b j)
  actual_clean r true (Access x NoSelectors) m c =
      routine_named r x then λ g. clean_pure (judged x.at wrong g None) (λ h f s. h f)
  actual_clean r true x m c = refused_after 344 (first_of_expression x) c then λ u. clean_pure (judged (first_of_expression x) wrong None None) (λ n f s. absurd n)
  actual_clean r false x m c = c then λ v. clean_pure (judged (first_of_expression x) v None None) (λ h f s. (h f s, tt))

  with_width : (b : Bool) (j : Judged) (x : JudgedWidth) → GoodActual w b j → GoodExpr w x.value → GoodActual w b (record j { width = Some x })
  with_width true j x g h = g
  with_width false j x g h = (g.0, h)

  -- ---- members of sets

  host_clean : (at : ℕ) (host : Option TypeId) (missing : Bool) (b : Bounds) →
      Clean (answers_of w.tables) (member_host at (record { host = host; missing = missing }) b) (λ n. missing ≡ false → n.missing ≡ false)
  host_clean at None missing b = clean_pure (record { host = Some b.host; missing = missing }) (λ h. h)
  host_clean at (Some h) missing b =
      clean_report_if (not (same h b.host)) 351 at
      then λ u. clean_pure (record { host = Some h; missing = missing || not (same h b.host) }) (λ e m. ap (λ x. x || not (same h b.host)) m ∙ e)

  member_by_clean : (at : ℕ) (m : Members) (o : Option Bounds) (s : Shape) →
      Clean (answers_of w.tables) (member_by at m o) (λ n. m.missing ≡ false → (n.missing ≡ false) × (is_some o ≡ true))
  member_by_clean at m None s = clean_report {P = λ u. ⊥} 318 at then λ u. clean_pure (record m { missing = true }) (λ n. absurd n)
  member_by_clean at m (Some b) s = host_clean at m.host m.missing b so λ n f h. (f h, refl)

  member_lem : (at : ℕ) (t : Option Typed) (node : PlainTypedExpr) (v : Variability) (c : Option (Option ConstantValue)) (m : Members) →
      Clean (answers_of w.tables) (member at (record { typed = t; node = node; variable = v; constant = c }) m) (λ n. GoodValue w t node → m.missing ≡ false →
      (n.missing ≡ false) × OrdinalExpr w node)
  member_lem at None node v c m = clean_pure (record m { missing = true }) (λ g. absurd g)
  member_lem at (Some t) node v c m = member_by_clean at m (ordinal t) t.shape so λ n f g h. let x = f h in (x.0, ordinal_value w t node g (some_ordinal (ordinal t) t.shape x.1))

  member_clean : (at : ℕ) (x : Expressed) (m : Members) →
      Clean (answers_of w.tables) (member at x m) (λ n. GoodExpr w x → m.missing ≡ false → (n.missing ≡ false) × OrdinalExpr w x.node)
  member_clean at x m = member_lem at x.typed x.node x.variable x.constant m so λ n f g. f g.0

  set_good : (m : Members) (b : Bool) (nodes : PlainTypedMembers) → b ≡ false → CheckedMembers w nodes →
      GoodExpr w (cond b wrong (computed (Some (record { id = None; shape = shape.SetOf None (base_of m.host) })) (tree.Set nodes)))
  set_good m true nodes e c = true_false e
  set_good m false nodes e c = ((tt, (λ n. c), refl, (λ t x k q. tt)), tt)

  -- ---- two rules that stand together

  pub variable_found : (r : Region) (x : Identifier) → Clean (answers_of w.tables) (used r x >>= variable_name r x) (λ a. Fits w r → AccessedIf w a)
  variable_found r x = used_clean w complete r x then λ u. variable_name_clean r x u so λ a f h p. f (h p)

  signed_first : (r : Region) (s : Option Sign) (first : PlainExpr) → Clean (answers_of w.tables) (expression r first) (λ v. Fits w r → ShortExpr first → GoodExpr w v) →
      Clean (answers_of w.tables) (expression r first >>= sign_of s first) (λ y. Fits w r → ShortExpr first → GoodExpr w y)
  signed_first r s first c = c then λ x. sign_clean s first x so λ y f h p q. f (h p q)

  two_members : (at behind : ℕ) (a b : Expressed) (m : Members) →
      Clean (answers_of w.tables) (member at a m >>= member behind b) (λ n. GoodExpr w a → GoodExpr w b → m.missing ≡ false → (n.missing ≡ false) × OrdinalExpr w a.node
      × OrdinalExpr w b.node)
  two_members at behind a b m = member_clean at a m then λ n. member_clean behind b n so λ k f h g i e. let x = h g e in let y = f i x.0 in (y.0, x.1, y.1)

operation_any : (w : Context) (at : ℕ) (o : Operator) (left : Option Typed) (y : Expressed) →
    Clean (answers_of w.tables) (operation at o left y.typed) (λ z. (s : Sort) → SortedAs w left s → GoodExpr w y → (operator_sort z.operator ≡ s) × CheckedExpr w y.node
    × (sort_in y.node ≡ s) × SortedAs w z.typed s)
operation_any w at o left y = record { by = λ e h. let z = λ (s : Sort). (operation_clean w at o left y.typed y.node s).by e h in ((z sort.Ordinal).0, λ s l g. (z s).1 l g.0) }

-- ---- all expressions

module _ (w : Context) (complete : Complete w.tables) where
  mutual
    pub expression_clean : (r : Region) (x : PlainExpr) → Clean (answers_of w.tables) (expression r x) (λ v. Fits w r → ShortExpr x → GoodExpr w v)
    expression_clean r (Number n) = constant_clean w complete (integer_constant n.value) so λ v f p q. f (integer_good w complete (pos n.value))
    expression_clean r (Text s) = constant_clean w complete (string_constant s.characters) so λ v f p q. f (string_good w complete s.characters q)
    expression_clean r (Nil at) = clean_pure (computed (Some nil_type) tree.Nil) (λ p q. ((tt, (λ n. tt), refl, (λ t x k e. tt)), tt))
    expression_clean r (Access x NoSelectors) = used_clean w complete r x then λ u. name_clean w complete r x u so λ v f h p q. f (h p)
    expression_clean r (Access x steps) =
        variable_found w complete r x
        then λ a. start_clean w complete r (Fits w r × ShortSelectors steps) steps a (λ t g tag. selected_clean r steps t g tag)
        then λ s. clean_pure (loaded_if (selected_variable a s)) (λ f h p q. loaded_good w complete (selected_variable a s) (f (p, q) (h p)))
    expression_clean r (Call x given) =
        used_clean w complete r x
        then λ u. actuals_clean r (procedural_of formal.Function x u (count given)) given
        then λ js. called_clean w complete r x u js
        so λ v f h g p q. let a = h p q in f (g p) (subst (λ n. GoodActuals w (procedural_of formal.Function x u n) js) (sym a.0) a.1)
    expression_clean r (Inside at x) = expression_clean r x then λ v. clean_pure (computed v.typed v.node) (λ f p q. ((f p q).0, tt))
    expression_clean r (Not at x) = expression_clean r x then λ v. negated_clean w at v so λ y f h p q. f (h p q)
    expression_clean r (Set at ms) = members_clean r ms no_members
        then λ m. clean_pure (set_value m.so_far m.nodes) (λ f p q. let x = f p q refl in set_good w complete m.so_far m.so_far.missing m.nodes x.0 x.1)
    expression_clean r (Product first more) =
        expression_clean r first
        then λ x. operations_clean r x.typed more
        then λ c. clean_pure (chained x.node c) (λ f h p q. let g = h p q.0 in let o = f p q.1 (sort_in x.node) (good_sorted w x.typed x.node g.0) in
        good_chain w x.typed c.typed x.node c.operations g.0 o.0 o.1 o.2)
    expression_clean r (Sum s first NoOperations) = expression_clean r first then λ x. sign_clean w complete s first x so λ y f h p q. f (h p q.0)
    expression_clean r (Sum s first more) =
        signed_first w complete r s first (expression_clean r first)
        then λ x. operations_clean r x.typed more
        then λ c. clean_pure (chained x.node c) (λ f h p q. let g = h p q.0 in let o = f p q.1 (sort_in x.node) (good_sorted w x.typed x.node g.0) in
        good_chain w x.typed c.typed x.node c.operations g.0 o.0 o.1 o.2)
    expression_clean r (Relation x at o y) =
        expression_clean r x then λ a. expression_clean r y then λ b. relation_clean w complete at o a b so λ z f h g p q. f (g p q.0) (h p q.1)

    pub selected_clean : (r : Region) (steps : PlainSelectors) (t : Option Typed) (g : Bool) (tag : Option Tagging) →
        Clean (answers_of w.tables) (selected r steps (record { selectors = tree.NoSelectors; typed = t; guarded = g; tagging = tag })) (λ u. Fits w r × ShortSelectors steps →
        (id : TypeId) → IsType w t id → (before : Option Last) → IsTag w.tables tag before → SelectedFrom w id before u)
    selected_clean r NoSelectors t g tag = clean_pure (record { selectors = tree.NoSelectors; typed = t; guarded = g; tagging = tag }) (λ p id h before b. (id, h, refl, b))
    selected_clean r (Index at x more) t g tag =
        expression_clean r x
        then λ i. index_step_clean w complete at (first_of_expression x) i t
        then λ step. selected_clean r more step.typed step.guarded step.tagging
        then λ u. clean_pure (record u { selectors = step.tree u.selectors }) (λ f k h p id e before b. joined w complete id before step u (k (h p.0 p.1.0) id e) (f (p.0, p.1.1)))
    selected_clean r (Field at x more) t g tag =
        field_step_clean w complete at x t
        then λ step. selected_clean r more step.typed step.guarded step.tagging
        then λ u. clean_pure (record u { selectors = step.tree u.selectors }) (λ f k p id e before b. joined w complete id before step u (k id e) (f p))
    selected_clean r (Follow at more) t g tag =
        follow_step_clean w complete at t
        then λ step. selected_clean r more step.typed step.guarded step.tagging
        then λ u. clean_pure (record u { selectors = step.tree u.selectors }) (λ f k p id e before b. joined w complete id before step u (k id e) (f p))

    pub actuals_clean : (r : Region) (routines : List Bool) (given : PlainActuals) →
        Clean (answers_of w.tables) (actuals r routines given) (λ js. Fits w r → ShortActuals given → (length js ≡ count given) × GoodActuals w routines js)
    actuals_clean r routines NoActuals = clean_pure [] (λ p q. (refl, tt))
    actuals_clean r routines (Actual x more) =
        actual_clean w complete r (is_first routines) x (expression r x) (expression_clean r x)
        then λ j. actuals_clean r (tail routines) more
        then λ js. clean_pure (j ∷ js) (λ f g p q. let a = f p q.1 in (omega (arith, a.0), (g p q.0, a.1)))
    actuals_clean r routines (ActualWithWidth x at x' more) =
        actual_clean w complete r (is_first routines) x (expression r x) (expression_clean r x)
        then λ j. expression_clean r x'
        then λ v. actuals_clean r (tail routines) more
        then λ js. clean_pure (record j { width = Some (record { at = at; value = v }) } ∷ js)
        (λ f h g p q. let a = f p q.2 in (omega (arith, a.0), (with_width w complete (is_first routines) j (record { at = at; value = v }) (g p q.0) (h p q.1), a.1)))

    pub operations_clean : (r : Region) (left : Option Typed) (more : PlainOperations) →
        Clean (answers_of w.tables) (operations r left more) (λ c. Fits w r → ShortOperations more → (s : Sort) → SortedAs w left s → CheckedOperations w s c.operations
        × SortedAs w c.typed s × ((c.typed ≡ left) ⊎ IsOperand s))
    operations_clean r left NoOperations = clean_pure (record { typed = left; operations = tree.NoOperations }) (λ p q s g. (tt, g, inl refl))
    operations_clean r left (Operation at o x more) =
        expression_clean r x
        then λ y. operation_any w at o left y
        then λ z. operations_clean r z.typed more
        then λ c. clean_pure (record c { operations = tree.Operation z.operator y.node c.operations })
        (λ f g h p q s e. let v = h p q.0 in let a = g s e v in let m = f p q.1 s a.3 in ((a.0, a.1, a.2, m.0), m.1, inr (subst IsOperand a.0 (operator_simple z.operator))))

    pub members_clean : (r : Region) (ms : PlainMembers) (m : Members) →
        Clean (answers_of w.tables) (members r ms m) (λ l. Fits w r → ShortMembers ms → m.missing ≡ false → (l.so_far.missing ≡ false) × CheckedMembers w l.nodes)
    members_clean r NoMembers m = clean_pure (record { so_far = m; nodes = tree.NoMembers }) (λ p q e. (e, tt))
    members_clean r (Member x more) m =
        expression_clean r x
        then λ a. member_clean w complete (first_of_expression x) a m
        then λ n. members_clean r more n
        then λ l. clean_pure (record l { nodes = tree.Member a.node l.nodes })
        (λ f g h p q e. let k = g (h p q.0) e in let z = f p q.1 k.0 in (z.0, (k.1.0, k.1.1, z.1)))
    members_clean r (MemberRange x y more) m =
        expression_clean r x
        then λ a. expression_clean r y
        then λ b. two_members w complete (first_of_expression x) (first_of_expression y) a b m
        then λ n. members_clean r more n
        then λ l. clean_pure (record l { nodes = tree.MemberRange a.node b.node l.nodes })
        (λ f g i h p q e. let k = g (h p q.0) (i p q.1) e in let z = f p q.2 k.0 in (z.0, (k.1.0, k.1.1, k.2.0, k.2.1, z.1)))
