-- Statements (ISO 7185, 6.8): their trees with resolved names, and their errors.
use Rattle.std.specs.Prelude.{ℕ, Bool, true, false, not, List, [], ◌∷◌, ◌++◌, Option, Some, None, map, length, nat_eq, is_some, unwrap_or, if◌then◌else◌, ◌||◌}
use Rattle.std.specs.List.{list_any}
use Rattle.mp_base.specs.declared.path.PathStep.{PathStep}
use Rattle.mp_ast.specs.declared.leaves.Identifier.{Identifier}
use Rattle.mp_ast.specs.declared.leaves.Number.{Number as NumberLeaf}
use Rattle.mp_ast.specs.PlainExpressions.{PlainExpr, PlainAccess, PlainSelectors, NoSelectors, PlainActuals}
use Rattle.mp_ast.specs.PlainStatements.{PlainForHead, PlainStatement, Labelled, Empty, Assign, Call, Goto, Compound, If, IfElse, Case, While, Repeat, For, With, PlainStatements, NoStatements, Sequence, PlainArms, NoArms, Arm}
use Rattle.mp_ast.specs.PlainTrees.{PlainBlock, statements_of_part}
use Rattle.mp_ast.specs.Blocks.{same_path}
use Rattle.mp_ast.specs.FirstTokens.{first_of_expression}
use Rattle.mp_tables.specs.declared.types.TypeId.{TypeId}
use Rattle.mp_tables.specs.declared.types.TypeId.TheVariants as type
use Rattle.mp_tables.specs.declared.types.Bounds.{Bounds}
use Rattle.mp_tables.specs.declared.types.RecordShape.{RecordShape}
use Rattle.mp_tables.specs.declared.types.Shape.{Shape}
use Rattle.mp_tables.specs.declared.types.Shape.TheVariants as shape
use Rattle.mp_tables.specs.declared.types.Typed.{Typed}
use Rattle.mp_tables.specs.declared.headings.FormalKind.{FormalKind}
use Rattle.mp_tables.specs.declared.headings.FormalKind.TheVariants as formal
use Rattle.mp_tables.specs.declared.required.Required.{Required}
use Rattle.mp_tables.specs.declared.required.Required.TheVariants as name
use Rattle.mp_tables.specs.declared.declarations.Decl.TheVariants as decl
use Rattle.mp_tables.specs.declared.declarations.Routine.{Routine}
use Rattle.mp_tables.specs.declared.declarations.LabelStanding.{LabelStanding}
use Rattle.mp_tables.specs.declared.declarations.LabelStanding.TheVariants as standing
use Rattle.mp_tables.specs.declared.questions.Seen.{Seen}
use Rattle.mp_tables.specs.declared.questions.Seen.TheVariants as see
use Rattle.mp_tables.specs.declared.typed_expressions.Callee.{Callee}
use Rattle.mp_tables.specs.declared.typed_expressions.Located.{Located}
use Rattle.mp_tables.specs.declared.typed_expressions.Root.TheVariants as root
use Rattle.mp_tables.specs.PlainTypedExpressions.{PlainTypedExpr, PlainTypedActuals, PlainTypedAccess}
use Rattle.mp_tables.specs.PlainTypedExpressions as tree
use Rattle.mp_tables.specs.PlainTypedStatements.{PlainTarget, PlainRequiredCall, PlainTypedStatement, PlainTypedStatements, PlainTypedArms}
use Rattle.mp_tables.specs.PlainTypedStatements as typed_tree
use Rattle.mp_tables.specs.Asks.{find as find_name, assigns}
use Rattle.mp_tables.specs.Reports.{Rule, pure, ◌>>=◌, ◌>>◌, lift, report, report_if, each}
use Rattle.mp_tables.specs.TypeRelations.{ordinal, has_host, holds_file, assignable, unless_missing}
use Rattle.mp_tables.specs.Seen.{begins_with}
use Rattle.mp_tables.specs.StatementWalks.{begin_of, label_name, prefixes_in, outermost_prefixes, standing_of, has_value}
use Rattle.mp_tables.specs.Names.{Region, Use, OpenField, Declared, used, typed_if}
use Rattle.mp_tables.specs.Constants.{selecting, Selecting}
use Rattle.mp_tables.specs.Elaboration.{label_range}
use Rattle.mp_tables.specs.Variables.{Accessed, Entire, check_if, located, threat, variable_use}
use Rattle.mp_tables.specs.Calls.{Given, Judged, no_width, given_use, actuals_of}
use Rattle.mp_tables.specs.RequiredCalls.{Called, required_call}
use Rattle.mp_tables.specs.Expressions.{expression, selected, selected_variable, start_of, variable_name, actuals, procedural_of, count}

-- ---- where a statement stands

-- in a region of a block with this tree, where a `goto` of it may lead to these labels
pub record Place : Type 0 where
  pub region : Region
  pub own : PlainBlock
  pub labels : List ℕ

-- a statement contains itself, and its sequence has its statements: a `goto` in it may lead there
abbrev pub label_here : ℕ → Place → Place
label_here value p = record p { labels = value ∷ p.labels }

abbrev pub labels_here : PlainStatements → Place → Place
labels_here statements p = record p { labels = map (λ n. n.value) (outermost_prefixes statements) ++ p.labels }

abbrev pub controlled_here : List ℕ → Place → Place
controlled_here n p = record p { region = record p.region { controlled = n ∷ p.region.controlled } }

-- a statement with a label stands at the label
abbrev pub start_or : Option ℕ → ℕ → ℕ
start_or None at = at
start_or (Some label) at = label

-- ---- conditions (6.8.3.4, 6.8.3.7, 6.8.3.8)

abbrev pub boolean_fits : Option Typed → Bool
boolean_fits None = true
boolean_fits (Some t) = has_host type.Boolean t

-- 332: a condition is not Boolean. At its first token.
abbrev pub condition : Place → PlainExpr → Rule PlainTypedExpr
condition p x = do
  v ← expression p.region x
  report_if (not (boolean_fits v.typed)) 332 (first_of_expression x)
  pure v.node

-- ---- assignments (6.8.2.2)

-- what is set: its type and its tree, where there is no error
pub record Settable : Type 0 where
  pub typed : Option Typed
  pub access : Option Accessed

abbrev pub not_settable : Settable
not_settable = record { typed = None; access = None }

abbrev pub settable : Option Accessed → Settable
settable None = not_settable
settable (Some a) = record { typed = a.typed; access = Some a }

-- a threatened control variable has no type
abbrev pub unless_threatened : Accessed → Bool → Settable
unless_threatened a true = record { typed = None; access = Some a }
unless_threatened a false = settable (Some a)

abbrev pub result_access : List ℕ → List PathStep → ℕ → Option Typed → Accessed
result_access n block offset t =
    record {
      access = record { root = root.Result (located n block offset); selectors = tree.NoSelectors };
      typed = t;
      guarded = false;
      tagging = None;
      entire = None;
    }

-- within the block of a function
abbrev pub in_block : Region → Option (List PathStep) → Bool
in_block r None = false
in_block r (Some block) = begins_with block r.path

-- 348: it is the name of a function in whose block it does not stand. At the name.
abbrev pub result_target : Region → Identifier → Routine → ℕ → Rule Settable
result_target r x f offset =
    if in_block r f.block then typed_if f.heading.result >>= (λ t. pure (settable (Some (result_access x.name (unwrap_or f.block []) offset t))))
    else (report 348 x.at >> pure not_settable)

abbrev pub is_required_function : Required → Bool
is_required_function name.Abs = true
is_required_function name.Sqr = true
is_required_function name.Odd = true
is_required_function name.Ord = true
is_required_function name.Succ = true
is_required_function name.Pred = true
is_required_function name.Chr = true
is_required_function name.Eof = true
is_required_function name.Eoln = true
is_required_function _ = false

-- 348: it is a functional parameter or a required function. 305: it is no variable and no function. At the name.
abbrev pub other_target : Region → Identifier → Use → Rule Settable
other_target r x (Declared (decl.Func path f offset)) = result_target r x f offset
other_target r x (Declared (decl.Param path p)) = by_kind p.kind
  where
    by_kind : FormalKind → Rule Settable
    by_kind formal.Function = report 348 x.at >> pure not_settable
    by_kind _ = report 305 x.at >> pure not_settable
other_target r x (Declared (decl.Required n)) = report (if is_required_function n then 348 else 305) x.at >> pure not_settable
other_target r x u = report 305 x.at >> pure not_settable

abbrev pub name_target_by : Region → Identifier → Use → Option Accessed → Rule Settable
name_target_by r x u (Some a) = threat r x.at a.entire >>= (λ t. pure (unless_threatened a t))
name_target_by r x u None = other_target r x u

abbrev pub name_target : Region → Identifier → Option Use → Rule Settable
name_target r x None = pure not_settable
name_target r x (Some u) = variable_use x.name u >>= name_target_by r x u

-- a variable, or a part of one
abbrev pub accessed : Region → PlainAccess → Rule (Option Accessed)
accessed r a = used r a.name >>= variable_name r a.name >>= (λ v. selected r a.selectors (start_of v) >>= (λ s. pure (selected_variable v s)))

abbrev pub target : Region → PlainAccess → Rule Settable
target r a = by_selectors a.selectors
  where
    by_selectors : PlainSelectors → Rule Settable
    by_selectors NoSelectors = used r a.name >>= name_target r a.name
    by_selectors _ = accessed r a >>= (λ v. pure (settable v))

-- 320: the variable is or holds a file. 334: the value is not assignment-compatible with its type. At `:=`.
abbrev pub assignment : ℕ → Option Typed → Option Typed → Rule (Unit {0})
assignment at None v = pure tt
assignment at (Some t) v =
    if holds_file t.shape then report 320 at else report_if (not (unless_missing assignable v (Some t))) 334 at

abbrev pub assign_node : ℕ → Settable → PlainTypedExpr → PlainTypedStatement
assign_node at s value = by_access s.access
  where
    by_access : Option Accessed → PlainTypedStatement
    by_access None = typed_tree.Wrong at
    by_access (Some a) = typed_tree.Assign at (record { access = a.access; check = check_if a.typed; tagging = a.tagging }) value

abbrev pub assign : Place → ℕ → PlainAccess → ℕ → PlainExpr → Rule PlainTypedStatement
assign p start a at x = do
  t ← target p.region a
  v ← expression p.region x
  assignment at t.typed v.typed
  pure (assign_node start t v.node)

-- ---- procedure statements (6.8.2.3)

abbrev pub required_node : ℕ → Option PlainRequiredCall → PlainTypedStatement
required_node at None = typed_tree.Wrong at
required_node at (Some c) = typed_tree.Required at c

-- 305: a procedure is wanted, and the name is none. At the name.
abbrev pub no_procedure : ℕ → ℕ → List Judged → Rule PlainTypedStatement
no_procedure start at js = report 305 at >> each no_width js >> pure (typed_tree.Wrong start)

abbrev pub required_statement : ℕ → ℕ → List Judged → Option Called → Rule PlainTypedStatement
required_statement start at js None = no_procedure start at js
required_statement start at js (Some m) = m >>= (λ c. pure (required_node start c))

abbrev pub call_node : ℕ → Given → Option PlainTypedActuals → PlainTypedStatement
call_node start g None = typed_tree.Wrong start
call_node start g (Some a) = by_callee g.callee
  where
    by_callee : Option Callee → PlainTypedStatement
    by_callee None = typed_tree.Wrong start
    by_callee (Some c) = typed_tree.Call start (record { callee = c; actuals = a })

abbrev pub procedure_statement : Region → ℕ → ℕ → List Judged → Option Given → Rule PlainTypedStatement
procedure_statement r start at js None = no_procedure start at js
procedure_statement r start at js (Some g) = by_kind g.kind
  where
    by_kind : FormalKind → Rule PlainTypedStatement
    by_kind formal.Procedure = actuals_of r at g.heading js >>= (λ a. pure (call_node start g a))
    by_kind _ = no_procedure start at js

abbrev pub called : Region → ℕ → Identifier → List Judged → Option Use → Rule PlainTypedStatement
called r start x js None = each no_width js >> pure (typed_tree.Wrong start)
called r start x js (Some (Declared (decl.Required n))) = required_statement start x.at js (required_call r x.at n js)
called r start x js (Some u) = procedure_statement r start x.at js (given_use x.name u)

abbrev pub call : Place → ℕ → Identifier → PlainActuals → Rule PlainTypedStatement
call p start x given = do
  u ← used p.region x
  js ← actuals p.region (procedural_of formal.Procedure x u (count given)) given
  called p.region start x js u

-- ---- goto statements (6.8.2.4)

-- 310: the label stands once, but not where this `goto` may lead. At the label.
abbrev pub may_lead : Bool → LabelStanding → ℕ → Rule (Unit {0})
may_lead ok standing.NotOnce at = pure tt
may_lead ok s at = report_if (not ok) 310 at

abbrev pub is_outermost : LabelStanding → Bool
is_outermost standing.Outermost = true
is_outermost _ = false

-- 306: no enclosing block declares the label. At the label. The depth of the block that does is given.
abbrev pub outer_label : ℕ → Seen → Rule ℕ
outer_label at (see.Is (decl.Label path s)) = may_lead (is_outermost s) s at >> pure (length path)
outer_label at _ = report 306 at >> pure 0

abbrev pub own_label : Place → NumberLeaf → Rule ℕ
own_label p n =
    may_lead (list_any (nat_eq n.value) p.labels) (standing_of (statements_of_part p.own.statements) n.value) n.at >> pure (length p.region.path)

abbrev pub label_depth : Place → NumberLeaf → Rule ℕ
label_depth p n =
    if list_any (has_value n.value) p.own.labels then own_label p n
    else lift (find_name (label_name n.value) (record { path = p.region.path; ordinal = n.at })) >>= outer_label n.at

abbrev pub goto : Place → ℕ → NumberLeaf → Rule PlainTypedStatement
goto p start n = label_range n >> label_depth p n >>= (λ d. pure (typed_tree.Goto start d n.value))

-- ---- labels (6.8.1)

-- 306: the block does not declare the label. 308: it stands before. At the label.
abbrev pub prefixes : PlainBlock → List NumberLeaf → List NumberLeaf → Rule (Unit {0})
prefixes own earlier [] = pure tt
prefixes own earlier (n ∷ more) = do
  label_range n
  report_if (not (list_any (has_value n.value) own.labels)) 306 n.at
  report_if (list_any (has_value n.value) earlier) 308 n.at
  prefixes own (n ∷ earlier) more

-- 309: no statement of the block has the label. At its declaration.
abbrev pub standing_label : PlainBlock → NumberLeaf → Rule (Unit {0})
standing_label own n = report_if (not (list_any (has_value n.value) (prefixes_in (statements_of_part own.statements)))) 309 n.at

-- ---- case statements (6.8.3.5)

abbrev pub host_by : Option Bounds → Option TypeId
host_by None = None
host_by (Some b) = Some b.host

-- 318: the index is not ordinal. At its first token.
abbrev pub case_index : ℕ → Option Typed → Rule (Option TypeId)
case_index at None = pure None
case_index at (Some t) = report_if (not (is_some (ordinal t))) 318 at >> pure (host_by (ordinal t))

-- ---- for statements (6.8.3.9)

-- the control variable, where it is one, and its type, where it is not missing
pub record Control : Type 0 where
  pub variable : Option Located
  pub bounds : Option Bounds
  pub typed : Option Typed

abbrev pub no_control : Control
no_control = record { variable = None; bounds = None; typed = None }

abbrev pub ordinal_if : Option Typed → Bool
ordinal_if None = true
ordinal_if (Some t) = is_some (ordinal t)

-- 318: the type is not ordinal. 346: it is no entire variable of this block's variable part. At the name.
abbrev pub refused_control : ℕ → Option Typed → Rule Control
refused_control at t = report_if (not (ordinal_if t)) 318 at >> report 346 at >> pure no_control

abbrev pub bounds_if : Option Typed → Option Bounds
bounds_if None = None
bounds_if (Some t) = ordinal t

abbrev pub typed_bounds : Option Typed → Option Bounds → Option Typed
typed_bounds t None = None
typed_bounds t (Some b) = t

abbrev pub control_of : Bool → Identifier → List PathStep → ℕ → Option Typed → Control
control_of threatened x path offset t =
    record {
      variable = Some (located x.name path offset);
      bounds = bounds_if t;
      typed = if threatened then None else typed_bounds t (bounds_if t);
    }

-- 318: the type is not ordinal; where 347 stands it is not looked at. At the name.
abbrev pub own_control : Region → Identifier → Accessed → ℕ → Entire → Rule Control
own_control r x a offset e = do
  threatened ← threat r x.at (Some e)
  report_if (not (threatened || ordinal_if a.typed)) 318 x.at
  pure (control_of threatened x e.path offset a.typed)

-- an entire variable, which is a control variable where it is this block's
abbrev pub entire_control : Region → Identifier → Accessed → ℕ → Entire → Rule Control
entire_control r x a offset e = if same_path e.path r.path then own_control r x a offset e else refused_control x.at a.typed

abbrev pub variable_control : Region → Identifier → Use → Accessed → Rule Control
variable_control r x (Declared (decl.Var path v)) a = entire_control r x a v.offset (record { name = x.name; path = path; control = v.control })
variable_control r x u a = refused_control x.at a.typed

-- 305: it is neither a variable nor a parameter. At the name.
abbrev pub control_by : Region → Identifier → Use → Option Accessed → Rule Control
control_by r x u None = report 305 x.at >> pure no_control
control_by r x u (Some a) = variable_control r x u a

abbrev pub control : Region → Identifier → Option Use → Rule Control
control r x None = pure no_control
control r x (Some u) = variable_use x.name u >>= control_by r x u

-- 334: a limit is not assignment-compatible with the control variable's type. At its first token.
abbrev pub limit : Place → Option Typed → PlainExpr → Rule PlainTypedExpr
limit p t x = do
  v ← expression p.region x
  report_if (not (unless_missing assignable v.typed t)) 334 (first_of_expression x)
  pure v.node

abbrev pub controlling : Control → PlainForHead → Place → Place
controlling c head p = by_variable c.variable
  where
    by_variable : Option Located → Place
    by_variable None = p
    by_variable (Some l) = controlled_here head.variable.name p

abbrev pub for_by : ℕ → Option Located → Option Bounds → PlainForHead → PlainTypedExpr → PlainTypedExpr → PlainTypedStatement → PlainTypedStatement
for_by start (Some l) (Some b) head first last body =
    typed_tree.For start (record { variable = l; low = b.low; high = b.high; first = first; direction = head.direction; last = last }) body
for_by start _ _ head first last body = typed_tree.Wrong start

-- ---- with statements (6.8.3.10)

abbrev pub record_by : Option Typed → Option RecordShape
record_by None = None
record_by (Some t) = by_shape t.shape
  where
    by_shape : Shape → Option RecordShape
    by_shape (shape.Rec r) = Some r
    by_shape _ = None

abbrev pub is_record : Option Typed → Bool
is_record None = true
is_record (Some t) = is_some (record_by (Some t))

abbrev pub typed_access : Option Accessed → Option Typed
typed_access None = None
typed_access (Some a) = a.typed

abbrev pub opened_tree : Option Accessed → List PlainTypedAccess
opened_tree None = []
opened_tree (Some a) = a.access ∷ []

-- a record opens the names of its fields; one without a type opens none
abbrev pub open_record : Option Typed → Region → Region
open_record t r = record r { opened = record { number = length r.opened; fields = record_by t } ∷ r.opened }

-- the region inside, and the trees of the records
pub record Opening : Type 0 where
  pub region : Region
  pub records : List PlainTypedAccess

-- 336: what is opened is no record. At its first token.
abbrev pub open_records : Region → List PlainAccess → Rule Opening
open_records r [] = pure (record { region = r; records = [] })
open_records r (a ∷ more) = do
  v ← accessed r a
  report_if (not (is_record (typed_access v))) 336 a.name.at
  o ← open_records (open_record (typed_access v) r) more
  pure (record o { records = opened_tree v ++ o.records })

-- ---- all statements
abbrev mutual
  -- a statement, which stands at its label, where it has one
  pub statement : Place → Option ℕ → PlainStatement → Rule PlainTypedStatement
  statement p label (Labelled n s) = statement (label_here n.value p) (Some n.at) s >>= (λ t. pure (typed_tree.Labelled n.value t))
  statement p label (Empty at) = pure (typed_tree.Empty (start_or label at))
  statement p label (Assign a at x) = assign p (start_or label a.name.at) a at x
  statement p label (Call x given) = call p (start_or label x.at) x given
  statement p label (Goto at n) = goto p (start_or label at) n
  statement p label (Compound at more) = sequence (labels_here more p) more >>= (λ ts. pure (typed_tree.Compound (start_or label at) ts))
  statement p label (If at x s) = condition p x >>= (λ v. statement p None s >>= (λ t. pure (typed_tree.If (start_or label at) v t)))
  statement p label (IfElse at x s t) = do
    v ← condition p x
    first ← statement p None s
    second ← statement p None t
    pure (typed_tree.IfElse (start_or label at) v first second)
  statement p label (Case at x more) = do
    v ← expression p.region x
    host ← case_index (first_of_expression x) v.typed
    ts ← arms p host (record { values = []; known = [] }) more
    pure (typed_tree.Case (start_or label at) v.node ts)
  statement p label (While at x s) = condition p x >>= (λ v. statement p None s >>= (λ t. pure (typed_tree.While (start_or label at) v t)))
  statement p label (Repeat at more x) = do
    ts ← sequence (labels_here more p) more
    v ← condition p x
    pure (typed_tree.Repeat (start_or label at) ts v)
  statement p label (For at head s) = do
    c ← used p.region head.variable >>= control p.region head.variable
    first ← limit p c.typed head.first
    last ← limit p c.typed head.last
    t ← statement (controlling c head p) None s
    pure (for_by (start_or label at) c.variable c.bounds head first last t)
  statement p label (With at records s) = do
    o ← open_records p.region records
    t ← statement (record p { region = o.region }) None s
    pure (typed_tree.With (start_or label at) (length p.region.opened) o.records t)

  pub sequence : Place → PlainStatements → Rule PlainTypedStatements
  sequence p NoStatements = pure typed_tree.NoStatements
  sequence p (Sequence s more) = statement p None s >>= (λ t. sequence p more >>= (λ ts. pure (typed_tree.Sequence t ts)))

  -- case-list-elements, behind those with these constants
  pub arms : Place → Option TypeId → Selecting → PlainArms → Rule PlainTypedArms
  arms p host known NoArms = pure typed_tree.NoArms
  arms p host known (Arm constants s more) = do
    c ← selecting (used p.region) host constants (record known { values = [] })
    t ← statement p None s
    ts ← arms p host c more
    pure (typed_tree.Arm c.values t ts)

-- ---- the statement part of a block (6.2.3, 6.6.2)

-- 315: neither the block of a function nor one in it assigns to the function. At `begin`.
abbrev pub result_set : Bool → ℕ → Rule (Unit {0})
result_set ok at = report_if (not ok) 315 at

abbrev pub outermost : List PathStep → PlainBlock → Place
outermost path own = labels_here (statements_of_part own.statements) (record { region = record { path = path; opened = []; controlled = [] }; own = own; labels = [] })

abbrev pub statement_part : List PathStep → PlainBlock → Rule PlainTypedStatements
statement_part path own = do
  ok ← lift (assigns path)
  result_set ok (begin_of own.statements)
  each (standing_label own) own.labels
  prefixes own [] (prefixes_in (statements_of_part own.statements))
  sequence (outermost path own) (statements_of_part own.statements)
