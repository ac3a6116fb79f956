-- Expressions (ISO 7185, 6.7): their types, their trees with resolved names, and their errors.
use Rattle.std.specs.Prelude.{ℕ, ◌+◌, pos, Bool, true, false, not, ◌||◌, List, [], ◌∷◌, Option, Some, None, option_map, if◌then◌else◌}
use Rattle.mp_base.specs.declared.limits.TheConstants.{MAXINT}
use Rattle.mp_ast.specs.declared.leaves.Identifier.{Identifier}
use Rattle.mp_ast.specs.declared.leaves.Sign.{Sign}
use Rattle.mp_ast.specs.PlainExpressions.{PlainExpr, Number, Text, Nil, Access, Call, Inside, Not, Set, Product, Sum, Relation, PlainSelectors, NoSelectors, Index, Field, Follow, PlainActuals, NoActuals, Actual, ActualWithWidth, PlainMembers, NoMembers, Member, MemberRange, PlainOperations, NoOperations, Operation}
use Rattle.mp_ast.specs.FirstTokens.{first_of_expression}
use Rattle.mp_tables.specs.declared.types.TypeId.{TypeId}
use Rattle.mp_tables.specs.declared.types.TypeId.TheVariants as type
use Rattle.mp_tables.specs.declared.types.Bounds.{Bounds}
use Rattle.mp_tables.specs.declared.types.Shape.TheVariants as shape
use Rattle.mp_tables.specs.declared.types.Typed.{Typed}
use Rattle.mp_tables.specs.declared.headings.FormalKind.{FormalKind}
use Rattle.mp_tables.specs.declared.headings.FormalKind.TheVariants as formal
use Rattle.mp_tables.specs.declared.required.Required.{Required}
use Rattle.mp_tables.specs.declared.required.Required.TheVariants as name
use Rattle.mp_tables.specs.declared.declarations.ConstantValue.{ConstantValue}
use Rattle.mp_tables.specs.declared.declarations.ConstantValue.TheVariants as value
use Rattle.mp_tables.specs.declared.declarations.Decl.TheVariants as decl
use Rattle.mp_tables.specs.PlainTypedExpressions.{PlainTypedExpr, PlainTypedMembers}
use Rattle.mp_tables.specs.PlainTypedExpressions as tree
use Rattle.mp_tables.specs.Reports.{Rule, pure, ◌>>=◌, ◌>>◌, report, report_if, refuse, each}
use Rattle.mp_tables.specs.TypeRelations.{same, same_kind, ordinal}
use Rattle.mp_tables.specs.Names.{Region, Use, Declared, used}
use Rattle.mp_tables.specs.Constants.{integer_constant, string_constant, constant_type, with_sign}
use Rattle.mp_tables.specs.Variables.{Accessed, Expressed, computed, wrong, unknown, loaded, index_step, field_step, follow_step, Selected, not_selected, stepped, part_of, variable_use}
use Rattle.mp_tables.specs.Operators.{Chained, operation, chained, signed_term, negated, relation}
use Rattle.mp_tables.specs.Calls.{Given, Judged, JudgedWidth, no_width, given_use, routine_use, procedural, function_value}
use Rattle.mp_tables.specs.RequiredCalls.{required_value}

-- ---- constants

abbrev pub constant_node : ConstantValue → PlainTypedExpr
constant_node (value.Ordinal host n) = tree.Ordinal n
constant_node (value.Text s) = tree.Text s

abbrev pub constant_value : ConstantValue → Rule Expressed
constant_value v = constant_type v >>= (λ t. pure (record (computed (Some t) (constant_node v)) { constant = Some (Some v) }))

-- a constant's name, whose constant may be missing
abbrev pub constant_if : Option ConstantValue → Rule Expressed
constant_if None = pure (record wrong { constant = Some None })
constant_if (Some v) = constant_value v

-- a constant with a sign is a constant, where it is a number or a name
abbrev pub sign_constant : Sign → Option ConstantValue → Option ConstantValue
sign_constant s (Some (value.Ordinal host n)) = Some (value.Ordinal host (with_sign s.kind n))
sign_constant s v = v

abbrev pub is_signed_constant : PlainExpr → Bool
is_signed_constant (Number n) = true
is_signed_constant (Access x NoSelectors) = true
is_signed_constant _ = false

abbrev pub signed_constant : Option Sign → PlainExpr → Expressed → Expressed → Expressed
signed_constant None first x y = y
signed_constant (Some s) first x y = if is_signed_constant first then record y { constant = option_map (sign_constant s) x.constant } else y

-- the first term of a sum, with its sign
abbrev pub sign_of : Option Sign → PlainExpr → Expressed → Rule Expressed
sign_of None first x = pure x
sign_of (Some s) first x = signed_term s x >>= (λ y. pure (signed_constant (Some s) first x y))

-- ---- a name alone: a variable, a constant, or a function without parameters (6.5.1, 6.7.1, 6.7.3)

abbrev pub refused : ℕ → List Judged → Rule Expressed
refused at js = report 305 at >> each no_width js >> pure wrong

abbrev pub value_or_refused : ℕ → List Judged → Option (Rule Expressed) → Rule Expressed
value_or_refused at js None = refused at js
value_or_refused at js (Some m) = m

-- the value of a required name
abbrev pub required_name_value : Region → ℕ → Required → Rule Expressed
required_name_value r at name.False = constant_value (value.Ordinal type.Boolean (pos 0))
required_name_value r at name.True = constant_value (value.Ordinal type.Boolean (pos 1))
required_name_value r at name.Maxint = constant_value (integer_constant MAXINT)
required_name_value r at n = value_or_refused at [] (required_value r at n [])

abbrev pub given_value : Region → ℕ → List Judged → Given → Rule Expressed
given_value r at js g = by_kind g.kind
  where
    by_kind : FormalKind → Rule Expressed
    by_kind formal.Function = function_value r at g js
    by_kind _ = refused at js

-- a declared function, or a functional parameter
abbrev pub function_if : Region → ℕ → List Judged → Option Given → Rule Expressed
function_if r at js None = refused at js
function_if r at js (Some g) = given_value r at js g

-- 305: a value is wanted, and the name has none. At the name.
abbrev pub declared_value : Region → Identifier → Use → Rule Expressed
declared_value r x (Declared (decl.Const path v)) = constant_if v
declared_value r x (Declared (decl.Required n)) = required_name_value r x.at n
declared_value r x u = function_if r x.at [] (given_use x.name u)

abbrev pub value_by : Region → Identifier → Use → Option Accessed → Rule Expressed
value_by r x u (Some a) = pure (loaded a)
value_by r x u None = declared_value r x u

abbrev pub name_value : Region → Identifier → Option Use → Rule Expressed
name_value r x None = pure unknown
name_value r x (Some u) = variable_use x.name u >>= value_by r x u

-- ---- variables

abbrev pub variable_or_refused : ℕ → Option Accessed → Rule (Option Accessed)
variable_or_refused at None = refuse 305 at
variable_or_refused at (Some a) = pure (Some a)

-- 305: a variable is wanted, and the name is none. At the name.
abbrev pub variable_name : Region → Identifier → Option Use → Rule (Option Accessed)
variable_name r x None = pure None
variable_name r x (Some u) = variable_use x.name u >>= variable_or_refused x.at

-- a part of a variable; where the name is none, the selectors are judged all the same
abbrev pub selected_variable : Option Accessed → Selected → Option Accessed
selected_variable None s = None
selected_variable (Some a) s = Some (part_of a s)

abbrev pub start_of : Option Accessed → Selected
start_of None = record { selectors = tree.NoSelectors; typed = None; guarded = false; tagging = None }
start_of (Some a) = not_selected a

abbrev pub loaded_if : Option Accessed → Expressed
loaded_if None = unknown
loaded_if (Some a) = loaded a

-- ---- calls

abbrev pub called_by : Region → Identifier → List Judged → Use → Rule Expressed
called_by r x js (Declared (decl.Required n)) = value_or_refused x.at js (required_value r x.at n js)
called_by r x js u = function_if r x.at js (given_use x.name u)

-- 305: a function is wanted, and the name is none. At the name.
abbrev pub called : Region → Identifier → Option Use → List Judged → Rule Expressed
called r x None js = each no_width js >> pure wrong
called r x (Some u) js = called_by r x js u

-- which actuals of a call name procedures and functions, where what is called is of the wanted kind
abbrev pub procedural_in : FormalKind → Option Given → ℕ → List Bool
procedural_in kind None n = []
procedural_in kind (Some g) n = if same_kind kind g.kind then procedural g.heading n else []

abbrev pub procedural_of : FormalKind → Identifier → Option Use → ℕ → List Bool
procedural_of kind x None n = []
procedural_of kind x (Some u) n = procedural_in kind (given_use x.name u) n

abbrev pub count : PlainActuals → ℕ
count NoActuals = 0
count (Actual x more) = 1 + count more
count (ActualWithWidth x at w more) = 1 + count more

abbrev pub tail : List Bool → List Bool
tail [] = []
tail (b ∷ bs) = bs

abbrev pub is_first : List Bool → Bool
is_first [] = false
is_first (b ∷ bs) = b

-- ---- set constructors (6.7.1)

-- the members so far: the host type of the first that is ordinal, and whether one has an error
pub record Members : Type 0 where
  pub host : Option TypeId
  pub missing : Bool

-- 351: the member is of another host type than the first. At its first token.
abbrev pub member_host : ℕ → Members → Bounds → Rule Members
member_host at m b = by_host m.host
  where
    by_host : Option TypeId → Rule Members
    by_host None = pure (record m { host = Some b.host })
    by_host (Some h) = report_if (not (same h b.host)) 351 at >> pure (record m { missing = m.missing || not (same h b.host) })

-- 318: the member is not ordinal. At its first token.
abbrev pub member_by : ℕ → Members → Option Bounds → Rule Members
member_by at m None = report 318 at >> pure (record m { missing = true })
member_by at m (Some b) = member_host at m b

abbrev pub member : ℕ → Expressed → Members → Rule Members
member at x m = by_type x.typed
  where
    by_type : Option Typed → Rule Members
    by_type None = pure (record m { missing = true })
    by_type (Some t) = member_by at m (ordinal t)

-- the values of a set's members lie in 0..255
abbrev pub base_of : Option TypeId → Option Bounds
base_of None = None
base_of (Some h) = Some (record { host = h; low = pos 0; high = pos 255 })

abbrev pub set_value : Members → PlainTypedMembers → Expressed
set_value m nodes =
    if m.missing then wrong else computed (Some (record { id = None; shape = shape.SetOf None (base_of m.host) })) (tree.Set nodes)

-- members, and what they come to
pub record MemberList : Type 0 where
  pub so_far : Members
  pub nodes : PlainTypedMembers

abbrev pub no_members : Members
no_members = record { host = None; missing = false }

-- ---- all expressions

abbrev pub nil_type : Typed
nil_type = record { id = None; shape = shape.Ptr None }

abbrev pub judged : ℕ → Expressed → Option Given → Option JudgedWidth → Judged
judged at x g w = record { first = at; value = x; given = g; width = w }

-- An actual parameter, whose value is found by this rule. 344: what should name a procedure or function is no name alone. At its
-- first token.
abbrev pub actual : Region → Bool → PlainExpr → Rule Expressed → Rule Judged
actual r true (Access x NoSelectors) value = used r x >>= routine_use x >>= (λ g. pure (judged x.at wrong g None))
actual r true x value = value >> report 344 (first_of_expression x) >> pure (judged (first_of_expression x) wrong None None)
actual r false x value = value >>= (λ v. pure (judged (first_of_expression x) v None None))

abbrev mutual
  pub expression : Region → PlainExpr → Rule Expressed
  expression r (Number n) = constant_value (integer_constant n.value)
  expression r (Text s) = constant_value (string_constant s.characters)
  expression r (Nil at) = pure (computed (Some nil_type) tree.Nil)
  expression r (Access x NoSelectors) = used r x >>= name_value r x
  expression r (Access x steps) = used r x >>= variable_name r x >>= (λ a. selected r steps (start_of a) >>= (λ s. pure (loaded_if (selected_variable a s))))
  expression r (Call x given) = used r x >>= (λ u. actuals r (procedural_of formal.Function x u (count given)) given >>= called r x u)
  expression r (Inside at x) = expression r x >>= (λ v. pure (computed v.typed v.node))
  expression r (Not at x) = expression r x >>= negated at
  expression r (Set at ms) = members r ms no_members >>= (λ m. pure (set_value m.so_far m.nodes))
  expression r (Product first more) = expression r first >>= (λ x. operations r x.typed more >>= (λ c. pure (chained x.node c)))
  expression r (Sum s first NoOperations) = expression r first >>= sign_of s first
  expression r (Sum s first more) = expression r first >>= sign_of s first >>= (λ x. operations r x.typed more >>= (λ c. pure (chained x.node c)))
  expression r (Relation x at o y) = expression r x >>= (λ a. expression r y >>= relation at o a)

  -- what the selectors of a variable select, and their tree
  pub selected : Region → PlainSelectors → Selected → Rule Selected
  selected r NoSelectors s = pure s
  selected r (Index at x more) s = do
    i ← expression r x
    step ← index_step at (first_of_expression x) i s.typed
    selected r more (stepped step) >>= (λ u. pure (record u { selectors = step.tree u.selectors }))
  selected r (Field at x more) s = field_step at x s.typed >>= (λ step. selected r more (stepped step) >>= (λ u. pure (record u { selectors = step.tree u.selectors })))
  selected r (Follow at more) s = follow_step at s.typed >>= (λ step. selected r more (stepped step) >>= (λ u. pure (record u { selectors = step.tree u.selectors })))

  -- actual parameters, of which these name procedures or functions
  pub actuals : Region → List Bool → PlainActuals → Rule (List Judged)
  actuals r routines NoActuals = pure []
  actuals r routines (Actual x more) = actual r (is_first routines) x (expression r x) >>= (λ j. actuals r (tail routines) more >>= (λ js. pure (j ∷ js)))
  actuals r routines (ActualWithWidth x at w more) = do
    j ← actual r (is_first routines) x (expression r x)
    v ← expression r w
    js ← actuals r (tail routines) more
    pure (record j { width = Some (record { at = at; value = v }) } ∷ js)

  pub operations : Region → Option Typed → PlainOperations → Rule Chained
  operations r left NoOperations = pure (record { typed = left; operations = tree.NoOperations })
  operations r left (Operation at o x more) = do
    y ← expression r x
    z ← operation at o left y.typed
    c ← operations r z.typed more
    pure (record c { operations = tree.Operation z.operator y.node c.operations })

  pub members : Region → PlainMembers → Members → Rule MemberList
  members r NoMembers m = pure (record { so_far = m; nodes = tree.NoMembers })
  members r (Member x more) m = do
    a ← expression r x
    n ← member (first_of_expression x) a m
    l ← members r more n
    pure (record l { nodes = tree.Member a.node l.nodes })
  members r (MemberRange x y more) m = do
    a ← expression r x
    b ← expression r y
    n ← member (first_of_expression x) a m >>= member (first_of_expression y) b
    l ← members r more n
    pure (record l { nodes = tree.MemberRange a.node b.node l.nodes })
