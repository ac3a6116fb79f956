-- What stands where in the statement part of a block, by spelling.
use Rattle.std.specs.Prelude.{ℕ, Bool, List, [], ◌∷◌, ◌++◌, Option, Some, None, filter_map, count_by, decimal, nat_eq, if◌then◌else◌}
use Rattle.std.specs.List.{list_any}
use Rattle.mp_ast.specs.declared.leaves.Identifier.{Identifier}
use Rattle.mp_ast.specs.declared.leaves.Number.{Number}
use Rattle.mp_ast.specs.PlainExpressions.{PlainSelectors, NoSelectors}
use Rattle.mp_ast.specs.PlainStatements.{PlainStatement, Labelled, Empty, Assign, Call, Goto, Compound, If, IfElse, Case, While, Repeat, For, With, PlainStatements, NoStatements, Sequence, PlainArms, NoArms, Arm}
use Rattle.mp_ast.specs.PlainTrees as part
use Rattle.mp_ast.specs.PlainTrees.{PlainStatementPart}
use Rattle.mp_tables.specs.declared.declarations.LabelStanding.{LabelStanding}
use Rattle.mp_tables.specs.declared.declarations.LabelStanding.TheVariants as standing

-- ---- a statement part: the ordinals of its `begin` and of its `end`

abbrev pub begin_of : PlainStatementPart → ℕ
begin_of (part.Compound begin found end) = begin

abbrev pub end_of : PlainStatementPart → ℕ
end_of (part.Compound begin found end) = end

-- ---- the statements of a statement part, each followed by those in it
abbrev mutual
  pub with_inner : PlainStatement → List PlainStatement
  with_inner (Labelled label s) = Labelled label s ∷ with_inner s
  with_inner (Compound at statements) = Compound at statements ∷ all_statements statements
  with_inner (If at condition s) = If at condition s ∷ with_inner s
  with_inner (IfElse at condition s t) = IfElse at condition s t ∷ with_inner s ++ with_inner t
  with_inner (Case at index arms) = Case at index arms ∷ arm_statements arms
  with_inner (While at condition s) = While at condition s ∷ with_inner s
  with_inner (Repeat at statements condition) = Repeat at statements condition ∷ all_statements statements
  with_inner (For at head s) = For at head s ∷ with_inner s
  with_inner (With at records s) = With at records s ∷ with_inner s
  with_inner (Empty at) = Empty at ∷ []
  with_inner (Assign variable at value) = Assign variable at value ∷ []
  with_inner (Call name given) = Call name given ∷ []
  with_inner (Goto at label) = Goto at label ∷ []

  pub all_statements : PlainStatements → List PlainStatement
  all_statements NoStatements = []
  all_statements (Sequence s more) = with_inner s ++ all_statements more

  pub arm_statements : PlainArms → List PlainStatement
  arm_statements NoArms = []
  arm_statements (Arm constants s more) = with_inner s ++ arm_statements more

-- ---- names that are set

abbrev pub controlled_by : PlainStatement → Option (List ℕ)
controlled_by (For at head s) = Some head.variable.name
controlled_by _ = None

-- the names of the control variables of its `for` statements
abbrev pub controls_in : PlainStatements → List (List ℕ)
controls_in statements = filter_map controlled_by (all_statements statements)

abbrev pub bare : Identifier → PlainSelectors → Option (List ℕ)
bare x NoSelectors = Some x.name
bare x _ = None

abbrev pub assigned_by : PlainStatement → Option (List ℕ)
assigned_by (Assign variable at value) = bare variable.name variable.selectors
assigned_by _ = None

-- the bare names on the left of `:=`
abbrev pub assigned_in : PlainStatements → List (List ℕ)
assigned_in statements = filter_map assigned_by (all_statements statements)

-- ---- labels

-- the name that a label has among those of a block: no identifier begins with a digit
abbrev pub label_name : ℕ → List ℕ
label_name value = decimal value

abbrev pub prefix_of : PlainStatement → Option Number
prefix_of (Labelled label s) = Some label
prefix_of _ = None

-- the labels before its statements
abbrev pub prefixes_in : PlainStatements → List Number
prefixes_in statements = filter_map prefix_of (all_statements statements)

-- the labels before the statements of a sequence itself
abbrev pub outermost_prefixes : PlainStatements → List Number
outermost_prefixes NoStatements = []
outermost_prefixes (Sequence (Labelled label s) more) = label ∷ outermost_prefixes more
outermost_prefixes (Sequence s more) = outermost_prefixes more

abbrev pub has_value : ℕ → Number → Bool
has_value value n = nat_eq n.value value

-- where a label stands in a statement part
abbrev pub standing_of : PlainStatements → ℕ → LabelStanding
standing_of statements value =
    if nat_eq (count_by (has_value value) (prefixes_in statements)) 1 then
    (if list_any (has_value value) (outermost_prefixes statements) then standing.Outermost else standing.Inner)
    else standing.NotOnce
