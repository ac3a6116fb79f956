-- Well-formed blocks. A tree's type lets lists be empty and expressions, types and statements stand anywhere; here is
-- left out what no program has of that.
use Rattle.std.specs.Prelude.{◌≡◌, ◌⊎◌, ℕ, ◌+◌, List, [], ◌∷◌, Option, Some, None}
use Rattle.mp_base.specs.declared.path.PathStep.{PathStep}
use Rattle.mp_ast.specs.declared.leaves.Sign.{Sign}
use Rattle.mp_ast.specs.declared.expressions.Operator.{Operator}
use Rattle.mp_ast.specs.declared.expressions.Operator.TheVariants as operator
use Rattle.mp_ast.specs.declared.blocks.ProgramHeading.{ProgramHeading}
use Rattle.mp_ast.specs.PlainExpressions as expr
use Rattle.mp_ast.specs.PlainExpressions.{PlainExpr, PlainSelectors, PlainActuals, PlainMembers, PlainOperations, PlainAccess}
use Rattle.mp_ast.specs.PlainStatements as statement
use Rattle.mp_ast.specs.PlainStatements.{PlainStatement, PlainStatements, PlainArms}
use Rattle.mp_ast.specs.PlainTypes as denoter
use Rattle.mp_ast.specs.PlainTypes.{PlainDenoter, PlainIndices, PlainSections, PlainVariants}
use Rattle.mp_ast.specs.PlainHeadings as heading
use Rattle.mp_ast.specs.PlainHeadings.{PlainFormalSection, PlainFormals}
use Rattle.mp_ast.specs.PlainTrees.{PlainTypeDefinition, PlainDeclaration, PlainBlock, statements_of_part}

-- at least one
abbrev pub IsSome : {A : Type 0} → List A → Type 0
IsSome [] = ⊥
IsSome (x ∷ more) = Unit {0}

-- ---- expressions

abbrev pub IsRelational : Operator → Type 0
IsRelational operator.Equal = Unit {0}
IsRelational operator.NotEqual = Unit {0}
IsRelational operator.Less = Unit {0}
IsRelational operator.LessOrEqual = Unit {0}
IsRelational operator.Greater = Unit {0}
IsRelational operator.GreaterOrEqual = Unit {0}
IsRelational operator.In = Unit {0}
IsRelational _ = ⊥

abbrev pub IsAdding : Operator → Type 0
IsAdding operator.Add = Unit {0}
IsAdding operator.Subtract = Unit {0}
IsAdding operator.Or = Unit {0}
IsAdding _ = ⊥

abbrev pub IsMultiplying : Operator → Type 0
IsMultiplying operator.Multiply = Unit {0}
IsMultiplying operator.Div = Unit {0}
IsMultiplying operator.Mod = Unit {0}
IsMultiplying operator.And = Unit {0}
IsMultiplying _ = ⊥

-- What may be an operand: a factor has no operator between operands, a term none that adds or relates, and a simple
-- expression none that relates. A sign counts as one that adds.
abbrev pub IsFactor : PlainExpr → Type 0
IsFactor (expr.Product first more) = ⊥
IsFactor (expr.Sum sign first more) = ⊥
IsFactor (expr.Relation left at o right) = ⊥
IsFactor _ = Unit {0}

abbrev pub IsTerm : PlainExpr → Type 0
IsTerm (expr.Sum sign first more) = ⊥
IsTerm (expr.Relation left at o right) = ⊥
IsTerm _ = Unit {0}

abbrev pub IsSimple : PlainExpr → Type 0
IsSimple (expr.Relation left at o right) = ⊥
IsSimple _ = Unit {0}

abbrev pub HasActual : PlainActuals → Type 0
HasActual expr.NoActuals = ⊥
HasActual _ = Unit {0}

abbrev pub HasOperation : PlainOperations → Type 0
HasOperation expr.NoOperations = ⊥
HasOperation _ = Unit {0}

-- a sign, or a further term
abbrev pub HasSignOrOperation : Option Sign → PlainOperations → Type 0
HasSignOrOperation None more = HasOperation more
HasSignOrOperation (Some sign) more = Unit {0}

abbrev mutual
  pub IsExpression : PlainExpr → Type 0
  IsExpression (expr.Number n) = Unit {0}
  IsExpression (expr.Text s) = Unit {0}
  IsExpression (expr.Nil at) = Unit {0}
  IsExpression (expr.Access name steps) = AreSelectors steps
  IsExpression (expr.Call name given) = HasActual given × AreActuals given
  IsExpression (expr.Inside at x) = IsExpression x
  IsExpression (expr.Not at x) = IsFactor x × IsExpression x
  IsExpression (expr.Set at inside) = AreMembers inside
  IsExpression (expr.Product first more) = IsFactor first × IsExpression first × HasOperation more × AreOperations IsMultiplying IsFactor more
  IsExpression (expr.Sum sign first more) = IsTerm first × IsExpression first × HasSignOrOperation sign more × AreOperations IsAdding IsTerm more
  IsExpression (expr.Relation left at o right) = IsSimple left × IsExpression left × IsRelational o × IsSimple right × IsExpression right

  pub AreSelectors : PlainSelectors → Type 0
  AreSelectors expr.NoSelectors = Unit {0}
  AreSelectors (expr.Index at x more) = IsExpression x × AreSelectors more
  AreSelectors (expr.Field at name more) = AreSelectors more
  AreSelectors (expr.Follow at more) = AreSelectors more

  pub AreActuals : PlainActuals → Type 0
  AreActuals expr.NoActuals = Unit {0}
  AreActuals (expr.Actual x more) = IsExpression x × AreActuals more
  AreActuals (expr.ActualWithWidth x at width more) = IsExpression x × IsExpression width × AreActuals more

  pub AreMembers : PlainMembers → Type 0
  AreMembers expr.NoMembers = Unit {0}
  AreMembers (expr.Member x more) = IsExpression x × AreMembers more
  AreMembers (expr.MemberRange first last more) = IsExpression first × IsExpression last × AreMembers more

  -- operations, all with operators and operands of these kinds
  pub AreOperations : (Operator → Type 0) → (PlainExpr → Type 0) → PlainOperations → Type 0
  AreOperations IsOperator IsOperand expr.NoOperations = Unit {0}
  AreOperations IsOperator IsOperand (expr.Operation at o x more) = IsOperator o × IsOperand x × IsExpression x × AreOperations IsOperator IsOperand more

abbrev pub IsAccess : PlainAccess → Type 0
IsAccess a = AreSelectors a.selectors

abbrev pub AreAccesses : List PlainAccess → Type 0
AreAccesses [] = Unit {0}
AreAccesses (a ∷ more) = IsAccess a × AreAccesses more

-- ---- statements

-- a label stands before a statement that has none
abbrev pub IsUnlabelled : PlainStatement → Type 0
IsUnlabelled (statement.Labelled label s) = ⊥
IsUnlabelled _ = Unit {0}

abbrev pub HasStatement : PlainStatements → Type 0
HasStatement statement.NoStatements = ⊥
HasStatement (statement.Sequence s more) = Unit {0}

abbrev pub HasArm : PlainArms → Type 0
HasArm statement.NoArms = ⊥
HasArm (statement.Arm constants body more) = Unit {0}

-- an `if` without `else` ends the statement, so that an `else` behind it would belong to that `if`
abbrev pub TakesElse : PlainStatement → Type 0
TakesElse (statement.Labelled label s) = TakesElse s
TakesElse (statement.If at condition first) = Unit {0}
TakesElse (statement.IfElse at condition first second) = TakesElse second
TakesElse (statement.While at condition body) = TakesElse body
TakesElse (statement.For at head body) = TakesElse body
TakesElse (statement.With at records body) = TakesElse body
TakesElse _ = ⊥

abbrev mutual
  pub IsStatement : PlainStatement → Type 0
  IsStatement (statement.Labelled label s) = IsUnlabelled s × IsStatement s
  IsStatement (statement.Empty at) = Unit {0}
  IsStatement (statement.Assign variable at value) = IsAccess variable × IsExpression value
  IsStatement (statement.Call name given) = AreActuals given
  IsStatement (statement.Goto at label) = Unit {0}
  IsStatement (statement.Compound at inside) = HasStatement inside × AreStatements inside
  IsStatement (statement.If at condition first) = IsExpression condition × IsStatement first
  IsStatement (statement.IfElse at condition first second) = IsExpression condition × IsStatement first × (TakesElse first → ⊥) × IsStatement second
  IsStatement (statement.Case at index arms) = IsExpression index × HasArm arms × AreArms arms
  IsStatement (statement.While at condition body) = IsExpression condition × IsStatement body
  IsStatement (statement.Repeat at inside condition) = HasStatement inside × AreStatements inside × IsExpression condition
  IsStatement (statement.For at head body) = IsExpression head.first × IsExpression head.last × IsStatement body
  IsStatement (statement.With at records body) = IsSome records × AreAccesses records × IsStatement body

  pub AreStatements : PlainStatements → Type 0
  AreStatements statement.NoStatements = Unit {0}
  AreStatements (statement.Sequence s more) = IsStatement s × AreStatements more

  pub AreArms : PlainArms → Type 0
  AreArms statement.NoArms = Unit {0}
  AreArms (statement.Arm constants body more) = IsSome constants × IsStatement body × AreArms more

-- ---- types

-- the type of an index, and the base type of a set
abbrev pub IsSimpleType : PlainDenoter → Type 0
IsSimpleType (denoter.Named name) = Unit {0}
IsSimpleType (denoter.Enumeration at constants) = Unit {0}
IsSimpleType (denoter.Subrange first last) = Unit {0}
IsSimpleType _ = ⊥

-- a field list, which stands in a record and in a variant alone
abbrev pub IsFieldList : PlainDenoter → Type 0
IsFieldList (denoter.Fields fixed) = Unit {0}
IsFieldList (denoter.FieldsWithVariants fixed at tag of cases) = Unit {0}
IsFieldList _ = ⊥

abbrev pub IsType : PlainDenoter → Type 0
IsType (denoter.Fields fixed) = ⊥
IsType (denoter.FieldsWithVariants fixed at tag of cases) = ⊥
IsType _ = Unit {0}

-- at least one index type, of which the first is that of the array at this ordinal
abbrev pub BeginAt : ℕ → PlainIndices → Type 0
BeginAt at denoter.NoIndices = ⊥
BeginAt at (denoter.Index first of more) = first ≡ at

-- the word of a structure is its first token, or stands behind its first token, which is `packed` then
abbrev pub IsFirstWord : ℕ → ℕ → Type 0
IsFirstWord at word = (word ≡ at) ⊎ (word ≡ at + 1)

abbrev pub HasVariant : PlainVariants → Type 0
HasVariant denoter.NoVariants = ⊥
HasVariant (denoter.Variant constants fields more) = Unit {0}

abbrev mutual
  pub IsDenoter : PlainDenoter → Type 0
  IsDenoter (denoter.Named name) = Unit {0}
  IsDenoter (denoter.Enumeration at constants) = IsSome constants
  IsDenoter (denoter.Subrange first last) = Unit {0}
  IsDenoter (denoter.Pointer at domain) = Unit {0}
  IsDenoter (denoter.Array at packed by component) = BeginAt at by × AreIndices by × IsType component × IsDenoter component
  IsDenoter (denoter.Record at packed fields) = IsFieldList fields × IsDenoter fields
  IsDenoter (denoter.Set at packed base) = IsSimpleType base × IsDenoter base
  IsDenoter (denoter.File at file component) = IsFirstWord at file × IsType component × IsDenoter component
  IsDenoter (denoter.Fields fixed) = AreSections fixed
  IsDenoter (denoter.FieldsWithVariants fixed at tag of cases) = AreSections fixed × HasVariant cases × AreVariants cases

  pub AreIndices : PlainIndices → Type 0
  AreIndices denoter.NoIndices = Unit {0}
  AreIndices (denoter.Index at of more) = IsSimpleType of × IsDenoter of × AreIndices more

  pub AreSections : PlainSections → Type 0
  AreSections denoter.NoSections = Unit {0}
  AreSections (denoter.Section names of more) = IsSome names × IsType of × IsDenoter of × AreSections more

  pub AreVariants : PlainVariants → Type 0
  AreVariants denoter.NoVariants = Unit {0}
  AreVariants (denoter.Variant constants fields more) = IsSome constants × IsFieldList fields × IsDenoter fields × AreVariants more

-- ---- headings

abbrev mutual
  pub IsFormal : PlainFormalSection → Type 0
  IsFormal (heading.Values names of) = IsSome names
  IsFormal (heading.Variables at names of) = IsSome names
  IsFormal (heading.Procedure at name own) = AreFormals own
  IsFormal (heading.Function at name own result) = AreFormals own

  pub AreFormals : PlainFormals → Type 0
  AreFormals heading.NoFormals = Unit {0}
  AreFormals (heading.Formal f more) = IsFormal f × AreFormals more

-- ---- blocks

abbrev pub AreTypeDefinitions : List PlainTypeDefinition → Type 0
AreTypeDefinitions [] = Unit {0}
AreTypeDefinitions (definition ∷ more) = IsType definition.of × IsDenoter definition.of × AreTypeDefinitions more

abbrev pub AreDeclarations : List PlainDeclaration → Type 0
AreDeclarations [] = Unit {0}
AreDeclarations (d ∷ more) = AreFormals d.heading.formals × AreDeclarations more

pub record IsWellFormed (own : PlainBlock) : Type 0 where
  pub types : AreTypeDefinitions own.types
  pub variables : AreSections own.variables
  pub declarations : AreDeclarations own.declarations
  pub some_statement : HasStatement (statements_of_part own.statements)
  pub statements : AreStatements (statements_of_part own.statements)

-- the block with the empty path, which is the program's, has the program's heading, and no other block has one
abbrev pub FitsItsPath : List PathStep → Option ProgramHeading → Type 0
FitsItsPath [] None = ⊥
FitsItsPath [] (Some heading) = Unit {0}
FitsItsPath (step ∷ path) None = Unit {0}
FitsItsPath (step ∷ path) (Some heading) = ⊥
