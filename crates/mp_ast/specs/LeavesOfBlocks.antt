-- The leaves of statements, type denoters, headings and blocks.
use Rattle.std.specs.Prelude.{ℕ, Bool, true, false, List, [], ◌∷◌, ◌++◌, Option, Some, None, nat_eq, if◌then◌else◌}
use Rattle.mp_ast.specs.declared.tokens.TokenKind.TheVariants as kind
use Rattle.mp_ast.specs.declared.words.WordSymbol.{WordSymbol}
use Rattle.mp_ast.specs.declared.words.WordSymbol.TheVariants as w
use Rattle.mp_ast.specs.declared.symbols.Symbol.TheVariants as s
use Rattle.mp_ast.specs.declared.leaves.Identifier.{Identifier}
use Rattle.mp_ast.specs.declared.leaves.Number.{Number}
use Rattle.mp_ast.specs.declared.headings.HeadingKind.{HeadingKind}
use Rattle.mp_ast.specs.declared.headings.HeadingKind.TheVariants as heading
use Rattle.mp_ast.specs.declared.blocks.ProgramHeading.{ProgramHeading}
use Rattle.mp_ast.specs.declared.blocks.ConstantDefinition.{ConstantDefinition}
use Rattle.mp_ast.specs.declared.blocks.DeclaredBody.{DeclaredBody}
use Rattle.mp_ast.specs.declared.blocks.DeclaredBody.TheVariants as body
use Rattle.mp_ast.specs.PlainExpressions.{PlainAccess}
use Rattle.mp_ast.specs.PlainStatements.{PlainStatement, PlainStatements, PlainArms, PlainForHead}
use Rattle.mp_ast.specs.PlainTypes.{PlainDenoter, PlainIndices, PlainSections, PlainVariants}
use Rattle.mp_ast.specs.PlainHeadings.{PlainFormalSection, PlainFormals, PlainHeading}
use Rattle.mp_ast.specs.PlainTrees.{PlainTypeDefinition, PlainDeclaration, PlainStatementPart, PlainBlock}
use Rattle.mp_ast.specs.Leaves.{Leaf, Name, Forward, Mark, Before, number_leaf, leaves_of_constant, leaves_of_constants}
use Rattle.mp_ast.specs.Leaves.{leaves_of_names, leaves_of_expression, leaves_of_access, leaves_of_actuals}

-- ---- statements (ISO 7185, 6.8)

abbrev pub leaves_of_records : List PlainAccess → List Leaf
leaves_of_records [] = []
leaves_of_records (a ∷ more) = leaves_of_access a ++ leaves_of_records more

abbrev pub leaves_of_head : PlainForHead → List Leaf
leaves_of_head h = Name h.variable ∷ Mark h.assign (kind.Symbol s.Assign) ∷ leaves_of_expression h.first ++ leaves_of_expression h.last

abbrev mutual
  pub leaves_of_statement : PlainStatement → List Leaf
  leaves_of_statement (PlainStatement.Labelled label x) = number_leaf label ∷ leaves_of_statement x
  leaves_of_statement (PlainStatement.Empty at) = Before at ∷ []
  leaves_of_statement (PlainStatement.Assign variable at value) = leaves_of_access variable ++ Mark at (kind.Symbol s.Assign) ∷ leaves_of_expression value
  leaves_of_statement (PlainStatement.Call name given) = Name name ∷ leaves_of_actuals given
  leaves_of_statement (PlainStatement.Goto at label) = Mark at (kind.Word w.Goto) ∷ number_leaf label ∷ []
  leaves_of_statement (PlainStatement.Compound at statements) = Mark at (kind.Word w.Begin) ∷ leaves_of_statements statements
  leaves_of_statement (PlainStatement.If at condition x) = Mark at (kind.Word w.If) ∷ leaves_of_expression condition ++ leaves_of_statement x
  leaves_of_statement (PlainStatement.IfElse at condition first second) =
      Mark at (kind.Word w.If) ∷ leaves_of_expression condition ++ (leaves_of_statement first ++ leaves_of_statement second)
  leaves_of_statement (PlainStatement.Case at index arms) = Mark at (kind.Word w.Case) ∷ leaves_of_expression index ++ leaves_of_arms arms
  leaves_of_statement (PlainStatement.While at condition x) = Mark at (kind.Word w.While) ∷ leaves_of_expression condition ++ leaves_of_statement x
  leaves_of_statement (PlainStatement.Repeat at statements condition) =
      Mark at (kind.Word w.Repeat) ∷ leaves_of_statements statements ++ leaves_of_expression condition
  leaves_of_statement (PlainStatement.For at head x) = Mark at (kind.Word w.For) ∷ leaves_of_head head ++ leaves_of_statement x
  leaves_of_statement (PlainStatement.With at records x) = Mark at (kind.Word w.With) ∷ leaves_of_records records ++ leaves_of_statement x

  pub leaves_of_statements : PlainStatements → List Leaf
  leaves_of_statements PlainStatements.NoStatements = []
  leaves_of_statements (PlainStatements.Sequence x more) = leaves_of_statement x ++ leaves_of_statements more

  pub leaves_of_arms : PlainArms → List Leaf
  leaves_of_arms PlainArms.NoArms = []
  leaves_of_arms (PlainArms.Arm constants x more) = leaves_of_constants constants ++ (leaves_of_statement x ++ leaves_of_arms more)

-- ---- type denoters (ISO 7185, 6.4)

-- the first word of a structured type
abbrev pub first_word : Bool → WordSymbol → WordSymbol
first_word true word = w.Packed
first_word false word = word

-- a file's first word, and `file`, where that is another
abbrev pub file_words : (at file : ℕ) → List Leaf
file_words at file =
    if nat_eq at file then Mark file (kind.Word w.File) ∷ [] else Mark at (kind.Word w.Packed) ∷ Mark file (kind.Word w.File) ∷ []

abbrev pub leaves_of_tag : Option Identifier → List Leaf
leaves_of_tag None = []
leaves_of_tag (Some name) = Name name ∷ []

abbrev mutual
  pub leaves_of_denoter : PlainDenoter → List Leaf
  leaves_of_denoter (PlainDenoter.Named name) = Name name ∷ []
  leaves_of_denoter (PlainDenoter.Enumeration at constants) = Mark at (kind.Symbol s.LeftParen) ∷ leaves_of_names constants
  leaves_of_denoter (PlainDenoter.Subrange first last) = leaves_of_constant first ++ leaves_of_constant last
  leaves_of_denoter (PlainDenoter.Pointer at domain) = Mark at (kind.Symbol s.Caret) ∷ Name domain ∷ []
  leaves_of_denoter (PlainDenoter.Array at packed indices component) =
      Mark at (kind.Word (first_word packed w.Array)) ∷ leaves_of_indices indices ++ leaves_of_denoter component
  leaves_of_denoter (PlainDenoter.Record at packed fields) = Mark at (kind.Word (first_word packed w.Record)) ∷ leaves_of_denoter fields
  leaves_of_denoter (PlainDenoter.Set at packed base) = Mark at (kind.Word (first_word packed w.Set)) ∷ leaves_of_denoter base
  leaves_of_denoter (PlainDenoter.File at file component) = file_words at file ++ leaves_of_denoter component
  leaves_of_denoter (PlainDenoter.Fields fixed) = leaves_of_sections fixed
  leaves_of_denoter (PlainDenoter.FieldsWithVariants fixed at tag of variants) =
      leaves_of_sections fixed ++ (Mark at (kind.Word w.Case) ∷ leaves_of_tag tag ++ Name of ∷ leaves_of_variants variants)

  -- the first index stands at the array's own first word, a further one at the `,` before it
  pub leaves_of_indices : PlainIndices → List Leaf
  leaves_of_indices PlainIndices.NoIndices = []
  leaves_of_indices (PlainIndices.Index at x more) = leaves_of_denoter x ++ leaves_of_further more

  pub leaves_of_further : PlainIndices → List Leaf
  leaves_of_further PlainIndices.NoIndices = []
  leaves_of_further (PlainIndices.Index at x more) = Mark at (kind.Symbol s.Comma) ∷ leaves_of_denoter x ++ leaves_of_further more

  pub leaves_of_sections : PlainSections → List Leaf
  leaves_of_sections PlainSections.NoSections = []
  leaves_of_sections (PlainSections.Section names of more) = leaves_of_names names ++ (leaves_of_denoter of ++ leaves_of_sections more)

  pub leaves_of_variants : PlainVariants → List Leaf
  leaves_of_variants PlainVariants.NoVariants = []
  leaves_of_variants (PlainVariants.Variant constants fields more) =
      leaves_of_constants constants ++ (leaves_of_denoter fields ++ leaves_of_variants more)

-- ---- headings (ISO 7185, 6.6)

abbrev mutual
  pub leaves_of_formal : PlainFormalSection → List Leaf
  leaves_of_formal (PlainFormalSection.Values names of) = leaves_of_names names ++ Name of ∷ []
  leaves_of_formal (PlainFormalSection.Variables at names of) = Mark at (kind.Word w.Var) ∷ leaves_of_names names ++ Name of ∷ []
  leaves_of_formal (PlainFormalSection.Procedure at name own) = Mark at (kind.Word w.Procedure) ∷ Name name ∷ leaves_of_formals own
  leaves_of_formal (PlainFormalSection.Function at name own result) =
      Mark at (kind.Word w.Function) ∷ Name name ∷ leaves_of_formals own ++ Name result ∷ []

  pub leaves_of_formals : PlainFormals → List Leaf
  leaves_of_formals PlainFormals.NoFormals = []
  leaves_of_formals (PlainFormals.Formal x more) = leaves_of_formal x ++ leaves_of_formals more

abbrev pub heading_word : HeadingKind → WordSymbol
heading_word heading.Procedure = w.Procedure
heading_word (heading.Function result) = w.Function

abbrev pub leaves_of_result : HeadingKind → List Leaf
leaves_of_result heading.Procedure = []
leaves_of_result (heading.Function result) = leaves_of_tag result

abbrev pub leaves_of_heading : PlainHeading → List Leaf
leaves_of_heading h = Mark h.at (kind.Word (heading_word h.kind)) ∷ Name h.name ∷ leaves_of_formals h.formals ++ leaves_of_result h.kind

-- ---- blocks (ISO 7185, 6.2 and 6.10)

abbrev pub leaves_of_program : Option ProgramHeading → List Leaf
leaves_of_program None = []
leaves_of_program (Some h) = Name h.name ∷ leaves_of_names h.parameters

abbrev pub leaves_of_labels : List Number → List Leaf
leaves_of_labels [] = []
leaves_of_labels (n ∷ more) = number_leaf n ∷ leaves_of_labels more

abbrev pub semicolon_leaf : ℕ → Leaf
semicolon_leaf at = Mark at (kind.Symbol s.Semicolon)

abbrev pub leaves_of_constant_definitions : List ConstantDefinition → List Leaf
leaves_of_constant_definitions [] = []
leaves_of_constant_definitions (d ∷ more) =
    Name d.name ∷ leaves_of_constant d.value ++ semicolon_leaf d.semicolon ∷ leaves_of_constant_definitions more

abbrev pub leaves_of_type_definitions : List PlainTypeDefinition → List Leaf
leaves_of_type_definitions [] = []
leaves_of_type_definitions (d ∷ more) = Name d.name ∷ leaves_of_denoter d.of ++ semicolon_leaf d.semicolon ∷ leaves_of_type_definitions more

abbrev pub leaves_of_body : DeclaredBody → List Leaf
leaves_of_body body.Block = []
leaves_of_body (body.Forward at) = Forward at ∷ []

abbrev pub leaves_of_declarations : List PlainDeclaration → List Leaf
leaves_of_declarations [] = []
leaves_of_declarations (d ∷ more) = leaves_of_heading d.heading ++ (semicolon_leaf d.semicolon ∷ leaves_of_body d.body ++ leaves_of_declarations more)

abbrev pub leaves_of_statement_part : PlainStatementPart → List Leaf
leaves_of_statement_part (PlainStatementPart.Compound begin statements end) =
    Mark begin (kind.Word w.Begin) ∷ leaves_of_statements statements ++ Mark end (kind.Word w.End) ∷ []

-- the leaves of a block's own tree
abbrev pub leaves_of_block : PlainBlock → List Leaf
leaves_of_block b =
    leaves_of_program b.program ++
    (leaves_of_labels b.labels ++
    (leaves_of_constant_definitions b.constants ++
    (leaves_of_type_definitions b.types ++
    (leaves_of_sections b.variables ++ (leaves_of_declarations b.declarations ++ leaves_of_statement_part b.statements)))))
