-- Parsers of blocks and programs: of all parsers, statements outside rest on `program` alone, by `first_error`.
use Rattle.std.specs.Prelude.{ℕ, zero, suc, List, [], ◌∷◌, ◌++◌, Option, Some, None, codes}
use Rattle.mp_ast.specs.declared.words.WordSymbol.TheVariants as w
use Rattle.mp_ast.specs.declared.symbols.Symbol.TheVariants as s
use Rattle.mp_ast.specs.declared.leaves.Identifier.{Identifier}
use Rattle.mp_ast.specs.declared.leaves.Number.{Number}
use Rattle.mp_ast.specs.declared.types.Section.{Section}
use Rattle.mp_ast.specs.declared.types.Denoter.{Denoter}
use Rattle.mp_ast.specs.declared.blocks.ProgramHeading.{ProgramHeading}
use Rattle.mp_ast.specs.declared.blocks.ConstantDefinition.{ConstantDefinition}
use Rattle.mp_ast.specs.declared.blocks.TypeDefinition.{TypeDefinition}
use Rattle.mp_ast.specs.declared.blocks.DeclaredBody.{DeclaredBody}
use Rattle.mp_ast.specs.declared.blocks.DeclaredBody.TheVariants as body
use Rattle.mp_ast.specs.declared.blocks.Declaration.{Declaration}
use Rattle.mp_ast.specs.declared.blocks.StatementPart.{StatementPart}
use Rattle.mp_ast.specs.declared.blocks.StatementPart.TheVariants.{Compound}
use Rattle.mp_ast.specs.declared.blocks.Block.{Block}
use Rattle.mp_ast.specs.declared.blocks.Tree.{Tree, roll-Tree}
use Rattle.mp_ast.specs.BlockGrammar.{Limits}
use Rattle.mp_cursor.specs.declared.next.Next.TheVariants as next
use Rattle.mp_cursor.specs.declared.next.Next.TheVariants.{Word, Symbol}
use Rattle.mp_cursor.specs.Nexts.{Nexts, is, among}
use Rattle.mp_cursor.specs.Parsers.{Parser, ◌>>=◌, ◌>>◌, ◌<$>◌, pure, refuse, branch, here, expect, opening, counted, deeper, identifier, number}
use Rattle.mp_cursor.specs.Parsers.{directive, repeated, and_one, separated, with_own_ordinals}
use Rattle.mp_cursor.specs.Leaves.{identifiers, constant}
use Rattle.mp_parse_type.specs.Types.{denoter, section}
use Rattle.mp_parse_type.specs.Headings.{heading}
use Rattle.mp_parse_stmt.specs.Statements.{sequence}
use Rattle.mp_parse_stmt.specs.Statements as statements

-- ---- the parts of a block

-- labels with commas between them
abbrev pub some_labels : Parser (List Number)
some_labels = separated (Symbol s.Comma) number

unfoldable pub label_part : Parser (List Number)
label_part = do
  expect (Word w.Label)
  labels ← some_labels
  expect (Symbol s.Semicolon)
  pure labels

unfoldable pub labels : Parser (List Number)
labels = branch (is (Word w.Label)) label_part (pure [])

unfoldable pub constant_definition : Parser ConstantDefinition
constant_definition = do
  name ← identifier
  expect (Symbol s.Equal)
  value ← constant
  semicolon ← expect (Symbol s.Semicolon)
  pure (record { name = name; value = value; semicolon = semicolon })

unfoldable pub further_constant : List ConstantDefinition → Parser (List ConstantDefinition)
further_constant = and_one constant_definition

abbrev pub further_constants : List ConstantDefinition → Parser (List ConstantDefinition)
further_constants = repeated (is next.Identifier) further_constant

unfoldable pub some_constants : Parser (List ConstantDefinition)
some_constants = do
  first ← constant_definition
  further_constants (first ∷ [])

unfoldable pub constants : Parser (List ConstantDefinition)
constants = branch (is (Word w.Const)) (expect (Word w.Const) >> some_constants) (pure [])

module _ (openers : ℕ) where
  unfoldable pub type_definition : Parser TypeDefinition
  type_definition = do
    name ← identifier
    expect (Symbol s.Equal)
    of ← denoter openers
    semicolon ← expect (Symbol s.Semicolon)
    pure (record { name = name; of = of; semicolon = semicolon })

  unfoldable pub further_type : List TypeDefinition → Parser (List TypeDefinition)
  further_type = and_one type_definition

  abbrev pub further_types : List TypeDefinition → Parser (List TypeDefinition)
  further_types = repeated (is next.Identifier) further_type

  unfoldable pub some_types : Parser (List TypeDefinition)
  some_types = do
    first ← type_definition
    further_types (first ∷ [])

  unfoldable pub types : Parser (List TypeDefinition)
  types = branch (is (Word w.«Type»)) (expect (Word w.«Type») >> some_types) (pure [])

  unfoldable pub variable_section : Parser (Section Denoter)
  variable_section = do
    found ← section (denoter openers)
    expect (Symbol s.Semicolon)
    pure found

  unfoldable pub further_section : List (Section Denoter) → Parser (List (Section Denoter))
  further_section = and_one variable_section

  abbrev pub further_sections : List (Section Denoter) → Parser (List (Section Denoter))
  further_sections = repeated (is next.Identifier) further_section

  unfoldable pub some_sections : Parser (List (Section Denoter))
  some_sections = do
    first ← variable_section
    further_sections (first ∷ [])

  unfoldable pub variables : Parser (List (Section Denoter))
  variables = branch (is (Word w.Var)) (expect (Word w.Var) >> some_sections) (pure [])

  unfoldable pub statement_part : Parser StatementPart
  statement_part = do
    at ← opening openers (Word w.Begin)
    found ← sequence (statements.behind openers).statement
    end ← expect (Word w.End)
    pure (Compound at found end)

-- ---- declarations

-- declarations so far, and the trees of their blocks
abbrev pub Found : Type 0
Found = List Declaration × List Tree

-- what follows a heading
abbrev pub Body : Type 0
Body = DeclaredBody × List Tree

unfoldable pub forward_directive : Parser Body
forward_directive = do
  at ← directive (codes "forward")
  pure (body.Forward at, [])

unfoldable pub block_body : Parser Tree → Parser Body
block_body block = do
  tree ← block
  pure (body.Block, tree ∷ [])

-- a block never begins with an identifier
abbrev pub declared_body : Parser Tree → Parser Body
declared_body block = branch (is next.Identifier) forward_directive (block_body block)

-- a declaration, and the tree of its block, where it has one
abbrev pub Declared : Type 0
Declared = Declaration × List Tree

abbrev pub with_one_more : Found → Declared → Found
with_one_more found d = (found.0 ++ d.0 ∷ [], found.1 ++ d.1)

-- the tokens that a declaration begins with
abbrev pub declaring : Nexts
declaring = among (Word w.Procedure ∷ Word w.Function ∷ [])

module _ (limits : Limits) where
  unfoldable pub declaration : Parser Tree → Parser Declared
  declaration block = do
    counted limits.declarations
    heading ← heading limits.openers
    semicolon ← expect (Symbol s.Semicolon)
    rest ← declared_body block
    expect (Symbol s.Semicolon)
    pure (record { heading = heading; semicolon = semicolon; body = rest.0 }, rest.1)

  -- in a block in which so many more blocks may stand in one another
  unfoldable pub further_declaration : ℕ → Parser Tree → Found → Parser Found
  further_declaration depth block found = (λ d. with_one_more found d) <$> deeper depth (declaration block)

  unfoldable pub declarations : ℕ → Parser Tree → Parser Found
  declarations depth block = repeated declaring (further_declaration depth block) ([], [])

  -- ---- blocks

  unfoldable pub block_with : Option ProgramHeading → ℕ → Parser Tree → Parser (Block × List Tree)
  block_with program depth nested = do
    labels ← labels
    constants ← constants
    types ← types limits.openers
    variables ← variables limits.openers
    declared ← declarations depth nested
    statements ← statement_part limits.openers
    tokens ← here
    pure (
      record {
        program = program;
        labels = labels;
        constants = constants;
        types = types;
        variables = variables;
        declarations = declared.0;
        statements = statements;
        tokens = tokens;
      },
      declared.1,
    )

  abbrev pub tree_of : Block × List Tree → Tree
  tree_of b = roll-Tree (record { own = b.0; inside = b.1 })

  unfoldable pub nested_block : ℕ → Parser Tree
  nested_block zero = refuse
  nested_block (suc depth) = with_own_ordinals (tree_of <$> block_with None depth (nested_block depth))

  abbrev pub block : Option ProgramHeading → ℕ → Parser (Block × List Tree)
  block program depth = block_with program depth (nested_block depth)

  -- ---- programs

  unfoldable pub some_parameters : Parser (List Identifier)
  some_parameters = do
    expect (Symbol s.LeftParen)
    names ← identifiers
    expect (Symbol s.RightParen)
    pure names

  unfoldable pub parameters : Parser (List Identifier)
  parameters = branch (is (Symbol s.LeftParen)) some_parameters (pure [])

  unfoldable pub program_heading : Parser ProgramHeading
  program_heading = do
    expect (Word w.Program)
    name ← identifier
    parameters ← parameters
    expect (Symbol s.Semicolon)
    pure (record { name = name; parameters = parameters })

  unfoldable pub program : Parser Tree
  program = do
    heading ← program_heading
    found ← block (Some heading) limits.depth
    expect (Symbol s.Dot)
    tokens ← here
    pure (roll-Tree (record { own = record found.0 { tokens = tokens }; inside = found.1 }))
