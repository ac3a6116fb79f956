-- Blocks and programs (ISO 7185, 6.2 and 6.10).
use Rattle.std.specs.Prelude.{ℕ, zero, suc, List, [], ◌∷◌, Option, Some, None, map, codes}
use Rattle.mp_ast.specs.declared.tokens.TokenKind.TheVariants.{Id, Word}
use Rattle.mp_ast.specs.declared.words.WordSymbol.TheVariants as w
use Rattle.mp_ast.specs.declared.symbols.Symbol.TheVariants as s
use Rattle.mp_ast.specs.declared.leaves.Identifier.{Identifier}
use Rattle.mp_ast.specs.declared.leaves.Number.{Number}
use Rattle.mp_ast.specs.declared.types.Section.{Section}
use Rattle.mp_ast.specs.declared.types.Denoter.{Denoter}
use Rattle.mp_ast.specs.declared.blocks.ProgramHeading.{ProgramHeading}
use Rattle.mp_ast.specs.declared.blocks.ConstantDefinition.{ConstantDefinition}
use Rattle.mp_ast.specs.declared.blocks.TypeDefinition.{TypeDefinition}
use Rattle.mp_ast.specs.declared.blocks.DeclaredBody.{DeclaredBody}
use Rattle.mp_ast.specs.declared.blocks.DeclaredBody.TheVariants as body
use Rattle.mp_ast.specs.declared.blocks.Declaration.{Declaration}
use Rattle.mp_ast.specs.declared.blocks.StatementPart.{StatementPart}
use Rattle.mp_ast.specs.declared.blocks.StatementPart.TheVariants.{Compound}
use Rattle.mp_ast.specs.declared.blocks.Block.{Block}
use Rattle.mp_ast.specs.declared.blocks.Tree.{Tree, roll-Tree}
use Rattle.mp_ast.specs.Rules.{Rule, ◌>>=◌, ◌>>◌, ◌<$>◌, ◌<|>◌, gives, none, many, joined, separated, token, word, symbol}
use Rattle.mp_ast.specs.Rules.{here, opener, deeper, one_more_declaration, with_own_ordinals}
use Rattle.mp_ast.specs.LeafGrammar.{identifier, number, constant}
use Rattle.mp_ast.specs.StatementGrammar.{sequence}
use Rattle.mp_ast.specs.StatementGrammar as statements
use Rattle.mp_ast.specs.TypeGrammar.{section, denoter}
use Rattle.mp_ast.specs.HeadingGrammar.{heading}

-- what the grammar allows at most
pub record Limits : Type 0 where
  -- openers that stand open at once in one block
  pub openers : ℕ
  -- blocks that stand in one another, without the program's
  pub depth : ℕ
  -- procedure and function declarations
  pub declarations : ℕ

-- ---- the parts of a block, where at most so many openers stand open

-- a part that may be left out
abbrev pub part : {A : Type 0} → Rule (List A) → Rule (List A)
part r = r <|> gives []

-- ["label" number {"," number} ";"]
abbrev pub label_part : Rule (List Number)
label_part = do
  word w.Label
  labels ← separated (symbol s.Comma) number
  symbol s.Semicolon
  gives labels

-- one after another, at least one
abbrev pub some : {A : Type 0} → Rule A → Rule (List A)
some r = do
  first ← r
  more ← many r
  gives (first ∷ more)

-- id "=" constant ";"
abbrev pub constant_definition : Rule ConstantDefinition
constant_definition = do
  name ← identifier
  symbol s.Equal
  value ← constant
  semicolon ← symbol s.Semicolon
  gives (record { name = name; value = value; semicolon = semicolon })

-- ["const" id "=" constant ";" {id "=" constant ";"}]
abbrev pub constant_part : Rule (List ConstantDefinition)
constant_part = word w.Const >> some constant_definition

module _ (openers : ℕ) where
  -- id "=" type ";"
  abbrev pub type_definition : Rule TypeDefinition
  type_definition = do
    name ← identifier
    symbol s.Equal
    of ← denoter openers
    semicolon ← symbol s.Semicolon
    gives (record { name = name; of = of; semicolon = semicolon })

  -- ["type" id "=" type ";" {id "=" type ";"}]
  abbrev pub type_part : Rule (List TypeDefinition)
  type_part = word w.«Type» >> some type_definition

  -- vars ";"
  abbrev pub variable_section : Rule (Section Denoter)
  variable_section = do
    found ← section (denoter openers)
    symbol s.Semicolon
    gives found

  -- ["var" vars ";" {vars ";"}]
  abbrev pub variable_part : Rule (List (Section Denoter))
  variable_part = word w.Var >> some variable_section

  -- compound = "begin" sequence "end"
  abbrev pub statement_part : Rule StatementPart
  statement_part = do
    at ← opener openers (Word w.Begin)
    found ← sequence (statements.behind openers).statement
    end ← word w.End
    gives (Compound at found end)

-- ---- declarations

-- a declaration, and the tree of its block, where it has one
pub record Declared : Type 0 where
  pub declaration : Declaration
  pub block : List Tree

-- `forward`: names are in lower case, so it is any spelling of it
abbrev pub forward_directive : Rule (DeclaredBody × List Tree)
forward_directive = do
  at ← token (Id (codes "forward"))
  gives (body.Forward at, [])

abbrev pub block_body : Rule Tree → Rule (DeclaredBody × List Tree)
block_body block = do
  tree ← block
  gives (body.Block, tree ∷ [])

module _ (limits : Limits) where
  -- procdecl ";" | funcdecl ";", where
  -- procdecl = "procedure" id [formals] ";" (block | forward)
  -- funcdecl = "function" id [formals] [":" id] ";" (block | forward)
  abbrev pub declaration : Rule Tree → Rule Declared
  declaration block = do
    one_more_declaration limits.declarations
    heading ← heading limits.openers
    semicolon ← symbol s.Semicolon
    rest ← forward_directive <|> block_body block
    symbol s.Semicolon
    gives (record { declaration = record { heading = heading; semicolon = semicolon; body = rest.0 }; block = rest.1 })

  -- ---- blocks

  -- A block's own tree, and the trees of the blocks in it. So many more blocks may stand in one another in it, and
  -- `nested` is a block that does.
  abbrev pub block_with : Option ProgramHeading → ℕ → Rule Tree → Rule (Block × List Tree)
  block_with program depth nested = do
    labels ← part label_part
    constants ← part constant_part
    types ← part (type_part limits.openers)
    variables ← part (variable_part limits.openers)
    declared ← many (deeper depth (declaration nested))
    statements ← statement_part limits.openers
    tokens ← here
    gives (
      record {
        program = program;
        labels = labels;
        constants = constants;
        types = types;
        variables = variables;
        declarations = map (λ d. d.declaration) declared;
        statements = statements;
        tokens = tokens;
      },
      joined (map (λ d. d.block) declared),
    )

  abbrev pub tree_of : Block × List Tree → Tree
  tree_of b = roll-Tree (record { own = b.0; inside = b.1 })

  unfoldable pub nested_block : ℕ → Rule Tree
  nested_block zero = none
  nested_block (suc depth) = with_own_ordinals (tree_of <$> block_with None depth (nested_block depth))

  -- ["(" id {"," id} ")"]
  abbrev pub program_parameters : Rule (List Identifier)
  program_parameters = do
    symbol s.LeftParen
    names ← separated (symbol s.Comma) identifier
    symbol s.RightParen
    gives names

  -- program = "program" id ["(" id {"," id} ")"] ";" block "."
  -- The heading and the last `.` are own tokens of the program's block.
  abbrev pub program : Rule Tree
  program = do
    word w.Program
    name ← identifier
    parameters ← part program_parameters
    symbol s.Semicolon
    found ← block_with (Some (record { name = name; parameters = parameters })) limits.depth (nested_block limits.depth)
    symbol s.Dot
    tokens ← here
    gives (roll-Tree (record { own = record found.0 { tokens = tokens }; inside = found.1 }))
