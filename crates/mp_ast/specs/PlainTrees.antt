-- Blocks as plain data (ISO 7185, 6.2): the syntax trees without the memory that they stand in.
use Rattle.std.specs.Prelude.{ℕ, List, [], ◌∷◌, Option, map}
use Rattle.mp_ast.specs.declared.leaves.Identifier.{Identifier}
use Rattle.mp_ast.specs.declared.leaves.Number.{Number}
use Rattle.mp_ast.specs.declared.blocks.ProgramHeading.{ProgramHeading}
use Rattle.mp_ast.specs.declared.blocks.ConstantDefinition.{ConstantDefinition}
use Rattle.mp_ast.specs.declared.blocks.TypeDefinition.{TypeDefinition}
use Rattle.mp_ast.specs.declared.blocks.DeclaredBody.{DeclaredBody}
use Rattle.mp_ast.specs.declared.blocks.Declaration.{Declaration}
use Rattle.mp_ast.specs.declared.blocks.StatementPart.{StatementPart}
use Rattle.mp_ast.specs.declared.blocks.StatementPart.TheVariants as part
use Rattle.mp_ast.specs.declared.blocks.Block.{Block}
use Rattle.mp_ast.specs.declared.blocks.Tree.{Tree, fold-Tree}
use Rattle.mp_ast.specs.declared.blocks.Tree.TheOpen.{Tree-F}
use Rattle.mp_ast.specs.PlainStatements.{PlainStatements, plain_statements}
use Rattle.mp_ast.specs.PlainTypes.{PlainDenoter, PlainSections, plain_denoter, plain_sections}
use Rattle.mp_ast.specs.PlainHeadings.{PlainHeading, plain_heading}

-- ---- a block's own tree, whose ordinals are those of `Block`

pub record PlainTypeDefinition : Type 0 where
  pub name : Identifier
  pub of : PlainDenoter
  pub semicolon : ℕ

pub record PlainDeclaration : Type 0 where
  pub heading : PlainHeading
  pub semicolon : ℕ
  pub body : DeclaredBody

-- The variants are those of `StatementPart`: the statements, with the ordinals of the `begin` before them and of the `end`.
pub data PlainStatementPart : Type 0 where
  Compound : (begin : ℕ) → PlainStatements → (end : ℕ) → PlainStatementPart

-- the statements of a statement part
abbrev pub statements_of_part : PlainStatementPart → PlainStatements
statements_of_part (Compound begin found end) = found

pub record PlainBlock : Type 0 where
  pub program : Option ProgramHeading
  pub labels : List Number
  pub constants : List ConstantDefinition
  pub types : List PlainTypeDefinition
  pub variables : PlainSections
  pub declarations : List PlainDeclaration
  pub statements : PlainStatementPart
  -- how many own tokens it has
  pub tokens : ℕ

-- ---- a block's own tree with the trees of the blocks in it, in order of text
mutual
  pub data PlainTree : Type 0 where
    TreeOf : (own : PlainBlock) → (inside : PlainTrees) → PlainTree

  pub data PlainTrees : Type 0 where
    NoTrees : PlainTrees
    Beside : PlainTree → (more : PlainTrees) → PlainTrees

-- ---- from the trees to plain data

abbrev pub plain_type_definition : TypeDefinition → PlainTypeDefinition
plain_type_definition d = record { name = d.name; of = plain_denoter d.of; semicolon = d.semicolon }

abbrev pub plain_declaration : Declaration → PlainDeclaration
plain_declaration d = record { heading = plain_heading d.heading; semicolon = d.semicolon; body = d.body }

abbrev pub plain_statement_part : StatementPart → PlainStatementPart
plain_statement_part (part.Compound begin statements end) = Compound begin (plain_statements statements) end

abbrev pub plain_block : Block → PlainBlock
plain_block b =
    record {
      program = b.program;
      labels = b.labels;
      constants = b.constants;
      types = map plain_type_definition b.types;
      variables = plain_sections b.variables;
      declarations = map plain_declaration b.declarations;
      statements = plain_statement_part b.statements;
      tokens = b.tokens;
    }

-- Trees, where `plain` says what each becomes.
abbrev pub trees_of : {T : Type 0} → (T → PlainTree) → List T → PlainTrees
trees_of plain [] = NoTrees
trees_of plain (t ∷ more) = Beside (plain t) (trees_of plain more)

abbrev pub itself : PlainTree → PlainTree
itself t = t

-- one node, whose parts are plain
abbrev pub layer_tree : Tree-F PlainTree → PlainTree
layer_tree t = TreeOf (plain_block t.own) (trees_of itself t.inside)

unfoldable pub plain_tree : Tree → PlainTree
plain_tree t = fold-Tree PlainTree layer_tree t
