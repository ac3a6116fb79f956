-- The blocks of a program are well-formed. By induction over how deep blocks stand in one another.
use Rattle.std.proofs.Common.{ℕ, zero, suc, ◌+◌, List, [], ◌∷◌, ◌++◌, map, Option, None, sym, subst}
use Rattle.std.specs.List.{AllByRecursion}
use Rattle.mp_base.specs.declared.path.PathStep.{PathStep}
use Rattle.mp_ast.specs.declared.tokens.TokenKind.{TokenKind}
use Rattle.mp_ast.specs.declared.blocks.ProgramHeading.{ProgramHeading}
use Rattle.mp_ast.specs.declared.blocks.TypeDefinition.{TypeDefinition}
use Rattle.mp_ast.specs.declared.blocks.Block.{Block}
use Rattle.mp_ast.specs.declared.blocks.StatementPart.{StatementPart}
use Rattle.mp_ast.specs.declared.blocks.Tree.{Tree, roll-Tree}
use Rattle.mp_ast.specs.Rules.{Rule, joined}
use Rattle.mp_ast.specs.BlockGrammar.{Limits, Declared, declaration, statement_part, block_with, nested_block, program}
use Rattle.mp_ast.specs.Programs.{Derives, start_of}
use Rattle.mp_ast.specs.PlainTypes.{plain_denoter}
use Rattle.mp_ast.specs.PlainTrees.{PlainTree, PlainTrees, TreeOf, NoTrees, Beside, statements_of_part, plain_type_definition, plain_declaration}
use Rattle.mp_ast.specs.PlainTrees.{plain_statement_part, plain_block, trees_of, plain_tree}
use Rattle.mp_ast.specs.Blocks.{Nested, nested_in, tokens_of, PlacedBlock, blocks_from, blocks_inside, blocks}
use Rattle.mp_ast.specs.WellFormed.{IsType, IsDenoter, HasStatement, AreStatements, AreTypeDefinitions, AreDeclarations, IsWellFormed}
use Rattle.mp_ast.proofs.PlainTreeLemmas.{plain_tree-roll}
use Rattle.mp_ast.proofs.Yielding.{Yields, nothing, never, next, past, made, either, repeated, all-append, goes_deeper, own_ordinals}
use Rattle.mp_ast.proofs.WellFormedStatements.{statements_are, has_statement, sequence_behind_yields}
use Rattle.mp_ast.proofs.WellFormedTypes.{GoodSection, sections_are, section_yields, denoter_yields}
use Rattle.mp_ast.proofs.WellFormedHeadings.{GoodHeading, heading_yields}

-- ---- all blocks of a tree

abbrev mutual
  AllOwn : PlainTree → Type 0
  AllOwn (TreeOf own inside) = IsWellFormed own × AllOwns inside

  AllOwns : PlainTrees → Type 0
  AllOwns NoTrees = Unit {0}
  AllOwns (Beside tree more) = AllOwn tree × AllOwns more

abbrev GoodTree : Tree → Type 0
GoodTree t = AllOwn (plain_tree t)

abbrev Placed : PlacedBlock → Type 0
Placed b = IsWellFormed b.own

mutual
  placed_from : (path : List PathStep) (start : ℕ) (tree : PlainTree) → AllOwn tree → AllByRecursion Placed (blocks_from path start tree)
  placed_from path start (TreeOf own inside) v = (v.0, placed_inside path start (nested_in own) inside v.1)

  placed_inside :
      (path : List PathStep) (start : ℕ) (nested : List Nested) (trees : PlainTrees) → AllOwns trees →
      AllByRecursion Placed (blocks_inside path start nested trees)
  placed_inside path start nested NoTrees v = tt
  placed_inside path start [] (Beside tree more) v = tt
  placed_inside path start (n ∷ nested) (Beside tree more) v =
      all-append Placed (blocks_from (path ++ n.step ∷ []) (start + n.semicolon + 1) tree) (blocks_inside path (start + tokens_of tree) nested more)
      (placed_from (path ++ n.step ∷ []) (start + n.semicolon + 1) tree v.0) (placed_inside path (start + tokens_of tree) nested more v.1)

trees_are : (l : List Tree) → AllByRecursion GoodTree l → AllOwns (trees_of plain_tree l)
trees_are [] v = tt
trees_are (t ∷ l) v = (v.0, trees_are l v.1)

tree_is : (own : Block) (inside : List Tree) → IsWellFormed (plain_block own) → AllByRecursion GoodTree inside → GoodTree (roll-Tree (record { own = own; inside = inside }))
tree_is own inside v w = subst AllOwn (sym (plain_tree-roll own inside)) (v, trees_are inside w)

-- ---- the parts of a block

abbrev GoodDefinition : TypeDefinition → Type 0
GoodDefinition x = IsType (plain_denoter x.of) × IsDenoter (plain_denoter x.of)

definitions_are : (l : List TypeDefinition) → AllByRecursion GoodDefinition l → AreTypeDefinitions (map plain_type_definition l)
definitions_are [] v = tt
definitions_are (x ∷ l) v = (v.0.0, v.0.1, definitions_are l v.1)

abbrev GoodPart : StatementPart → Type 0
GoodPart p = HasStatement (statements_of_part (plain_statement_part p)) × AreStatements (statements_of_part (plain_statement_part p))

abbrev GoodDeclared : Declared → Type 0
GoodDeclared x = GoodHeading x.declaration.heading × AllByRecursion GoodTree x.block

declarations_are : (l : List Declared) → AllByRecursion GoodDeclared l → AreDeclarations (map plain_declaration (map (λ x. x.declaration) l))
declarations_are [] v = tt
declarations_are (x ∷ l) v = (v.0.0, declarations_are l v.1)

all_inside : (l : List Declared) → AllByRecursion GoodDeclared l → AllByRecursion GoodTree (joined (map (λ x. x.block) l))
all_inside [] v = tt
all_inside (x ∷ l) v = all-append GoodTree x.block (joined (map (λ x. x.block) l)) v.0.1 (all_inside l v.1)

abbrev GoodBlock : Block × List Tree → Type 0
GoodBlock b = IsWellFormed (plain_block b.0) × AllByRecursion GoodTree b.1

-- ---- the rules

module _ (limits : Limits) (nested : Rule Tree) (good : Yields GoodTree nested) where
  declaration_yields : Yields GoodDeclared (declaration limits nested)
  declaration_yields =
      past (λ begun. next (heading_yields limits.openers) (λ h v. past (λ semicolon.
      next {P = λ rest. AllByRecursion GoodTree rest.1} (either (past (λ at. nothing tt)) (next good (λ tree w. nothing (w, tt)))) (λ rest w.
      past (λ end. nothing (v, w))))))

  statements_yield : Yields GoodPart (statement_part limits.openers)
  statements_yield =
      past (λ at. next (sequence_behind_yields limits.openers) (λ found v. past (λ end. nothing (has_statement found v.0, statements_are found v.1))))

  block_yields : (heading : Option ProgramHeading) (depth : ℕ) → Yields GoodBlock (block_with limits heading depth nested)
  block_yields heading depth =
      past (λ labels. past (λ constants.
      next {P = AllByRecursion GoodDefinition}
      (either
      (past (λ word.
      let definition = past (λ name. past (λ equal. next (denoter_yields limits.openers) (λ of v. past (λ semicolon. nothing {P = GoodDefinition} (v.0, v.1))))) in
      next {P = GoodDefinition} definition (λ first v. next (repeated definition) (λ more w. nothing (v, w)))))
      (nothing tt)) (λ types t.
      next {P = AllByRecursion GoodSection}
      (either
      (past (λ word.
      let variables = next {P = GoodSection} (section_yields (denoter_yields limits.openers)) (λ found v. past (λ semicolon. nothing {P = GoodSection} v)) in
      next {P = GoodSection} variables (λ first v. next (repeated variables) (λ more w. nothing (v, w)))))
      (nothing tt)) (λ variables s.
      next (repeated (goes_deeper depth declaration_yields)) (λ declared u.
      next statements_yield (λ statements w. past (λ tokens. nothing (
        record {
          types = definitions_are types t;
          variables = sections_are variables s;
          declarations = declarations_are declared u;
          some_statement = w.0;
          statements = w.1;
        },
        all_inside declared u,
      ))))))))

nested_yields : (limits : Limits) (depth : ℕ) → Yields GoodTree (nested_block limits depth)
unfolding nested_block
nested_yields limits zero = never
nested_yields limits (suc depth) =
    own_ordinals (made (block_yields limits (nested_block limits depth) (nested_yields limits depth) None depth) (λ b v. tree_is b.0 b.1 v.0 v.1))

program_yields : (limits : Limits) → Yields GoodTree (program limits)
program_yields limits =
    past (λ word. past (λ name. past (λ parameters. past (λ semicolon.
    next (block_yields limits (nested_block limits limits.depth) (nested_yields limits limits.depth) _ limits.depth) (λ found v. past (λ dot. past (λ tokens. nothing
    (tree_is _ found.1
    (record { types = v.0.types; variables = v.0.variables; declarations = v.0.declarations; some_statement = v.0.some_statement; statements = v.0.statements })
    v.1))))))))

pub blocks_are_well_formed :
    (limits : Limits) (kinds : List TokenKind) (tree : Tree) → Derives limits kinds tree → AllByRecursion (λ b. IsWellFormed b.own) (blocks (plain_tree tree))
blocks_are_well_formed limits kinds tree h = placed_from [] 0 (plain_tree tree) ((program_yields limits).yields (start_of kinds) tree h.0 h.1)
