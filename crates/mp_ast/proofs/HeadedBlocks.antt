-- The program's block has the program's heading, and no block in it has one. By induction over how deep blocks stand in one
-- another.
use Rattle.std.proofs.Common.{◌≡◌, ℕ, zero, suc, ◌+◌, List, [], ◌∷◌, ◌++◌, map, Option, None, refl, sym, subst}
use Rattle.std.specs.List.{AllByRecursion}
use Rattle.mp_base.specs.declared.path.PathStep.{PathStep}
use Rattle.mp_ast.specs.declared.tokens.TokenKind.{TokenKind}
use Rattle.mp_ast.specs.declared.blocks.ProgramHeading.{ProgramHeading}
use Rattle.mp_ast.specs.declared.blocks.Block.{Block}
use Rattle.mp_ast.specs.declared.blocks.Tree.{Tree, roll-Tree}
use Rattle.mp_ast.specs.Rules.{Rule, joined}
use Rattle.mp_ast.specs.BlockGrammar.{Limits, Declared, declaration, block_with, nested_block, program}
use Rattle.mp_ast.specs.Programs.{Derives, start_of}
use Rattle.mp_ast.specs.PlainTrees.{PlainTree, PlainTrees, TreeOf, NoTrees, Beside, trees_of, plain_tree}
use Rattle.mp_ast.specs.Blocks.{Nested, nested_in, tokens_of, PlacedBlock, blocks_from, blocks_inside, blocks}
use Rattle.mp_ast.specs.WellFormed.{FitsItsPath}
use Rattle.mp_ast.proofs.PlainTreeLemmas.{plain_tree-roll}
use Rattle.mp_ast.proofs.Yielding.{Yields, nothing, never, next, past, made, either, repeated, all-append, goes_deeper, own_ordinals}

-- ---- headings by paths

abbrev mutual
  IsNested : PlainTree → Type 0
  IsNested (TreeOf own inside) = (own.program ≡ None) × AreNested inside

  AreNested : PlainTrees → Type 0
  AreNested NoTrees = Unit {0}
  AreNested (Beside tree more) = IsNested tree × AreNested more

abbrev IsHeaded : PlainTree → Type 0
IsHeaded (TreeOf own inside) = FitsItsPath [] own.program × AreNested inside

abbrev Fits : PlacedBlock → Type 0
Fits b = FitsItsPath b.path b.own.program

nested_path : (path : List PathStep) (s : PathStep) (heading : Option ProgramHeading) → heading ≡ None → FitsItsPath (path ++ s ∷ []) heading
nested_path [] s heading e = subst (FitsItsPath (s ∷ [])) (sym e) tt
nested_path (t ∷ path) s heading e = subst (FitsItsPath (t ∷ (path ++ s ∷ []))) (sym e) tt

mutual
  fit_from :
      (path : List PathStep) (s : PathStep) (start : ℕ) (tree : PlainTree) → IsNested tree →
      AllByRecursion Fits (blocks_from (path ++ s ∷ []) start tree)
  fit_from path s start (TreeOf own inside) v =
      (nested_path path s own.program v.0, fit_inside (path ++ s ∷ []) start (nested_in own) inside v.1)

  fit_inside :
      (path : List PathStep) (start : ℕ) (nested : List Nested) (trees : PlainTrees) → AreNested trees →
      AllByRecursion Fits (blocks_inside path start nested trees)
  fit_inside path start nested NoTrees v = tt
  fit_inside path start [] (Beside tree more) v = tt
  fit_inside path start (n ∷ nested) (Beside tree more) v =
      all-append Fits (blocks_from (path ++ n.step ∷ []) (start + n.semicolon + 1) tree) (blocks_inside path (start + tokens_of tree) nested more)
      (fit_from path n.step (start + n.semicolon + 1) tree v.0) (fit_inside path (start + tokens_of tree) nested more v.1)

program_fits : (tree : PlainTree) → IsHeaded tree → AllByRecursion Fits (blocks tree)
program_fits (TreeOf own inside) v = (v.0, fit_inside [] 0 (nested_in own) inside v.1)

-- ---- the rules

abbrev NestedTree : Tree → Type 0
NestedTree t = IsNested (plain_tree t)

abbrev Headed : Option ProgramHeading → Block × List Tree → Type 0
Headed heading b = (b.0.program ≡ heading) × AllByRecursion NestedTree b.1

trees_are : (l : List Tree) → AllByRecursion NestedTree l → AreNested (trees_of plain_tree l)
trees_are [] v = tt
trees_are (t ∷ l) v = (v.0, trees_are l v.1)

nested_is : (own : Block) (inside : List Tree) → own.program ≡ None → AllByRecursion NestedTree inside → NestedTree (roll-Tree (record { own = own; inside = inside }))
nested_is own inside e v = subst IsNested (sym (plain_tree-roll own inside)) (e, trees_are inside v)

headed_is :
    (own : Block) (inside : List Tree) → FitsItsPath [] own.program → AllByRecursion NestedTree inside →
    IsHeaded (plain_tree (roll-Tree (record { own = own; inside = inside })))
headed_is own inside e v = subst IsHeaded (sym (plain_tree-roll own inside)) (e, trees_are inside v)

abbrev Inside : Declared → Type 0
Inside x = AllByRecursion NestedTree x.block

all_inside : (l : List Declared) → AllByRecursion Inside l → AllByRecursion NestedTree (joined (map (λ x. x.block) l))
all_inside [] v = tt
all_inside (x ∷ l) v = all-append NestedTree x.block (joined (map (λ x. x.block) l)) v.0 (all_inside l v.1)

module _ (limits : Limits) (nested : Rule Tree) (good : Yields NestedTree nested) where
  declaration_yields : Yields Inside (declaration limits nested)
  declaration_yields =
      past (λ begun. past (λ heading. past (λ semicolon.
      next {P = λ rest. AllByRecursion NestedTree rest.1} (either (past (λ at. nothing tt)) (next good (λ tree w. nothing (w, tt)))) (λ rest w.
      past (λ end. nothing w)))))

  block_yields : (heading : Option ProgramHeading) (depth : ℕ) → Yields (Headed heading) (block_with limits heading depth nested)
  block_yields heading depth =
      past (λ labels. past (λ constants. past (λ types. past (λ variables.
      next (repeated (goes_deeper depth declaration_yields)) (λ declared u.
      past (λ statements. past (λ tokens. nothing (refl, all_inside declared u))))))))

nested_yields : (limits : Limits) (depth : ℕ) → Yields NestedTree (nested_block limits depth)
unfolding nested_block
nested_yields limits zero = never
nested_yields limits (suc depth) =
    own_ordinals (made (block_yields limits (nested_block limits depth) (nested_yields limits depth) None depth) (λ b v. nested_is b.0 b.1 v.0 v.1))

program_yields : (limits : Limits) → Yields (λ t. IsHeaded (plain_tree t)) (program limits)
program_yields limits =
    past (λ word. past (λ name. past (λ parameters. past (λ semicolon.
    next (block_yields limits (nested_block limits limits.depth) (nested_yields limits limits.depth) _ limits.depth) (λ found v. past (λ dot. past (λ tokens. nothing
    (headed_is _ found.1 (subst (FitsItsPath []) (sym v.0) tt) v.1))))))))

pub blocks_fit_their_paths :
    (limits : Limits) (kinds : List TokenKind) (tree : Tree) → Derives limits kinds tree →
    AllByRecursion (λ block. FitsItsPath block.path block.own.program) (blocks (plain_tree tree))
blocks_fit_their_paths limits kinds tree h = program_fits (plain_tree tree) ((program_yields limits).yields (start_of kinds) tree h.0 h.1)
