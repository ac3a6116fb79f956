-- What a tree that is kept whole knows of itself: a tree is one node, a block with the trees of the blocks that stand
-- directly in it, and it has so many tokens and declarations in all.
use Rattle.std.specs.Prelude.{◌≡◌, ℕ, ◌+◌, ◌≤◌, ◌<◌, List, length}
use Rattle.mp_base.specs.declared.limits.TheConstants.{TEXT_LIMIT, DECLARATION_LIMIT}
use Rattle.mp_ast.specs.declared.blocks.Block.{Block}
use Rattle.mp_ast.specs.declared.blocks.Tree.{Tree, roll-Tree, out-Tree}
use Rattle.mp_ast.specs.PlainTrees.{PlainTree, PlainTrees, TreeOf, NoTrees, Beside, plain_tree}
use Rattle.mp_ast.specs.Blocks.{tokens_of}
use Rattle.mp_ast.specs.WholeTrees.{IsWhole}

-- the tree of a block, with the trees of the blocks that stand directly in it
abbrev pub node : Block → List Tree → Tree
node own inside = roll-Tree (record { own = own; inside = inside })

-- a tree's own block
abbrev pub own_of : Tree → Block
own_of t = (out-Tree t).own

-- the trees of the blocks that stand directly in it
abbrev pub inside_of : Tree → List Tree
inside_of t = (out-Tree t).inside

-- ---- how many procedure and function declarations stand in a tree, in all of its blocks; those with `forward` count
abbrev mutual
  pub declarations_of : PlainTree → ℕ
  declarations_of (TreeOf own inside) = length own.declarations + declarations_of_all inside

  pub declarations_of_all : PlainTrees → ℕ
  declarations_of_all NoTrees = 0
  declarations_of_all (Beside tree more) = declarations_of tree + declarations_of_all more

-- a tree whose parts fit together, and which is within the limits of a program
pub record IsOfAProgram (t : Tree) : Type 0 where
  pub whole : IsWhole (plain_tree t)
  pub small : tokens_of (plain_tree t) ≤ TEXT_LIMIT
  pub few : declarations_of (plain_tree t) < DECLARATION_LIMIT

-- a tree beside which its numbers of tokens and declarations are kept
pub record IsKept (t : Tree) (n m : ℕ) : Type 0 where
  pub tree : IsOfAProgram t
  pub tokens : n ≡ tokens_of (plain_tree t)
  pub declarations : m ≡ declarations_of (plain_tree t)
