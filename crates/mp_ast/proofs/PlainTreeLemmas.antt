-- The plain form of a tree is that of its own block and those of the trees in it, put together.
use Rattle.std.proofs.Common.{◌≡◌, List, [], ◌∷◌, map, refl, ap, ◌∙◌}
use Rattle.mp_ast.specs.declared.blocks.Block.{Block}
use Rattle.mp_ast.specs.declared.blocks.Tree.{Tree, roll-Tree, fold-roll-Tree}
use Rattle.mp_ast.specs.PlainTrees as plain
use Rattle.mp_ast.specs.PlainTrees.{PlainTree, trees_of, plain_block, itself, layer_tree, plain_tree}

trees_of-map :
    {A B : Type 0} (f : A → B) (g : B → PlainTree) (h : A → B) → ((t : A) → h t ≡ f t) →
    (l : List A) → trees_of g (map h l) ≡ trees_of (λ x. g (f x)) l
trees_of-map f g h each [] = refl
trees_of-map f g h each (t ∷ l) = ap (λ u. plain.Beside (g u) (trees_of g (map h l))) (each t) ∙ ap (plain.Beside (g (f t))) (trees_of-map f g h each l)

pub plain_tree-roll : (own : Block) (inside : List Tree) → plain_tree (roll-Tree (record { own = own; inside = inside })) ≡
    plain.TreeOf (plain_block own) (trees_of plain_tree inside)
unfolding plain_tree
plain_tree-roll own inside =
    fold-roll-Tree PlainTree layer_tree (record { own = own; inside = inside }) ∙ ap (plain.TreeOf (plain_block own)) (trees_of-map plain_tree itself _ (λ _. refl) inside)
