use Rattle.std.proofs.Common.{◌≡◌, ◌+◌, drop}
use Rattle.mp_ast.specs.PlainTrees.{trees_of, plain_tree}
use Rattle.mp_ast.specs.SharedTrees.{declarations_of_all}
use Rattle.mp_ast.proofs.shared.declarations_in.Given as goal

abbrev pub invariant-loop-tree : goal.invariant-loop-tree
invariant-loop-tree l = l.declarations + declarations_of_all (trees_of plain_tree (drop l.tree-index l.trees)) ≡ declarations_of_all (trees_of plain_tree l.trees)
