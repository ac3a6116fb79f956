use Rattle.std.proofs.Common.{◌++◌, drop, map}
use Rattle.mp_ast.specs.PlainTrees.{plain_tree}
use Rattle.mp_ast.specs.Blocks.{blocks_from}
use Rattle.mp_ast.specs.BlockLists.{counted, placed}
use Rattle.mp_ast.proofs.TurnLemmas.{Listing}
use Rattle.mp_ast.proofs.block_list.+add_blocks.Given as goal

abbrev pub decreases-add_blocks : goal.decreases-add_blocks
decreases-add_blocks l = goal.size-add_blocks l

abbrev pub invariant-nested : goal.invariant-nested
invariant-nested l =
    Listing l.tree l.path l.behind l.declarations (drop l.nested-index l.inside) (counted l.counts)
    (map placed l.found.items) (map placed l.fn.found.items ++ blocks_from l.path l.start (plain_tree l.tree))
