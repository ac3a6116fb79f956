use Rattle.std.proofs.Common.{arith}
use Rattle.mp_ast.proofs.SharedLemmas.{declarations_of-rest}
use Rattle.mp_ast.proofs.shared.declarations_in.Goals as goal

pub loop-tree-preserved : goal.loop-tree-preserved
loop-tree-preserved c =
    let rest = declarations_of-rest c.args.trees.now c.loop-tree.tree-index _ c.loop-tree-test.true c.tree-item.is in
    omega (arith, c.loop-tree.invariant, rest)
