use Rattle.std.proofs.Common.{arith}
use Rattle.mp_ast.proofs.SharedLemmas.{tokens_of-rest}
use Rattle.mp_ast.proofs.shared.tokens_in.Goals as goal

pub loop-tree-preserved : goal.loop-tree-preserved
loop-tree-preserved c =
    let rest = tokens_of-rest c.args.trees.now c.loop-tree.tree-index _ c.loop-tree-test.true c.tree-item.is in
    omega (arith, c.loop-tree.invariant, rest)
