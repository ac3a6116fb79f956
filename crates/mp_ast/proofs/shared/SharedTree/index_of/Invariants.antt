use Rattle.std.proofs.Common.{drop}
use Rattle.mp_ast.proofs.TurnLemmas.{Descending}
use Rattle.mp_ast.proofs.shared.SharedTree.index_of.Given as goal

abbrev pub invariant-steps : goal.invariant-steps
invariant-steps l = Descending l.self l.place l.block.start l.block.tree.now (drop l.step-index l.steps)
