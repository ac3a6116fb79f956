use Rattle.std.proofs.Common.{drop}
use Rattle.mp_ast.proofs.TurnLemmas.{Indexing}
use Rattle.mp_ast.proofs.places.index_at.Given as goal

abbrev pub invariant-nested : goal.invariant-nested
invariant-nested l = Indexing l.block l.first l.ordinal l.start l.declarations (drop l.tree-index l.inside)
