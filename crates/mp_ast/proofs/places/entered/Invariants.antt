use Rattle.std.proofs.Common.{drop}
use Rattle.mp_ast.proofs.TurnLemmas.{Entering}
use Rattle.mp_ast.proofs.places.entered.Given as goal

abbrev pub invariant-nested : goal.invariant-nested
invariant-nested l = Entering l.around l.first l.step l.start l.declarations (drop l.tree-index l.inside) l.named
