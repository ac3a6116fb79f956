use Rattle.std.proofs.Common.{sym, ap, ◌∙◌}
use Rattle.mp_ast.proofs.SharedLemmas.{own_of-node}
use Rattle.mp_ast.proofs.shared.SharedTree.own.Goals as goal

pub returns-clause-own : goal.returns-clause-own
returns-clause-own c =
    rw (← c.self.view_is)
    (ap (λ n. n.own) c.deref.ensures ∙ sym (own_of-node c.self.inside.shared.value.own c.self.inside.shared.value.inside))

pub returns-clause-tree : goal.returns-clause-tree
returns-clause-tree c = rw (← c.self.view_is) c.self.invariant.tree
