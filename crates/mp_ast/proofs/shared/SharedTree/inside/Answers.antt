use Rattle.std.proofs.Common.{sym, ap, ◌∙◌}
use Rattle.mp_ast.proofs.SharedLemmas.{inside_of-node}
use Rattle.mp_ast.proofs.shared.SharedTree.inside.Goals as goal

pub returns : goal.returns
returns c =
    rw (← c.self.view_is)
    (c.as_slice.ensures ∙ ap (λ n. n.inside) c.deref.ensures ∙ sym (inside_of-node c.self.inside.shared.value.own c.self.inside.shared.value.inside))
