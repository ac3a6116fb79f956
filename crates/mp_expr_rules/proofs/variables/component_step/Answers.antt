use Rattle.mp_expr_rules.proofs.VariableLemmas.{same_component}
use Rattle.mp_expr_rules.proofs.variables.component_step.Goals as goal

pub returns-clause-follows : goal.returns-clause-follows
returns-clause-follows g c = (same_component _ _ c.args.a.now.packed _ _ c.index_selector.ensures c.in_ok-t.ensures.follows.0, c.in_ok-t.ensures.follows.1)
