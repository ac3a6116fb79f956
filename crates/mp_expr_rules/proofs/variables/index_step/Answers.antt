use Rattle.mp_expr_rules.proofs.variables.index_step.Goals as goal

pub returns-in-Arr-clause-follows : goal.returns-in-Arr-clause-follows
returns-in-Arr-clause-follows g c = rw (c.in-Some.is, c.in-Arr.is) c.component.ensures.follows
