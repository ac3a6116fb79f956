use Rattle.mp_expr_rules.proofs.variables.variable_use.Goals as goal

pub returns-in-OpenField-clause-follows : goal.returns-in-OpenField-clause-follows
returns-in-OpenField-clause-follows g c = rw c.in-OpenField.is c.open_variable.ensures.follows
