use Rattle.mp_tables.specs.PlainTypedExpressions.{plain_typed_expr}
use Rattle.mp_expr_rules.specs.Judged.{component_step, step_of}
use Rattle.mp_expr_rules.proofs.ComposedLemmas.{after_report}
use Rattle.mp_expr_rules.proofs.variables.component.Goals as goal

pub returns-then-index_fits-clause-follows : goal.returns-then-index_fits-clause-follows
returns-then-index_fits-clause-follows g c = rw (← c.index_fits.ensures, c.if-index_fits.true) c.component_step.ensures.follows

pub returns-clause-follows : goal.returns-clause-follows
returns-clause-follows g c =
    rw (← c.index_fits.ensures, c.if-index_fits.false)
    (after_report step_of (component_step c.args.a.now (plain_typed_expr c.args.index)) 339 c.args.first _ _ _ _ _ _ c.in_ok-report.ensures c.component_step-2.ensures.follows)
