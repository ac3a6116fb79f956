use Rattle.std.proofs.Common.{Some, Ok}
use Rattle.mp_tables.specs.Reports.{pure}
use Rattle.mp_tables.specs.PlainTypedExpressions as tree
use Rattle.mp_tables.specs.PlainTypedExpressions.{plain_typed_expr}
use Rattle.mp_tables.specs.Variables as variable
use Rattle.mp_tables.specs.Operators as rule
use Rattle.mp_expr_rules.specs.Judged.{value_of}
use Rattle.mp_expr_rules.proofs.ComposedLemmas.{after_report, found_by, unreported}
use Rattle.mp_expr_rules.proofs.operators.negated.Goals as goal

pub returns-then-has_host : goal.returns-then-has_host
returns-then-has_host g c =
    let s = g.S.Scope.state c.args.scope.now in
    let e = c.args.errors.now in
    let v = variable.computed (Some rule.boolean) (tree.Not (plain_typed_expr c.args.node)) in
    rw (c.in-Some.is, ← c.has_host.ensures, c.if-has_host.true)
    (unreported value_of (pure v) 330 c.args.at s s e e c.negated_value.result (found_by value_of v s e c.negated_value.result c.negated_value.ensures))

pub returns : goal.returns
returns g c =
    let s = g.S.Scope.state c.args.scope.now in
    let e = c.report.new.errors in
    rw (c.in-Some.is, ← c.has_host.ensures, c.if-has_host.false)
    (after_report value_of (pure variable.wrong) 330 c.args.at s s c.args.errors.now e e (Ok c.wrong-2.result) c.in_ok-report.ensures
    (found_by value_of variable.wrong s e (Ok c.wrong-2.result) c.wrong-2.ensures))
