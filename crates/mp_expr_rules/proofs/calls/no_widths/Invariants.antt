use Rattle.std.proofs.Common.{drop, map}
use Rattle.mp_tables.specs.Reports.{Rest, each}
use Rattle.mp_tables.specs.Calls.{no_width}
use Rattle.mp_expr_rules.specs.Calling.{judged_of}
use Rattle.mp_expr_rules.proofs.calls.no_widths.Given as goal

abbrev pub invariant-actuals : goal.invariant-actuals
invariant-actuals g l =
    let state = g.S.Scope.state in
    Rest (each no_width (map judged_of (drop l.j-index l.js))) (state l.scope) l.errors (each no_width (map judged_of l.js)) (state l.initial.scope) l.initial.errors
