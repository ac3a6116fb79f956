use Rattle.std.proofs.Common.{sym, subst}
use Rattle.mp_expr_rules.specs.Regions.{UseIfStands}
use Rattle.mp_expr_rules.proofs.StandingLemmas.{opened_stands}
use Rattle.mp_expr_rules.proofs.names.used.Goals as goal

pub returns-in-Some-clause-stands : goal.returns-in-Some-clause-stands
returns-in-Some-clause-stands g c =
    let state = g.S.Scope.state c.args.scope.now in
    let found = rw c.as_slice.ensures at c.in-Some.ensures in
    subst (UseIfStands state.stands state.path_stands) (sym found) (opened_stands state.stands state.path_stands c.args.x.now.name c.args.region.now.opened c.requires)
