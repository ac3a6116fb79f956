use Rattle.std.proofs.Common.{sym}
use Rattle.mp_expr_rules.specs.Regions.{field_of}
use Rattle.mp_expr_rules.proofs.StandingLemmas.{field_stands}
use Rattle.mp_expr_rules.proofs.variables.record_step.Goals as goal

pub selected_field-requires : goal.selected_field-requires
selected_field-requires g c =
    field_stands (g.S.Scope.state c.args.scope.now).stands c.args.x.now.name c.args.of.now (field_of c.args.x.now.name c.in-Some.field) c.requires (sym c.in-Some.ensures)
