use Rattle.std.proofs.Common.{◌∙◌, sym}
use Rattle.mp_scope.proofs.NestedLemmas.{nested_at-around}
use Rattle.mp_scope.proofs.search.nested_at.Goals as goal

pub returns-in-Some : goal.returns-in-Some
returns-in-Some c =
    c.nested_in.ensures ∙ sym (nested_at-around c.args.tables.now c.args.path.now c.in-Some.around.now c.in-Some.step.now c.in-Some.ensures.cases.0)
