use Rattle.std.proofs.Common.{◌∙◌, refl}
use Rattle.mp_scope.proofs.KeptLemmas.{lookup-tables}
use Rattle.mp_base.specs.contracts.path.PathStepPartialEq.TheImpl as step
use Rattle.mp_scope.proofs.tables.Tables.at.Goals as goal

pub returns : goal.returns
returns c =
    let keyed = lookup-tables step.eq-value.it (λ s t. refl) c.args.steps.now c.self.inside.by_path.entries c.self.invariant.keyed in
    rw c.self.view_is at (c.get.ensures.value ∙ keyed)
