use Rattle.std.proofs.Common.{◌∙◌, refl}
use Rattle.mp_base.specs.contracts.path.PathStepPartialEq.TheImpl as step
use Rattle.mp_scope.proofs.NestedLemmas.{begins-starts_with}
use Rattle.mp_scope.proofs.search.begins.Goals as goal

pub returns : goal.returns
returns c = c.starts_with.ensures.value ∙ begins-starts_with step.eq-value.it (λ s t. refl) c.args.outer.now c.args.path.now
