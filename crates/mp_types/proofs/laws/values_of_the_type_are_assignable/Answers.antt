use Rattle.mp_types.proofs.CompatibleLemmas.{assignable-itself}
use Rattle.mp_types.proofs.laws.values_of_the_type_are_assignable.Goals as goal

pub returns : goal.returns
returns c = assignable-itself
