use Rattle.mp_types.proofs.AssignableLemmas.{assignable_cases}
use Rattle.mp_types.proofs.laws.assignable_types.Goals as goal

pub returns : goal.returns
returns c = assignable_cases
