use Rattle.mp_types.proofs.CompatibleLemmas.{one_identity}
use Rattle.mp_types.proofs.laws.same_types_have_one_identity.Goals as goal

pub returns : goal.returns
returns c = one_identity
