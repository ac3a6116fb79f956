use Rattle.mp_types.proofs.CompatibleLemmas.{string_types}
use Rattle.mp_types.proofs.laws.string_types.Goals as goal

pub returns : goal.returns
returns c = string_types
