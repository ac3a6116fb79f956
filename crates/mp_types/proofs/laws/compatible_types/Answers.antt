use Rattle.mp_types.proofs.CompatibleLemmas.{compatible_cases, compatible-sym}
use Rattle.mp_types.proofs.laws.compatible_types.Goals as goal

pub returns-clause-cases : goal.returns-clause-cases
returns-clause-cases c = compatible_cases

pub returns-clause-symmetric : goal.returns-clause-symmetric
returns-clause-symmetric c = compatible-sym
