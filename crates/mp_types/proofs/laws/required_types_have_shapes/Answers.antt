use Rattle.std.proofs.Common.{refl}
use Rattle.mp_types.proofs.RequiredLemmas.{required-host}
use Rattle.mp_types.proofs.laws.required_types_have_shapes.Goals as goal

pub returns-clause-none : goal.returns-clause-none
returns-clause-none c path at = refl

pub returns-clause-ordinal : goal.returns-clause-ordinal
returns-clause-ordinal c = required-host
