use Rattle.std.proofs.Common.{refl}
use Rattle.mp_types.proofs.OrdinalLemmas.{host_cases, names_numbered, range_or_names}
use Rattle.mp_types.proofs.laws.ordinal_types.Goals as goal

pub returns-clause-subrange : goal.returns-clause-subrange
returns-clause-subrange c id values = refl

pub returns-clause-enumeration : goal.returns-clause-enumeration
returns-clause-enumeration c = names_numbered

pub returns-clause-no_other : goal.returns-clause-no_other
returns-clause-no_other c = range_or_names

pub returns-clause-host : goal.returns-clause-host
returns-clause-host c = host_cases
