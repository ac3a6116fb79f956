use Rattle.mp_layout.proofs.SumLemmas.{apart, within}
use Rattle.mp_layout.proofs.laws.parts_stand_apart.Goals as goal

pub returns-clause-apart : goal.returns-clause-apart
returns-clause-apart c = apart

pub returns-clause-within : goal.returns-clause-within
returns-clause-within c = within
