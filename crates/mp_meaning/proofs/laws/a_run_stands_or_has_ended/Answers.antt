use Rattle.mp_meaning.proofs.SteadyLaw.{endings_stay, stands_before, starts_are_counted}
use Rattle.mp_meaning.proofs.laws.a_run_stands_or_has_ended.Goals as goal

pub returns-clause-ended : goal.returns-clause-ended
returns-clause-ended c = endings_stay

pub returns-clause-stands : goal.returns-clause-stands
returns-clause-stands c = stands_before

pub returns-clause-counted : goal.returns-clause-counted
returns-clause-counted c = starts_are_counted
