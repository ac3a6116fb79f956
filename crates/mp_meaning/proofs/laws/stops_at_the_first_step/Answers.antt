use Rattle.mp_meaning.proofs.StopLaw.{stop_is_first, no_other_stop}
use Rattle.mp_meaning.proofs.laws.stops_at_the_first_step.Goals as goal

pub returns-clause-first : goal.returns-clause-first
returns-clause-first c = stop_is_first

pub returns-clause-only : goal.returns-clause-only
returns-clause-only c = no_other_stop
