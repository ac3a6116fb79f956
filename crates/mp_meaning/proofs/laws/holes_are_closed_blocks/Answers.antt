use Rattle.mp_meaning.proofs.SteadyLaw.{holes_are_closed}
use Rattle.mp_meaning.proofs.OpenLaw.{holes_alone}
use Rattle.mp_meaning.proofs.laws.holes_are_closed_blocks.Goals as goal

pub returns-clause-closed : goal.returns-clause-closed
returns-clause-closed c = holes_are_closed

pub returns-clause-alone : goal.returns-clause-alone
returns-clause-alone c = holes_alone
