use Rattle.mp_code.proofs.ReachedLemmas.{reached_is_served}
use Rattle.mp_code.proofs.laws.reached_is_served.Goals as goal

pub returns : goal.returns
returns c = reached_is_served
