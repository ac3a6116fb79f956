use Rattle.mp_meaning.proofs.SteadyLaw.{output_grows}
use Rattle.mp_meaning.proofs.laws.output_only_grows.Goals as goal

pub returns : goal.returns
returns c = output_grows
