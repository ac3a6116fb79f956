use Rattle.mp_meaning.proofs.SteadyLaw.{activations_are_in_order}
use Rattle.mp_meaning.proofs.laws.activations_are_in_order.Goals as goal

pub returns : goal.returns
returns c = activations_are_in_order
