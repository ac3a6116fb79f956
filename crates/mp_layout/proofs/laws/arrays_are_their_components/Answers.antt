use Rattle.mp_layout.proofs.SumLemmas.{array_cells-sum}
use Rattle.mp_layout.proofs.laws.arrays_are_their_components.Goals as goal

pub returns : goal.returns
returns c = array_cells-sum
