use Rattle.mp_layout.proofs.SumLemmas.{sum_of-append}
use Rattle.mp_layout.proofs.laws.sums_of_pieces.Goals as goal

pub returns : goal.returns
returns c = sum_of-append
